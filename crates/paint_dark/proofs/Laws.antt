-- One law for each way out of the functions that find a part dark: its premises are what is known there.
-- Assumes nothing.
use Prim.Native.Nat.{ℕ, zero, suc, ◌+◌, ◌*◌, ◌≤◌, ◌<◌}
use native.Mathlib.Omega.{arith}
use mathlib.Core.Path.{◌≡◌, refl, sym, ap, subst, ◌∙◌}
use mathlib.Core.Logic.{◌≢◌, ◌⊎◌, ⊎_elim}
use mathlib.Core.Bool.{Bool, true, false}
use mathlib.Core.List.{List}
use lib.ListN.{length}
use borrow.Author.Rules.{rules}
use Rattle.laws.proofs.Cases.{clash}
use Rattle.laws.proofs.Says.{says_lt, says_else}
use Rattle.std.specs.Prelude.{Option, Some, None}
use Rattle.sheet_rules.specs.declared.Colour.{Colour}
use Rattle.pixel_rules.specs.declared.Mask.{Mask}
use Rattle.pixel_rules.specs.declared.Mask.TheVariants.{Zero, One, Hidden}
use Rattle.pixel_rules.specs.Samples.{bit_of}
use Rattle.pixel_rules.specs.Decide.{Stack, agree, pair_step, decide}
use Rattle.line_fetch.specs.declared.Row.{Row}
use Rattle.line_fetch.specs.Rows.{row_size, row_at, row_mask, row_image}
use Rattle.line_fetch.proofs.Laws.{mask_before, mask_after, mask_unread, image_unread}
use Rattle.line_pixel.specs.Rows.{row_stack, RowsFit}
use Rattle.paint_image.specs.Image.{Between}
use Rattle.paint_floor.specs.Floors.{Starts}
use Rattle.paint_dark.specs.Dark.{Darkens, image_unread as layer_unread, never_one, Lost}

-- ---- a pair

-- ---- one pair more

agree_dark : (p : Option Colour) → agree p None ≡ None
unfolding agree
agree_dark (Some c) = refl
agree_dark None = refl

step_dark : (m : Mask) (up : Option Colour) → up ≡ None → pair_step m None up ≡ None
unfolding pair_step agree
step_dark Zero up e = refl
step_dark One up e = e
step_dark Hidden up e = refl

step_unlit : (m : Mask) (up : Option Colour) → m ≢ One → pair_step m None up ≡ None
unfolding pair_step agree
step_unlit Zero up n = refl
step_unlit One up n = absurd (n refl)
step_unlit Hidden up n = refl

zero_bit : (n : ℕ) → n ≡ 0 → bit_of n ≢ One
unfolding bit_of
zero_bit n e z = let o : bit_of 0 ≡ Zero = refl in clash cc

never : (d : List ℕ) (m : Row) (x : ℕ) → m.other ≡ 0 → (m.read ≡ 0) ⊎ (m.to.0 ≤ m.from.0) → row_mask d m (record { 0 = x }) ≢ One
never d m x o k e =
    ⊎_elim
    (λ (z : x < m.from.0). zero_bit m.other o (mask_before d m (record { 0 = x }) (bit_of m.other) z refl ∙ e))
    (λ (z : x < m.from.0 → ⊥).
    ⊎_elim
    (λ (w : x < m.to.0).
    ⊎_elim
    (λ (u : m.read ≡ 0). let h : Hidden ≡ One = mask_unread d m (record { 0 = x }) (omega arith) w u ∙ e in clash cc)
    (λ (u : m.to.0 ≤ m.from.0). absurd (omega arith)) k)
    (λ (w : x < m.to.0 → ⊥). zero_bit m.other o (mask_after d m (record { 0 = x }) (bit_of m.other) (omega arith) refl ∙ e))
    (says_else (says_lt x m.to.0)))
    (says_else (says_lt x m.from.0))

module _ (s d ns : List ℕ) (a b : ℕ) where
  lost_step : (j : ℕ) (m r : Row) → m ≡ row_at ns (suc j * 2) → r ≡ row_at ns (suc j * 2 + 1) → Darkens m r a b → Lost s d ns j a b → Lost s d ns (suc j) a b
  unfolding decide
  lost_step j m r em er (layer_unread e k) g =
      record {
        lost = λ x p q.
            let st : Stack = row_stack s d ns (record { 0 = x }) in
            let u : st.image (suc j) ≡ None = ap (λ (w : Row). row_image s d w (record { 0 = x })) (sym er) ∙ sym (image_unread s d r (record { 0 = x }) (k.from x p q) (k.to x p q) e) in
            ap (λ (low : Option Colour). pair_step (st.mask (suc j)) low (st.image (suc j))) (g.lost x p q) ∙ step_dark (st.mask (suc j)) (st.image (suc j)) u;
      }
  lost_step j m r em er (never_one o k) g =
      record {
        lost = λ x p q.
            let st : Stack = row_stack s d ns (record { 0 = x }) in
            ap (λ (low : Option Colour). pair_step (st.mask (suc j)) low (st.image (suc j))) (g.lost x p q)
            ∙ step_unlit (st.mask (suc j)) (st.image (suc j)) (λ (z : st.mask (suc j) ≡ One). never d m x o k (ap (λ (w : Row). row_mask d w (record { 0 = x })) em ∙ z));
      }

  pub lost_more : (j : ℕ) (m r : Row) (z : Bool) → Lost s d ns j a b → m ≡ row_at ns ((j + 1) * 2) → r ≡ row_at ns ((j + 1) * 2 + 1) → (z ≡ true → Darkens m r a b) → z ≡ true → Lost s d ns (j + 1) a b
  lost_more j m r z g em er k t =
      let n : suc j ≡ j + 1 = omega arith in
      subst (λ (i : ℕ). Lost s d ns i a b) n
      (lost_step j m r (em ∙ ap (λ (i : ℕ). row_at ns (i * 2)) (sym n)) (er ∙ ap (λ (i : ℕ). row_at ns (i * 2 + 1)) (sym n)) (k t) g)

  pub lost_end : (pairs j : ℕ) → j ≤ pairs → pairs ≤ j → Lost s d ns j a b → true ≡ true → Lost s d ns pairs a b
  lost_end pairs j h k g t = let n : j ≡ pairs = omega arith in subst (λ (i : ℕ). Lost s d ns i a b) n g

  pub lost_not : (pairs : ℕ) → false ≡ true → Lost s d ns pairs a b
  lost_not pairs e = clash cc

  -- pair f shows its image layer, of which nothing is known
  pub lost_first : (pairs f : ℕ) (r : Row) (z : Bool) → Starts s d ns pairs a b f → r ≡ row_at ns (f * 2 + 1) → r.read ≡ 0 → (z ≡ true → Between r a b) → z ≡ true → Lost s d ns f a b
  lost_first pairs f r z g er e k t =
      record {
        lost = λ x p q. g.shows x p q ∙ ap (λ (w : Row). row_image s d w (record { 0 = x })) (sym er) ∙ sym (image_unread s d r (record { 0 = x }) ((k t).from x p q) ((k t).to x p q) e);
      }

module _ (s d ns : List ℕ) (pairs j : ℕ) (g : RowsFit s d ns pairs) (h : j < pairs) where
  pub mask_room : (j + 1) * 2 * row_size ≤ length ns
  mask_room = let r = (g.pair (j + 1) (omega arith) (omega arith)).room in omega arith

  pub image_room : ((j + 1) * 2 + 1) * row_size ≤ length ns
  image_room = (g.pair (j + 1) (omega arith) (omega arith)).room

module _ (s d ns : List ℕ) (pairs : ℕ) (g : RowsFit s d ns pairs) where
  pub floor_room : (f : ℕ) → f ≤ pairs → (f * 2 + 1) * row_size ≤ length ns
  floor_room zero h = let r = g.room in omega arith
  floor_room (suc f) h = (g.pair (suc f) (omega arith) h).room

pub starts_most : (s d ns : List ℕ) (pairs a b f : ℕ) → Starts s d ns pairs a b f → f ≤ pairs
starts_most s d ns pairs a b f g = g.most

pub ruleset losing = (rules, lost_more, lost_end, lost_not, lost_first, mask_room, image_room, floor_room, starts_most)
