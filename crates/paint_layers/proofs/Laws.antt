-- One law for each way out of the functions that paint layer by layer: its premises are what is known there.
-- Assumes nothing.
use Prim.Native.Nat.{ℕ, zero, suc, ◌+◌, ◌-◌, ◌*◌, ◌≤◌, ◌<◌}
use native.Mathlib.Omega.{arith}
use mathlib.Core.Path.{◌≡◌, refl, sym, ap, ap₂, subst, ◌∙◌}
use mathlib.Core.Logic.{◌≢◌, ◌⊎◌, inl, inr, ⊎_elim}
use mathlib.Core.Bool.{Bool, true, false, cond}
use mathlib.Core.List.{List}
use lib.ListN.{length}
use lib.Dec.{eqb}
use borrow.Author.Tests.{eq-eqb, ne_eqb}
use borrow.Author.Rules.{rules}
use Rattle.laws.proofs.Says.{says_eq, says_else}
use Rattle.sheet_rules.specs.declared.Colour.{Colour}
use Rattle.std.specs.Prelude.{Option, None}
use Rattle.pixel_rules.specs.declared.Mask.{Mask}
use Rattle.pixel_rules.specs.declared.Mask.TheVariants.{Zero, One, Hidden}
use Rattle.pixel_rules.specs.Place.{scale}
use Rattle.pixel_rules.specs.Samples.{bit_of}
use Rattle.pixel_rules.specs.Decide.{Stack, pair_step, decide}
use Rattle.picture_rules.specs.Line.{four_of}
use Rattle.line_fetch.specs.declared.Row.{Row}
use Rattle.line_fetch.specs.Rows.{row_size, row_at, row_mask, row_image, MaskFits, ImageFits}
use Rattle.line_fetch.proofs.Laws.{mask_before, mask_after, mask_unread, mask_read_lem}
use Rattle.line_pixel.specs.Rows.{row_stack, RowsFit}
use Rattle.paint_words.specs.Words.{octets_of, four_from}
use Rattle.paint_coat.specs.Coat.{Coated, over, kept, chosen_by}
use Rattle.paint_coat.proofs.Coats.{coated_none, coated_chain, coated_as}
use Rattle.paint_image.specs.Image.{image_from, moved, Within, Plain, Between, Beside}
use Rattle.paint_choice.specs.Choice.{MaskPart}
use Rattle.paint_floor.specs.Floors.{PlainRows, Starts}
use Rattle.paint_layer.specs.Layer.{mask_at, agreed, agrees}
use Rattle.paint_layers.specs.Layers.{step_four, stepping, decided, Lowest}
use Rattle.paint_layers.proofs.Fours.{shown_is, agreed_four}

-- ---- the mask of a row

module _ (d : List ℕ) (m : Row) (x : ℕ) where
  out_bit : (x < m.from.0) ⊎ (m.to.0 ≤ x) → row_mask d m (record { 0 = x }) ≡ bit_of m.other
  out_bit k =
      ⊎_elim
      (λ (z : x < m.from.0). sym (mask_before d m (record { 0 = x }) (bit_of m.other) z refl))
      (λ (z : m.to.0 ≤ x). sym (mask_after d m (record { 0 = x }) (bit_of m.other) z refl)) k

  in_bit : m.from.0 ≤ x → x < m.to.0 → m.read ≢ 0 → row_mask d m (record { 0 = x }) ≡ bit_of (mask_at d m x)
  unfolding mask_at scale
  in_bit a b n = sym (mask_read_lem d m (record { 0 = x }) (bit_of (mask_at d m x)) (scale m.ratio m.from (record { 0 = x })) a b n refl refl)

-- what a known bit makes of a pixel
bit_step : (un up old : List ℕ) (n : ℕ) → step_four un (bit_of n) up old ≡ cond (eqb n 0) old up
unfolding step_four bit_of
bit_step un up old n = by (eqb n 0)
  where
    by : (z : Bool) → step_four un (cond z Zero One) up old ≡ cond z old up
    by true = refl
    by false = refl

-- ---- one pair over a part, beside its mask's area and in it

module _ (un s d : List ℕ) (m r : Row) where
  pub step_none : (l : List ℕ) (x y : ℕ) → y ≤ x → Coated (stepping un s d m r) l x y l
  step_none l x y h = coated_none (stepping un s d m r) l x y h

  pub step_kept : (l : List ℕ) (x y : ℕ) → Beside m x y → (m.other ≢ 0 → ⊥) → Coated (stepping un s d m r) l x y l
  unfolding stepping
  step_kept l x y k n =
      record {
        long = refl;
        there = λ p h g. sym (ap (λ (o : Mask). step_four un o (image_from un s d r p) (four_from l (p * 4))) (out_bit d m p (k.out p h g))
            ∙ bit_step un (image_from un s d r p) (four_from l (p * 4)) m.other ∙ simp (eq-eqb m.other 0 zero_other) refl);
        before = λ i h. refl;
        behind = λ i h. refl;
      }
    where
      zero_other : m.other ≡ 0
      zero_other = ⊎_elim (λ (z : m.other ≡ 0). z) (λ (z : m.other ≡ 0 → ⊥). absurd (n z)) (says_else (says_eq m.other 0))

  pub step_laid : (l e : List ℕ) (x y : ℕ) → Beside m x y → m.other ≢ 0 → x ≤ y → Coated (over (moved x x (image_from un s d r))) l x (x + (y - x)) e → Coated (stepping un s d m r) l x y e
  unfolding stepping over moved
  step_laid l e x y k n h c =
      let z : x + (y - x) ≡ y = omega arith in
      subst (λ (i : ℕ). Coated (stepping un s d m r) l x i e) z
      (coated_as (over (moved x x (image_from un s d r))) (stepping un s d m r) l e x (x + (y - x))
      (λ p old g j.
      let w : x + (p - x) ≡ p = omega arith in
      ap (image_from un s d r) w
      ∙ sym (ap (λ (o : Mask). step_four un o (image_from un s d r p) old) (out_bit d m p (k.out p g (omega arith)))
      ∙ bit_step un (image_from un s d r p) old m.other ∙ simp (ne_eqb m.other 0 n) refl)) c)

  pub step_agreed : (l e : List ℕ) (x y : ℕ) → Between m x y → m.read ≡ 0 → Coated (agrees (image_from un s d r) un) l x y e → Coated (stepping un s d m r) l x y e
  unfolding stepping agrees step_four
  step_agreed l e x y k n c =
      coated_as (agrees (image_from un s d r) un) (stepping un s d m r) l e x y
      (λ p old g j. ap (λ (o : Mask). step_four un o (image_from un s d r p) old) (mask_unread d m (record { 0 = p }) (k.from p g j) (k.to p g j) n)) c

  pub step_picked : (l e : List ℕ) (x y : ℕ) → Between m x y → (m.read ≡ 0 → ⊥) → Coated (chosen_by (mask_at d m) kept (over (image_from un s d r))) l x y e → Coated (stepping un s d m r) l x y e
  unfolding stepping chosen_by kept over
  step_picked l e x y k n c =
      coated_as (chosen_by (mask_at d m) kept (over (image_from un s d r))) (stepping un s d m r) l e x y
      (λ p old g j.
      sym (ap (λ (o : Mask). step_four un o (image_from un s d r p) old) (in_bit d m p (k.from p g j) (k.to p g j) n) ∙ bit_step un (image_from un s d r p) old (mask_at d m p))) c

  -- before the area, in it, behind it
  pub step_three : (l o p e : List ℕ) (a b x y : ℕ) → Within m.from.0 a b x → Within m.to.0 x b y → Coated (stepping un s d m r) l a x o → Coated (stepping un s d m r) o x y p
      → Coated (stepping un s d m r) p y b e → Coated (stepping un s d m r) l a b e
  step_three l o p e a b x y w v f g h =
      let i = w.low in
      let j = v.low in
      let k = v.high in
      coated_chain (stepping un s d m r) l p e a y b (omega arith) k (coated_chain (stepping un s d m r) l o p a x y i j f g) h

-- the rows by where they stand
pub step_as : (un s d l e : List ℕ) (m n r q : Row) (a b : ℕ) → m ≡ n → r ≡ q → Coated (stepping un s d m r) l a b e → Coated (stepping un s d n q) l a b e
step_as un s d l e m n r q a b i j c = subst (λ (w : Row). Coated (stepping un s d w q) l a b e) i (subst (λ (w : Row). Coated (stepping un s d m w) l a b e) j c)

module _ (m : Row) (a b x y : ℕ) where
  pub beside_before : Within m.from.0 a b x → Beside m a x
  beside_before w = record { out = λ p h g. inl (w.before p h g) }

  pub beside_behind : Within m.from.0 a b x → Within m.to.0 x b y → Beside m y b
  beside_behind w v = record { out = λ p h g. inr (v.behind p h g) }

  pub between_both : Within m.from.0 a b x → Within m.to.0 x b y → Between m x y
  between_both w v =
      let k = v.high in
      record { from = λ p h g. w.behind p h (omega arith); to = λ p h g. v.before p h g }

pub part_of : (d : List ℕ) (m : Row) (x y : ℕ) → MaskFits d m → m.ratio ≤ 12 → Between m x y → x < y → y < 65536 → (m.read ≡ 0 → ⊥) → MaskPart d m x y
unfolding scale
part_of d m x y g few k h near n =
    let p = k.from x (omega arith) (omega arith) in
    let q = k.to (y - 1) (omega arith) (omega arith) in
    record { some = omega arith; turns = g.turns; few = few; from = p; to = omega arith; near = near; there = λ z a b. g.there (record { 0 = z }) a b n }

pub ruleset siding = (rules, step_none, step_kept, step_laid, step_agreed, step_picked)

-- ---- what is decided: one pair more

module _ (u : Colour) (un s d ns : List ℕ) (eu : un ≡ four_of u None) where
  image_four : (x : ℕ) (r : Row) (j : ℕ) → r ≡ row_at ns (j * 2 + 1) → image_from un s d r x ≡ four_of u ((row_stack s d ns (record { 0 = x })).image j)
  unfolding image_from
  image_four x r j er = shown_is u un (row_image s d r (record { 0 = x })) eu ∙ ap (λ (w : Row). four_of u (row_image s d w (record { 0 = x }))) er

  step_four_lem : (o : Mask) (p q : Option Colour) → step_four un o (four_of u q) (four_of u p) ≡ four_of u (pair_step o p q)
  unfolding step_four pair_step
  step_four_lem Zero p q = refl
  step_four_lem One p q = refl
  step_four_lem Hidden p q = ap (λ (v : List ℕ). agreed (four_of u q) v (four_of u p)) eu ∙ agreed_four u p q

  pub decided_more : (l o e : List ℕ) (a b j : ℕ) → Coated (decided u s d ns j) l a b o → Coated (stepping un s d (row_at ns ((j + 1) * 2)) (row_at ns ((j + 1) * 2 + 1))) o a b e
      → Coated (decided u s d ns (j + 1)) l a b e
  unfolding decided stepping decide
  decided_more l o e a b j c k =
      let z : suc j ≡ j + 1 = omega arith in
      record {
        long = k.long ∙ c.long;
        there = λ x p q.
            let st : Stack = row_stack s d ns (record { 0 = x }) in
            k.there x p q
            ∙ ap₂ (λ (v w : List ℕ). step_four un (row_mask d (row_at ns ((j + 1) * 2)) (record { 0 = x })) v w) (image_four x (row_at ns ((j + 1) * 2 + 1)) (j + 1) refl) (c.there x p q)
            ∙ ap (λ (i : ℕ). step_four un (st.mask i) (four_of u (st.image i)) (four_of u (decide st j))) (sym z)
            ∙ step_four_lem (st.mask (suc j)) (decide st j) (st.image (suc j))
            ∙ ap (λ (i : ℕ). four_of u (decide st i)) z;
        before = λ i h. k.before i h ∙ c.before i h;
        behind = λ i h. k.behind i h ∙ c.behind i h;
      }

  -- the lowest layer alone
  pub lowest_one : (pairs a b f : ℕ) (l e : List ℕ) (low : Row) → Starts s d ns pairs a b f → low ≡ row_at ns (f * 2 + 1) → a < b
      → Coated (over (moved a a (image_from un s d low))) l a (a + (b - a)) e → Lowest u s d ns pairs a b l f e
  unfolding over moved decided
  lowest_one pairs a b f l e low g er h c =
      let z : a + (b - a) ≡ b = omega arith in
      record {
        most = g.most;
        done = subst (λ (i : ℕ). Coated (decided u s d ns f) l a i e) z
            (coated_as (over (moved a a (image_from un s d low))) (decided u s d ns f) l e a (a + (b - a))
            (λ p old i j.
            let w : a + (p - a) ≡ p = omega arith in
            ap (image_from un s d low) w ∙ image_four p low f er ∙ ap (four_of u) (sym (g.shows p i (omega arith)))) c);
      }

  -- with the pair above it
  two_four : (n : ℕ) (p q : Option Colour) → cond (eqb n 0) (four_of u p) (four_of u q) ≡ four_of u (pair_step (bit_of n) p q)
  unfolding bit_of pair_step
  two_four n p q = by (eqb n 0)
    where
      by : (z : Bool) → cond z (four_of u p) (four_of u q) ≡ four_of u (pair_step (cond z Zero One) p q)
      by true = refl
      by false = refl

  pub lowest_two : (pairs a b f : ℕ) (l e : List ℕ) (m low up : Row) (z : Bool) → Starts s d ns pairs a b f → f < pairs → m ≡ row_at ns (f * 2 + 2) → low ≡ row_at ns (f * 2 + 1) → up ≡ row_at ns (f * 2 + 3)
      → m.read ≢ 0 → (z ≡ true → Between m a b) → z ≡ true
      → Coated (chosen_by (mask_at d m) (over (image_from un s d low)) (over (image_from un s d up))) l a b e → Lowest u s d ns pairs a b l (f + 1) e
  unfolding over chosen_by decided decide
  lowest_two pairs a b f l e m low up z g h em el eu' n k t c =
      let w : suc f ≡ f + 1 = omega arith in
      let v : suc f * 2 ≡ f * 2 + 2 = omega arith in
      let y : suc f * 2 + 1 ≡ f * 2 + 3 = omega arith in
      record {
        most = omega arith;
        done = coated_as (chosen_by (mask_at d m) (over (image_from un s d low)) (over (image_from un s d up))) (decided u s d ns (f + 1)) l e a b
            (λ p old i j.
            let st : Stack = row_stack s d ns (record { 0 = p }) in
            let bit : st.mask (suc f) ≡ bit_of (mask_at d m p) = ap (λ (o : ℕ). row_mask d (row_at ns o) (record { 0 = p })) v ∙ ap (λ (o : Row). row_mask d o (record { 0 = p })) (sym em) ∙ in_bit d m p ((k t).from p i j) ((k t).to p i j) n in
            ap₂ (λ (x o : List ℕ). cond (eqb (mask_at d m p) 0) x o)
            (image_four p low f el ∙ ap (four_of u) (sym (g.shows p i j)))
            (image_four p up (suc f) (eu' ∙ ap (row_at ns) (sym y)))
            ∙ two_four (mask_at d m p) (decide st f) (st.image (suc f))
            ∙ ap (λ (o : Mask). four_of u (pair_step o (decide st f) (st.image (suc f)))) (sym bit)
            ∙ ap (λ (o : ℕ). four_of u (decide st o)) w) c;
      }

-- ---- what is asked of the rows

module _ (s d ns : List ℕ) (pairs j : ℕ) (g : RowsFit s d ns pairs) (k : PlainRows ns pairs) (h : j < pairs) where
  pub mask_room : (j + 1) * 2 * row_size ≤ length ns
  mask_room = let r = (g.pair (j + 1) (omega arith) (omega arith)).room in omega arith

  pub image_room : ((j + 1) * 2 + 1) * row_size ≤ length ns
  image_room = (g.pair (j + 1) (omega arith) (omega arith)).room

  pub mask_fits : (m : Row) → m ≡ row_at ns ((j + 1) * 2) → MaskFits d m
  mask_fits m e = subst (MaskFits d) (sym e) (g.pair (j + 1) (omega arith) (omega arith)).mask

  pub mask_plain : (m : Row) → m ≡ row_at ns ((j + 1) * 2) → m.ratio ≤ 12
  mask_plain m e = subst (λ (w : Row). w.ratio ≤ 12) (sym e) (k.mask (j + 1) (omega arith) (omega arith)).few

  pub image_fits : (r : Row) → r ≡ row_at ns ((j + 1) * 2 + 1) → ImageFits s d r
  image_fits r e = subst (ImageFits s d) (sym e) (g.pair (j + 1) (omega arith) (omega arith)).image

  pub image_plain : (r : Row) → r ≡ row_at ns ((j + 1) * 2 + 1) → Plain r
  image_plain r e = subst Plain (sym e) (k.image (j + 1) (omega arith))

  -- the same, as the lowest layer's row and those of the pair above it are found
  pub low_room : (j * 2 + 1) * row_size ≤ length ns
  low_room = let r = image_room in omega arith

  pub second_room : (j * 2 + 2) * row_size ≤ length ns
  second_room = let r = image_room in omega arith

  pub third_room : (j * 2 + 3) * row_size ≤ length ns
  third_room = let r = image_room in omega arith

  two_more : (j + 1) * 2 ≡ j * 2 + 2
  two_more = omega arith

  three_more : (j + 1) * 2 + 1 ≡ j * 2 + 3
  three_more = omega arith

  pub second_fits : (m : Row) → m ≡ row_at ns (j * 2 + 2) → MaskFits d m
  second_fits m e = mask_fits m (e ∙ ap (row_at ns) (sym two_more))

  pub second_plain : (m : Row) → m ≡ row_at ns (j * 2 + 2) → m.ratio ≤ 12
  second_plain m e = mask_plain m (e ∙ ap (row_at ns) (sym two_more))

  pub third_fits : (r : Row) → r ≡ row_at ns (j * 2 + 3) → ImageFits s d r
  third_fits r e = image_fits r (e ∙ ap (row_at ns) (sym three_more))

  pub third_plain : (r : Row) → r ≡ row_at ns (j * 2 + 3) → Plain r
  third_plain r e = image_plain r (e ∙ ap (row_at ns) (sym three_more))

  pub low_fits : (r : Row) → r ≡ row_at ns (j * 2 + 1) → ImageFits s d r
  low_fits r e = subst (ImageFits s d) (sym e) (by j refl)
    where
      by : (i : ℕ) → i ≡ j → ImageFits s d (row_at ns (i * 2 + 1))
      by zero z = g.image
      by (suc i) z = (g.pair (suc i) (omega arith) (omega arith)).image

  pub low_plain : (r : Row) → r ≡ row_at ns (j * 2 + 1) → Plain r
  low_plain r e = subst Plain (sym e) (k.image j (omega arith))

-- ---- the pairs above the lowest layer

-- Of every colour and row that fit what the lowest layer left: the loop no longer sees the two.
pub record Layering (w : ℕ) (s d ns : List ℕ) (pairs a b : ℕ) (l row₀ bits₀ : List ℕ) (k : ℕ) (out row bits : List ℕ) (j : ℕ) : Type 0 where
  pub upto : j ≤ pairs
  pub long : length out ≡ length l
  pub wide : length row ≡ length row₀
  pub broad : length bits ≡ length bits₀
  pub more : (u : Colour) (e : List ℕ) → octets_of w ≡ four_of u None → Coated (decided u s d ns k) e a b l → Coated (decided u s d ns j) e a b out

module _ (w : ℕ) (s d ns : List ℕ) (pairs a b : ℕ) (l row₀ bits₀ : List ℕ) (k : ℕ) where
  pub layering_begun : k ≤ pairs → Layering w s d ns pairs a b l row₀ bits₀ k l row₀ bits₀ k
  layering_begun h = record { upto = h; long = refl; wide = refl; broad = refl; more = λ u e z c. c }

  pub layering_more : (out row bits new r q : List ℕ) (j : ℕ) → Layering w s d ns pairs a b l row₀ bits₀ k out row bits j → j < pairs → length r ≡ length row → length q ≡ length bits
      → Coated (stepping (octets_of w) s d (row_at ns ((j + 1) * 2)) (row_at ns ((j + 1) * 2 + 1))) out a b new → Layering w s d ns pairs a b l row₀ bits₀ k new r q (j + 1)
  layering_more out row bits new r q j c h y z g =
      record {
        upto = omega arith;
        long = g.long ∙ c.long;
        wide = y ∙ c.wide;
        broad = z ∙ c.broad;
        more = λ u e x o. decided_more u (octets_of w) s d ns x e out new a b j (c.more u e x o) g;
      }

  pub layering_end : (out row bits : List ℕ) (j : ℕ) (u : Colour) (e : List ℕ) → Layering w s d ns pairs a b l row₀ bits₀ k out row bits j → pairs ≤ j → octets_of w ≡ four_of u None
      → Lowest u s d ns pairs a b e k l → Coated (decided u s d ns pairs) e a b out
  layering_end out row bits j u e c h x g =
      let p = c.upto in
      let z : j ≡ pairs = omega arith in
      subst (λ (i : ℕ). Coated (decided u s d ns i) e a b out) z (c.more u e x g.done)
