-- One law for each way out of the functions of floors: its premises are what is known there.
-- Assumes nothing.
use Prim.Native.Nat.{ℕ, zero, suc, ◌+◌, ◌-◌, ◌*◌, ◌/◌, ◌≤◌, ◌<◌}
use native.Mathlib.Omega.{arith}
use mathlib.Core.Path.{◌≡◌, refl, sym, ap, subst, ◌∙◌}
use mathlib.Core.Logic.{◌≢◌, ⊎_elim}
use mathlib.Core.Bool.{Bool, true, cond}
use mathlib.Core.List.{List}
use lib.ListN.{length, get_or}
use lib.Dec.{eqb}
use borrow.Author.Tests.{eq-eqb, ne_eqb}
use borrow.Author.Rules.{rules}
use Rattle.laws.proofs.Cases.{clash}
use Rattle.laws.proofs.Says.{says_lt, says_eq, says_else}
use Rattle.pixel_rules.specs.Place.{scale}
use Rattle.line_fetch.specs.declared.Row.{Row}
use Rattle.line_fetch.specs.Rows.{MaskFits}
use Rattle.line_fetch.specs.Rows.{row_size, row_at, row_mask, row_image}
use Rattle.line_fetch.proofs.Laws.{mask_before, mask_after, mask_unread, mask_read_lem, image_unread}
use Rattle.line_pixel.specs.Rows.{row_stack, RowsFit}
use Rattle.pixel_rules.specs.declared.Mask.{Mask}
use Rattle.pixel_rules.specs.declared.Mask.TheVariants.{Zero, One, Hidden}
use Rattle.std.specs.Prelude.{Option, Some, None}
use Rattle.sheet_rules.specs.declared.Colour.{Colour}
use Rattle.pixel_rules.specs.Samples.{bit_of}
use Rattle.pixel_rules.specs.Decide.{Stack, agree, pair_step, decide}
use Rattle.paint_rules.specs.Floor.{dark, Settled, Step, stays, taken, lost}
use Rattle.paint_rules.proofs.Floors.{settled_first, settled_dark, settled_step}
use Rattle.paint_image.specs.Image.{Between, Within}
use Rattle.paint_choice.specs.Choice.{Marked, ever, mask_bits, MaskPart}
use Rattle.paint_choice.proofs.Marks.{marked_none, marked_as}
use Rattle.paint_floor.specs.Floors.{inside_bits, MarkOf, Covers, all_ones, all_dark, Sure, Starts}

-- ---- a part of an area, what stands for a pair

-- ---- beside a mask's area, and in it

module _ (l e : List ℕ) (p q v n : ℕ) where
  pub beside_ones : n ≢ 0 → Marked (ever 1) l p q v e → Marked (ever n) l p q v e
  unfolding ever
  beside_ones d c =
      record {
        long = c.long;
        there = λ i a b. c.there i a b ∙ sym (simp (ne_eqb n 0 d));
        before = c.before;
        behind = c.behind;
      }

  pub beside_zeros : n ≡ 0 → Marked (ever n) l p q v l
  unfolding ever
  beside_zeros d =
      record { long = refl; there = λ i a b. sym (simp (eq-eqb n 0 d)); before = λ i a. refl; behind = λ i a. refl }

pub ruleset besides = (rules, beside_ones, beside_zeros)

module _ (d : List ℕ) (m : Row) (v a x y : ℕ) (l : List ℕ) where
  pub inside_none : y ≤ x → Marked (inside_bits d m v a) l (x - a) (y - a) v l
  inside_none h = marked_none (inside_bits d m v a) l (x - a) (y - a) v (omega arith)

  pub inside_read : (e : List ℕ) → m.read ≢ 0 → Marked (mask_bits d m a) l (x - a) (y - a) v e → Marked (inside_bits d m v a) l (x - a) (y - a) v e
  unfolding inside_bits
  inside_read e n c = marked_as (mask_bits d m a) (inside_bits d m v a) l e (x - a) (y - a) v (λ i p q. sym (simp (ne_eqb m.read 0 n))) c

  pub inside_dark : (e : List ℕ) → m.read ≡ 0 → v ≡ dark → Marked (ever 1) l (x - a) (y - a) dark e → Marked (inside_bits d m v a) l (x - a) (y - a) v e
  unfolding inside_bits ever
  inside_dark e n k c =
      subst (λ (w : ℕ). Marked (inside_bits d m w a) l (x - a) (y - a) w e) (sym k)
      (marked_as (ever 1) (inside_bits d m dark a) l e (x - a) (y - a) dark (λ i p q. sym (simp (eq-eqb m.read 0 n))) c)

  pub inside_keep : m.read ≡ 0 → v ≢ dark → Marked (inside_bits d m v a) l (x - a) (y - a) v l
  unfolding inside_bits
  inside_keep n k =
      record { long = refl; there = λ i p q. sym (simp (eq-eqb m.read 0 n, ne_eqb v dark k)); before = λ i p. refl; behind = λ i p. refl }

pub part_of : (d : List ℕ) (m : Row) (x y : ℕ) → MaskFits d m → m.ratio ≤ 12 → Between m x y → y < 65536 → x < y → m.read ≢ 0 → MaskPart d m x y
unfolding scale
part_of d m x y f k g n h r =
    let t = g.to (y - 1) (omega arith) (omega arith) in
    record {
      some = h;
      turns = f.turns;
      few = k;
      from = g.from x (omega arith) h;
      to = omega arith;
      near = n;
      there = λ z p q. f.there (record { 0 = z }) p q r;
    }

pub ruleset insides = (rules, inside_none, inside_read, inside_dark, inside_keep, part_of)

-- ---- one pixel under a pair

bit_zero : (n : ℕ) → n ≡ 0 → bit_of n ≡ Zero
unfolding bit_of
bit_zero n e = simp (eq-eqb n 0 e)

bit_one : (n : ℕ) → n ≢ 0 → bit_of n ≡ One
unfolding bit_of
bit_one n e = simp (ne_eqb n 0 e)

zero_one : Zero ≢ One
zero_one e = clash cc

hidden_one : Hidden ≢ One
hidden_one e = clash cc

one_zero : One ≢ Zero
one_zero e = clash cc

hidden_zero : Hidden ≢ Zero
hidden_zero e = clash cc

module _ (st : Stack) (p c c' : ℕ) where
  -- a mask of one value, which is known
  step_known : (n v : ℕ) → st.mask p ≡ bit_of n → (v ≢ dark → v ≡ p) → (v ≡ dark → st.image p ≡ None) → c' ≡ cond (eqb n 0) c v → Step st p c c'
  step_known n v m k u e =
      ⊎_elim
      (λ (z : n ≡ 0). stays (λ h. zero_one (sym (m ∙ bit_zero n z) ∙ h)) (e ∙ simp (eq-eqb n 0 z)))
      (λ (z : n ≡ 0 → ⊥).
      let o : st.mask p ≡ One = m ∙ bit_one n z in
      let w : c' ≡ v = e ∙ simp (ne_eqb n 0 z) in
      ⊎_elim (λ (y : v ≡ dark). lost (λ h. one_zero (sym o ∙ h)) (u y) (w ∙ y)) (λ (y : v ≡ dark → ⊥). taken o (w ∙ k y)) (says_else (says_eq v dark)))
      (says_else (says_eq n 0))

  -- one that is not
  step_hidden : (v : ℕ) → st.mask p ≡ Hidden → (v ≡ dark → st.image p ≡ None) → c' ≡ cond (eqb (cond (eqb v dark) 1 0) 0) c v → Step st p c c'
  step_hidden v m u e =
      ⊎_elim
      (λ (y : v ≡ dark). let w : cond (eqb (cond (eqb v dark) 1 0) 0) c v ≡ v = simp (eq-eqb v dark y) in lost (λ h. hidden_zero (sym m ∙ h)) (u y) (e ∙ w ∙ y))
      (λ (y : v ≡ dark → ⊥). stays (λ h. hidden_one (sym m ∙ h)) (e ∙ simp (ne_eqb v dark y)))
      (says_else (says_eq v dark))

-- ---- the pixels of a part

module _ (s d ns : List ℕ) (f a b j : ℕ) (m r : Row) (em : m ≡ row_at ns ((j + 1) * 2)) (er : r ≡ row_at ns ((j + 1) * 2 + 1)) (x y : ℕ) (wx : Within m.from.0 a b x) (wy : Within m.to.0 x b y) where
  abbrev stack : ℕ → Stack
  stack i = row_stack s d ns (record { 0 = a + i })

  mask_is_lem : (i : ℕ) (o : Mask) → o ≡ row_mask d m (record { 0 = a + i }) → (stack i).mask (j + 1) ≡ o
  mask_is_lem i o e = sym (e ∙ ap (λ (w : Row). row_mask d w (record { 0 = a + i })) em)

  dark_is : (v i : ℕ) → MarkOf r (j + 1) x y v → x ≤ a + i → a + i < y → v ≡ dark → (stack i).image (j + 1) ≡ None
  dark_is v i k p q z =
      sym (image_unread s d r (record { 0 = a + i }) ((k.between z).from (a + i) p q) ((k.between z).to (a + i) p q) (k.unread z)
      ∙ ap (λ (w : Row). row_image s d w (record { 0 = a + i })) er)

  module _ (v : ℕ) (k : MarkOf r (j + 1) x y v) (nd : j + 1 ≢ dark) (l o₁ o₂ o₃ : List ℕ) (c₁ : Marked (ever m.other) l 0 (x - a) (j + 1) o₁)
      (c₂ : Marked (inside_bits d m v a) o₁ (x - a) (y - a) v o₂) (c₃ : Marked (ever m.other) o₂ (y - a) (b - a) (j + 1) o₃) where
    before_area : (i : ℕ) → i < x - a → Step (stack i) (j + 1) (get_or l i 0) (get_or o₃ i 0)
    unfolding ever
    before_area i h =
        let w = wy.low in
        step_known (stack i) (j + 1) (get_or l i 0) (get_or o₃ i 0) m.other (j + 1)
        (mask_is_lem i (bit_of m.other) (mask_before d m (record { 0 = a + i }) (bit_of m.other) (wx.before (a + i) (omega arith) (omega arith)) refl))
        (λ n. refl) (λ n. absurd (nd n))
        (c₃.before i (omega arith) ∙ c₂.before i h ∙ c₁.there i (omega arith) h)

    behind_area : (i : ℕ) → y - a ≤ i → i < b - a → Step (stack i) (j + 1) (get_or l i 0) (get_or o₃ i 0)
    unfolding ever
    behind_area i h q =
        let w = wy.low in
        let z = wx.low in
        step_known (stack i) (j + 1) (get_or l i 0) (get_or o₃ i 0) m.other (j + 1)
        (mask_is_lem i (bit_of m.other) (mask_after d m (record { 0 = a + i }) (bit_of m.other) (wy.behind (a + i) (omega arith) (omega arith)) refl))
        (λ n. refl) (λ n. absurd (nd n))
        (c₃.there i h q ∙ ap (λ (o : ℕ). cond (eqb m.other 0) o (j + 1)) (c₂.behind i h ∙ c₁.behind i (omega arith)))

    in_area : (i : ℕ) → x - a ≤ i → i < y - a → Step (stack i) (j + 1) (get_or l i 0) (get_or o₃ i 0)
    unfolding inside_bits mask_bits scale
    in_area i h q =
        let w = wx.low in
        let t = wy.high in
        let from = wx.behind (a + i) (omega arith) (omega arith) in
        let to = wy.before (a + i) (omega arith) (omega arith) in
        let e : get_or o₃ i 0 ≡ cond (eqb (inside_bits d m v a i) 0) (get_or l i 0) v = c₃.before i q ∙ c₂.there i h q ∙ ap (λ (o : ℕ). cond (eqb (inside_bits d m v a i) 0) o v) (c₁.behind i h) in
        ⊎_elim
        (λ (z : m.read ≡ 0).
        let g : inside_bits d m v a i ≡ cond (eqb v dark) 1 0 = simp (eq-eqb m.read 0 z) in
        step_hidden (stack i) (j + 1) (get_or l i 0) (get_or o₃ i 0) v (mask_is_lem i Hidden (mask_unread d m (record { 0 = a + i }) from to z))
        (dark_is v i k (omega arith) (omega arith)) (e ∙ ap (λ (o : ℕ). cond (eqb o 0) (get_or l i 0) v) g))
        (λ (z : m.read ≡ 0 → ⊥).
        let g : inside_bits d m v a i ≡ get_or d (m.at + (a + i - m.from.0) / m.ratio) 0 = simp (ne_eqb m.read 0 z) in
        step_known (stack i) (j + 1) (get_or l i 0) (get_or o₃ i 0) (get_or d (m.at + (a + i - m.from.0) / m.ratio) 0) v
        (mask_is_lem i (bit_of (get_or d (m.at + (a + i - m.from.0) / m.ratio) 0)) (mask_read_lem d m (record { 0 = a + i }) (bit_of (get_or d (m.at + (a + i - m.from.0) / m.ratio) 0)) (record { 0 = (a + i - m.from.0) / m.ratio }) from to z refl refl))
        k.same (dark_is v i k (omega arith) (omega arith)) (e ∙ ap (λ (o : ℕ). cond (eqb o 0) (get_or l i 0) v) g))
        (says_else (says_eq m.read 0))

    each : (i : ℕ) → i < b - a → Step (stack i) (j + 1) (get_or l i 0) (get_or o₃ i 0)
    each i h =
        ⊎_elim (λ (z : i < x - a). before_area i z)
        (λ (z : i < x - a → ⊥).
        ⊎_elim (λ (w : i < y - a). in_area i (omega arith) w) (λ (w : i < y - a → ⊥). behind_area i (omega arith) h) (says_else (says_lt i (y - a))))
        (says_else (says_lt i (x - a)))

    pub pair_sure : Sure s d ns f a (b - a) j l → f ≤ j → Sure s d ns f a (b - a) (j + 1) o₃
    pair_sure g h =
        let z : suc j ≡ j + 1 = omega arith in
        let r₀ = g.room in
        let n = c₁.long in
        let n₂ = c₂.long in
        let n₃ = c₃.long in
        record {
          room = omega arith;
          held = λ i q. subst (λ (o : ℕ). Settled (stack i) f (get_or o₃ i 0) o) z
              (settled_step (stack i) f (get_or l i 0) j (g.held i q) (get_or o₃ i 0) h (λ w. nd (sym z ∙ w)) (subst (λ (o : ℕ). Step (stack i) o (get_or l i 0) (get_or o₃ i 0)) (sym z) (each i q)));
        }

-- ---- what the functions of a pair ask

module _ (s d ns : List ℕ) (pairs j : ℕ) (g : RowsFit s d ns pairs) (h : j < pairs) where
  pub mask_room : (j + 1) * 2 * row_size ≤ length ns
  mask_room = let r = (g.pair (j + 1) (omega arith) (omega arith)).room in omega arith

  pub image_room : ((j + 1) * 2 + 1) * row_size ≤ length ns
  image_room = (g.pair (j + 1) (omega arith) (omega arith)).room

  pub mask_fits : (m : Row) → m ≡ row_at ns ((j + 1) * 2) → MaskFits d m
  mask_fits m e = subst (MaskFits d) (sym e) (g.pair (j + 1) (omega arith) (omega arith)).mask

-- ---- a pair that covers a part

agree_dark : (p : Option Colour) → agree p None ≡ None
unfolding agree
agree_dark (Some c) = refl
agree_dark None = refl

module _ (s d ns : List ℕ) (pairs a b : ℕ) where
  pub starts_none : Starts s d ns pairs a b 0
  unfolding decide
  starts_none = record { most = omega arith; shows = λ x p q. refl }

  shows_one : (st : Stack) (j : ℕ) → st.mask (suc j) ≡ One → decide st (suc j) ≡ st.image (suc j)
  unfolding decide pair_step
  shows_one st j e = ap (λ (o : Mask). pair_step o (decide st j) (st.image (suc j))) e

  shows_dark : (st : Stack) (j : ℕ) → st.mask (suc j) ≡ Hidden → st.image (suc j) ≡ None → decide st (suc j) ≡ st.image (suc j)
  unfolding decide pair_step
  shows_dark st j e u =
      ap (λ (o : Mask). pair_step o (decide st j) (st.image (suc j))) e ∙ ap (agree (decide st j)) u ∙ agree_dark (decide st j) ∙ sym u

  shows_suc : (j : ℕ) (m r : Row) → m ≡ row_at ns (suc j * 2) → r ≡ row_at ns (suc j * 2 + 1) → Covers m r a b → (x : ℕ) → a ≤ x → x < b
      → decide (row_stack s d ns (record { 0 = x })) (suc j) ≡ (row_stack s d ns (record { 0 = x })).image (suc j)
  shows_suc j m r em er (all_ones n h) x p q =
      shows_one (row_stack s d ns (record { 0 = x })) j
      (ap (λ (w : Row). row_mask d w (record { 0 = x })) (sym em)
      ∙ sym (⊎_elim
      (λ (z : x < m.from.0). mask_before d m (record { 0 = x }) (bit_of m.other) z refl)
      (λ (z : x < m.from.0 → ⊥). mask_after d m (record { 0 = x }) (bit_of m.other) (omega arith) refl)
      (says_else (says_lt x m.from.0)))
      ∙ bit_one m.other n)
  shows_suc j m r em er (all_dark n g o k) x p q =
      shows_dark (row_stack s d ns (record { 0 = x })) j
      (ap (λ (w : Row). row_mask d w (record { 0 = x })) (sym em) ∙ sym (mask_unread d m (record { 0 = x }) (g.from x p q) (g.to x p q) n))
      (ap (λ (w : Row). row_image s d w (record { 0 = x })) (sym er) ∙ sym (image_unread s d r (record { 0 = x }) (k.from x p q) (k.to x p q) o))

  pub starts_here : (j : ℕ) (m r : Row) (z : Bool) → m ≡ row_at ns (j * 2) → r ≡ row_at ns (j * 2 + 1) → (z ≡ true → Covers m r a b) → z ≡ true → 0 < j → j ≤ pairs → Starts s d ns pairs a b j
  starts_here zero m r z em er k t h l = absurd (omega arith)
  starts_here (suc j) m r z em er k t h l = record { most = l; shows = shows_suc j m r em er (k t) }

  module _ (g : RowsFit s d ns pairs) (j : ℕ) (p : 0 < j) (q : j ≤ pairs) where
    pub first_mask : j * 2 * row_size ≤ length ns
    first_mask = let r = (g.pair j p q).room in omega arith

    pub first_image : (j * 2 + 1) * row_size ≤ length ns
    first_image = (g.pair j p q).room

pub ruleset starting = (rules, starts_none, starts_here, first_mask, first_image)

-- ---- the floors from there up

module _ (s d ns : List ℕ) (pairs a b f : ℕ) (g : Starts s d ns pairs a b f) (few : pairs ≤ 7) where
  pub floors_begun : (r : Row) (v : ℕ) (l e : List ℕ) → r ≡ row_at ns (f * 2 + 1) → MarkOf r f a b v → a ≤ b → b - a ≤ length l → Marked (ever 1) l 0 (b - a) v e → Sure s d ns f a (b - a) f e
  unfolding ever
  floors_begun r v l e er k h room c =
      let n = c.long in
      record {
        room = omega arith;
        held = λ i q.
            let st : Stack = row_stack s d ns (record { 0 = a + i }) in
            let w : get_or e i 0 ≡ v = c.there i (omega arith) q in
            let o = g.shows (a + i) (omega arith) (omega arith) in
            subst (λ (u : ℕ). Settled (row_stack s d ns (record { 0 = a + i })) f u f) (sym w)
            (⊎_elim
            (λ (z : v ≡ dark).
            subst (λ (u : ℕ). Settled (row_stack s d ns (record { 0 = a + i })) f u f) (sym z)
            (settled_dark (row_stack s d ns (record { 0 = a + i })) f f
            (o ∙ sym (image_unread s d r (record { 0 = a + i }) ((k.between z).from (a + i) (omega arith) (omega arith)) ((k.between z).to (a + i) (omega arith) (omega arith)) (k.unread z)
            ∙ ap (λ (w : Row). row_image s d w (record { 0 = a + i })) er))))
            (λ (z : v ≡ dark → ⊥).
            subst (λ (u : ℕ). Settled (row_stack s d ns (record { 0 = a + i })) f u f) (sym (k.same z))
            (settled_first (row_stack s d ns (record { 0 = a + i })) f (λ y. z (k.same z ∙ y)) o))
            (says_else (says_eq v dark)));
      }

pub floor_image : (s d ns : List ℕ) (pairs f : ℕ) → RowsFit s d ns pairs → f ≤ pairs → (f * 2 + 1) * row_size ≤ length ns
floor_image s d ns pairs zero g h = let r = g.room in omega arith
floor_image s d ns pairs (suc f) g h = (g.pair (suc f) (omega arith) h).room

pub record Flooring (s d ns : List ℕ) (pairs f a b : ℕ) (sel₀ bits₀ sel bits : List ℕ) (j : ℕ) : Type 0 where
  pub from : f ≤ j
  pub upto : j ≤ pairs
  pub sure : Sure s d ns f a (b - a) j sel
  pub long : length sel ≡ length sel₀
  pub wide : length bits ≡ length bits₀

module _ (s d ns : List ℕ) (pairs f a b : ℕ) (sel₀ bits₀ : List ℕ) where
  pub flooring_begun : Starts s d ns pairs a b f → Sure s d ns f a (b - a) f sel₀ → Flooring s d ns pairs f a b sel₀ bits₀ sel₀ bits₀ f
  flooring_begun g c = record { from = omega arith; upto = g.most; sure = c; long = refl; wide = refl }

  pub flooring_end : (sel bits : List ℕ) (j : ℕ) → Flooring s d ns pairs f a b sel₀ bits₀ sel bits j → pairs ≤ j → Sure s d ns f a (b - a) pairs sel
  flooring_end sel bits j c h = let u = c.upto in let z : j ≡ pairs = omega arith in subst (λ (i : ℕ). Sure s d ns f a (b - a) i sel) z c.sure

pub ruleset flooring = (rules, floors_begun, floor_image, flooring_begun, flooring_end)
