-- Laws of rows in which layer 2 gives one value all along: they fit as the rows do, and from where a pair above pair 1 hides what lies below it is all one
-- which value that is.
-- Assumes nothing.
use Prim.Native.Nat.{ℕ, zero, suc, ◌+◌, ◌-◌, ◌*◌, ◌≤◌, ◌<◌}
use native.Mathlib.Nat.{mul-zero}
use native.Mathlib.Omega.{arith}
use mathlib.Core.Path.{◌≡◌, refl, sym, ap, ap₂, subst, ◌∙◌}
use mathlib.Core.Logic.{◌≢◌, ⊎_elim}
use mathlib.Core.Bool.{Bool, true, false, cond}
use mathlib.Core.List.{List, ◌++◌}
use lib.ListN.{length, get_or, drop}
use lib.Dec.{eqb}
use borrow.Author.Tests.{lt-ltb, le-ltb}
use borrow.Author.Rules.{rules}
use Rattle.laws.proofs.Says.{says_eq, says_lt, says_else}
use Rattle.octets.specs.Octets.{put_at}
use Rattle.octets.proofs.Laws.{put_length, put_take, put_rest, put_get_d, put_get_d_before, put_get_d_after}
use Rattle.sheet_rules.specs.declared.Colour.{Colour}
use Rattle.std.specs.Prelude.{Option}
use Rattle.pixel_rules.specs.declared.Mask.{Mask}
use Rattle.pixel_rules.specs.Decide.{Stack, pair_step, decide}
use Rattle.picture_rules.specs.Line.{four_of}
use Rattle.line_fetch.specs.declared.Row.{Row}
use Rattle.line_fetch.specs.Rows.{row_size, row_at, numbers_of, row_mask, row_image, Turns, MaskFits, ImageFits}
use Rattle.line_pixel.specs.Rows.{row_stack, PairFits, RowsFit}
use Rattle.line_rows.specs.Rows.{row_out}
use Rattle.paint_coat.specs.Coat.{Coated, over}
use Rattle.paint_coat.proofs.Coats.{four_same}
use Rattle.paint_image.specs.Image.{Plain, Within}
use Rattle.paint_floor.specs.Floors.{Covers, PlainRows, Starts}
use Rattle.paint_floor.proofs.Laws.{starts_here}
use Rattle.band_group.specs.Group.{bit_rows, row_four, column_of, bit_at, group_four, mixed_four, BothPainted, Tail, nothing, covered}
use Rattle.band_group.proofs.Lines.{column_less, two_lines}

-- ---- the rows, layer 2 replaced

module _ (ns : List ℕ) (n : ℕ) (h : 2 * row_size ≤ length ns) where
  pub bit_long : length (bit_rows ns n) ≡ length ns
  bit_long = let q : length (numbers_of (row_out n)) ≡ row_size = refl in put_length ns row_size (numbers_of (row_out n)) (omega arith)

  own : (k : ℕ) → k < row_size → get_or (bit_rows ns n) (row_size + k) 0 ≡ get_or (numbers_of (row_out n)) k 0
  own k b = let q : length (numbers_of (row_out n)) ≡ row_size = refl in put_get_d ns row_size (numbers_of (row_out n)) k (omega arith) (omega arith)

  pub row_own : row_at (bit_rows ns n) 2 ≡ row_out n
  unfolding row_at
  row_own =
      let a = own 0 (omega arith) in
      let b = own 1 (omega arith) in
      let c = own 2 (omega arith) in
      let d = own 3 (omega arith) in
      let e = own 4 (omega arith) in
      let f = own 5 (omega arith) in
      let g = own 6 (omega arith) in
      cc

  other : (l k : ℕ) → 1 ≤ l → l ≢ 2 → k < row_size → get_or (bit_rows ns n) ((l - 1) * row_size + k) 0 ≡ get_or ns ((l - 1) * row_size + k) 0
  other l k a d b =
      let q : length (numbers_of (row_out n)) ≡ row_size = refl in
      ⊎_elim
      (λ (z : l < 2). put_get_d_before ns row_size (numbers_of (row_out n)) ((l - 1) * row_size + k) (omega arith) (omega arith))
      (λ (z : l < 2 → ⊥).
      ⊎_elim (λ (y : l ≡ 2). absurd (d y)) (λ (y : l ≡ 2 → ⊥). put_get_d_after ns row_size (numbers_of (row_out n)) ((l - 1) * row_size + k) (omega arith) (omega arith)) (says_else (says_eq l 2)))
      (says_else (says_lt l 2))

  pub row_other : (l : ℕ) → 1 ≤ l → l ≢ 2 → row_at (bit_rows ns n) l ≡ row_at ns l
  unfolding row_at
  row_other l a d =
      let z : (l - 1) * row_size + 0 ≡ (l - 1) * row_size = omega arith in
      let o : get_or (bit_rows ns n) ((l - 1) * row_size) 0 ≡ get_or ns ((l - 1) * row_size) 0
      = subst (λ (i : ℕ). get_or (bit_rows ns n) i 0 ≡ get_or ns i 0) z (other l 0 a d (omega arith)) in
      let b = other l 1 a d (omega arith) in
      let c = other l 2 a d (omega arith) in
      let e = other l 3 a d (omega arith) in
      let f = other l 4 a d (omega arith) in
      let g = other l 5 a d (omega arith) in
      let i = other l 6 a d (omega arith) in
      cc

pub bit_put : (l e : List ℕ) (n : ℕ) (r : Row) → r ≡ row_out n → e ≡ put_at l ((2 - 1) * row_size) (numbers_of r) → e ≡ bit_rows l n
bit_put l e n r q k = k ∙ ap (λ (w : Row). put_at l row_size (numbers_of w)) q

pub bit_painted : (u : Colour) (s d ns low : List ℕ) (n pairs first count : ℕ) (l e : List ℕ) → low ≡ bit_rows ns n → Coated (over (row_four u s d low pairs first)) l first (first + count) e
    → Coated (over (row_four u s d (bit_rows ns n) pairs first)) l first (first + count) e
bit_painted u s d ns low n pairs first count l e q c = subst (λ (r : List ℕ). Coated (over (row_four u s d r pairs first)) l first (first + count) e) q c

-- one value put over another
pub put_over : (l v w : List ℕ) (at : ℕ) → at ≤ length l → length v ≡ length w → put_at (put_at l at v) at w ≡ put_at l at w
unfolding put_at
put_over l v w at h e =
    ap₂ (λ (a b : List ℕ). a ++ (w ++ b)) (put_take l at v h)
    (ap (λ (n : ℕ). drop (at + n) (put_at l at v)) (sym e) ∙ put_rest l at v h ∙ ap (λ (n : ℕ). drop (at + n) l) e)

image_own : (j : ℕ) → j * 2 + 1 ≢ 2
image_own j e = absurd (omega arith)

out_turns : (n : ℕ) → Turns (row_out n)
out_turns n = record { some = omega arith; small = omega arith; factor = refl }

out_fits : (d : List ℕ) (n : ℕ) → MaskFits d (row_out n)
out_fits d n = record { turns = out_turns n; there = λ x a b. absurd (omega arith) }

out_plain : (n : ℕ) → Plain (row_out n)
out_plain n = record { few = omega arith; one = λ z. absurd (z refl) }

module _ (s d ns : List ℕ) (pairs n : ℕ) (g : RowsFit s d ns pairs) (some : 1 ≤ pairs) where
  pub two_rows : 2 * row_size ≤ length ns
  two_rows = let r = (g.pair 1 (omega arith) some).room in omega arith

  pair_fits : (j : ℕ) → 1 ≤ j → j ≤ pairs → PairFits s d (bit_rows ns n) j
  pair_fits j a b =
      let p = g.pair j a b in
      let l = bit_long ns n two_rows in
      record {
        some = a;
        room = subst (λ (m : ℕ). (j * 2 + 1) * row_size ≤ m) (sym l) p.room;
        mask = ⊎_elim
            (λ (z : j ≡ 1).
            let y : 2 ≡ j * 2 = omega arith in
            subst (λ (i : ℕ). MaskFits d (row_at (bit_rows ns n) i)) y (subst (MaskFits d) (sym (row_own ns n two_rows)) (out_fits d n)))
            (λ (z : j ≡ 1 → ⊥). subst (MaskFits d) (sym (row_other ns n two_rows (j * 2) (omega arith) (λ y. z (omega arith)))) p.mask)
            (says_else (says_eq j 1));
        image = subst (ImageFits s d) (sym (row_other ns n two_rows (j * 2 + 1) (omega arith) (image_own j))) p.image;
      }

  pub bit_fits : RowsFit s d (bit_rows ns n) pairs
  bit_fits =
      record {
        room = subst (λ (m : ℕ). row_size ≤ m) (sym (bit_long ns n two_rows)) g.room;
        image = subst (ImageFits s d) (sym (row_other ns n two_rows 1 (omega arith) (λ z. absurd (omega arith)))) g.image;
        pair = pair_fits;
      }

  pub bit_plain : PlainRows ns pairs → PlainRows (bit_rows ns n) pairs
  bit_plain k =
      record {
        image = λ j b. subst Plain (sym (row_other ns n two_rows (j * 2 + 1) (omega arith) (image_own j))) (k.image j b);
        mask = λ j a b. ⊎_elim
            (λ (z : j ≡ 1).
            let y : 2 ≡ j * 2 = omega arith in
            subst (λ (i : ℕ). Plain (row_at (bit_rows ns n) i)) y (subst Plain (sym (row_own ns n two_rows)) (out_plain n)))
            (λ (z : j ≡ 1 → ⊥). subst Plain (sym (row_other ns n two_rows (j * 2) (omega arith) (λ y. z (omega arith)))) (k.mask j a b))
            (says_else (says_eq j 1));
      }

-- the rows after layer 2's was put
module _ (s d ns low : List ℕ) (pairs n : ℕ) (g : RowsFit s d ns pairs) (some : 1 ≤ pairs) (e : low ≡ bit_rows ns n) where
  pub put_fits : RowsFit s d low pairs
  put_fits = subst (λ (l : List ℕ). RowsFit s d l pairs) (sym e) (bit_fits s d ns pairs n g some)

  pub put_plain : PlainRows ns pairs → PlainRows low pairs
  put_plain k = subst (λ (l : List ℕ). PlainRows l pairs) (sym e) (bit_plain s d ns pairs n g some k)

-- ---- from where on the lines are alike

module _ (ns : List ℕ) (pairs width : ℕ) where
  pub tail_none : Tail ns pairs width width
  tail_none = nothing refl

  pub tail_here : (j c : ℕ) (m r : Row) (z : Bool) → 1 < j → j ≤ pairs → m ≡ row_at ns (j * 2) → r ≡ row_at ns (j * 2 + 1) → (z ≡ true → Covers m r c width) → z ≡ true → Tail ns pairs width c
  tail_here j c m r z a b em er k t = covered j a b (subst (λ (w : Row). Covers (row_at ns (j * 2)) w c width) er (subst (λ (w : Row). Covers w r c width) em (k t)))

pub tail_room : (s d ns : List ℕ) (pairs j : ℕ) → RowsFit s d ns pairs → 1 < j → j ≤ pairs → j * 2 * row_size ≤ length ns
tail_room s d ns pairs j g a b = let r = (g.pair j (omega arith) b).room in omega arith

pub tail_image_room : (s d ns : List ℕ) (pairs j : ℕ) → RowsFit s d ns pairs → 1 < j → j ≤ pairs → (j * 2 + 1) * row_size ≤ length ns
tail_image_room s d ns pairs j g a b = (g.pair j (omega arith) b).room

pub within_most : (x a b r : ℕ) → Within x a b r → r ≤ b
within_most x a b r w = w.high

pub ruleset tailing = (rules, tail_none, tail_here, tail_room, tail_image_room, within_most)

-- what is decided from pair j on hangs on what is above it alone
decide_above : (st ot : Stack) (j n : ℕ) → j ≤ n → decide st j ≡ decide ot j → ((i : ℕ) → j < i → st.mask i ≡ ot.mask i) → ((i : ℕ) → j < i → st.image i ≡ ot.image i)
    → decide st n ≡ decide ot n
unfolding decide
decide_above st ot j zero h e f g = let z : j ≡ 0 = omega arith in subst (λ (n : ℕ). decide st n ≡ decide ot n) z e
decide_above st ot j (suc n) h e f g =
    ⊎_elim
    (λ (z : j < suc n).
    ap (λ (o : Mask). pair_step o (decide st n) (st.image (suc n))) (f (suc n) z)
    ∙ ap₂ (λ (p q : Option Colour). pair_step (ot.mask (suc n)) p q) (decide_above st ot j n (omega arith) e f g) (g (suc n) z))
    (λ (z : j < suc n → ⊥). let y : j ≡ suc n = omega arith in subst (λ (m : ℕ). decide st m ≡ decide ot m) y e)
    (says_else (says_lt j (suc n)))

module _ (s d ns : List ℕ) (pairs width c : ℕ) (h : 2 * row_size ≤ length ns) where
  abbrev stack : ℕ → ℕ → Stack
  stack n x = row_stack s d (bit_rows ns n) (record { 0 = x })

  same_row : (l : ℕ) → 1 ≤ l → l ≢ 2 → row_at (bit_rows ns 0) l ≡ row_at (bit_rows ns 1) l
  same_row l a b = row_other ns 0 h l a b ∙ sym (row_other ns 1 h l a b)

  shown : (n j : ℕ) → 2 ≤ j → j ≤ pairs → Covers (row_at ns (j * 2)) (row_at ns (j * 2 + 1)) c width → Starts s d (bit_rows ns n) pairs c width j
  shown n j a b k =
      starts_here s d (bit_rows ns n) pairs c width j (row_at ns (j * 2)) (row_at ns (j * 2 + 1)) true (sym (row_other ns n h (j * 2) (omega arith) (λ z. absurd (omega arith))))
      (sym (row_other ns n h (j * 2 + 1) (omega arith) (image_own j))) (λ t. k) refl (omega arith) b

  pub alike : Tail ns pairs width c → (x : ℕ) → c ≤ x → x < width → decide (stack 0 x) pairs ≡ decide (stack 1 x) pairs
  alike (nothing e) x a b = absurd (omega arith)
  alike (covered j p q k) x a b =
      decide_above (stack 0 x) (stack 1 x) j pairs q
      ((shown 0 j p q k).shows x a b ∙ ap (λ (r : Row). row_image s d r (record { 0 = x })) (same_row (j * 2 + 1) (omega arith) (image_own j)) ∙ sym ((shown 1 j p q k).shows x a b))
      (λ i u. ap (λ (r : Row). row_mask d r (record { 0 = x })) (same_row (i * 2) (omega arith) (λ y. absurd (omega arith))))
      (λ i u. ap (λ (r : Row). row_image s d r (record { 0 = x })) (same_row (i * 2 + 1) (omega arith) (image_own i)))

-- ---- the two lines that are painted

module _ (u : Colour) (s d ns : List ℕ) (pairs first width c : ℕ) (fit : RowsFit s d ns pairs) (some : 1 ≤ pairs) (k : c ≤ width) (low : List ℕ) (el : low ≡ bit_rows ns 0) where
  up_is : bit_rows low 1 ≡ bit_rows ns 1
  up_is = ap (λ (l : List ℕ). bit_rows l 1) el ∙ let h = two_rows s d ns pairs 0 fit some in put_over ns (numbers_of (row_out 0)) (numbers_of (row_out 1)) row_size (omega arith) refl

  pub both_painted : (l o p : List ℕ) → Coated (over (row_four u s d (bit_rows ns 0) pairs first)) l first (first + width) o
      → Coated (over (row_four u s d (bit_rows low 1) pairs (first + width))) o (first + width) (first + width + c) p → BothPainted u s d ns pairs first width c l p
  unfolding over row_four
  both_painted l o p f h =
      record {
        long = h.long ∙ f.long;
        low = λ x a.
            let z : first + x - first ≡ x = omega arith in
            four_same o p ((first + x) * 4) (λ i v w. h.before i (omega arith)) ∙ f.there (first + x) (omega arith) (omega arith)
            ∙ ap (λ (y : ℕ). four_of u (decide (row_stack s d (bit_rows ns 0) (record { 0 = y })) pairs)) z;
        up = λ x a.
            let z : first + width + x - (first + width) ≡ x = omega arith in
            h.there (first + width + x) (omega arith) (omega arith) ∙ ap₂ (λ (q : List ℕ) (y : ℕ). four_of u (decide (row_stack s d q (record { 0 = y })) pairs)) up_is z;
        before = λ i a. h.before i (omega arith) ∙ f.before i a;
        behind = λ i a. h.behind i a ∙ f.behind i (omega arith);
      }

-- ---- a group of lines, from the two that were painted

module _ (u : Colour) (s d ns : List ℕ) (pairs at step first width c g : ℕ) (fit : RowsFit s d ns pairs) (some : 1 ≤ pairs) (two : 2 ≤ g) (k : c ≤ width) (tail : Tail ns pairs width c)
    (l p e : List ℕ) (f : BothPainted u s d ns pairs first width c l p) (m : Coated (over (mixed_four p d at step first width c)) p first (first + g * width) e) where
  abbrev sample : ℕ → ℕ → Option Colour
  sample n x = decide (row_stack s d (bit_rows ns n) (record { 0 = x })) pairs

  both : (b : Bool) (x : ℕ) → sample 0 x ≡ sample 1 x → four_of u (sample 0 x) ≡ cond b (four_of u (sample 0 x)) (four_of u (sample 1 x))
  both true x q = refl
  both false x q = ap (four_of u) q

  pixel : (q : ℕ) → 0 < width → mixed_four p d at step first width c q ≡ group_four u s d ns pairs at step first width q
  unfolding mixed_four group_four
  pixel q w =
      let x : ℕ = column_of first width q in
      let b = column_less first width q w in
      ⊎_elim
      (λ (y : x < c).
      rw (lt-ltb x c y)
      (ap₂ (λ (v t : List ℕ). cond (eqb (bit_at d at step first width q) 0) v t) (f.low x b) (f.up x y)))
      (λ (y : x < c → ⊥).
      rw (le-ltb x c (omega arith))
      (f.low x b ∙ both (eqb (bit_at d at step first width q) 0) x (alike s d ns pairs width c (two_rows s d ns pairs 0 fit some) tail x (omega arith) b)))
      (says_else (says_lt x c))

  pub group_put : Coated (over (group_four u s d ns pairs at step first width)) l first (first + g * width) e
  unfolding over
  group_put =
      let t = two_lines g width first two in
      record {
        long = m.long ∙ f.long;
        there = λ q a b. m.there q a b ∙ pixel q (some_width q a b);
        before = λ i a. m.before i a ∙ f.before i a;
        behind = λ i a. m.behind i a ∙ f.behind i (omega arith);
      }
    where
      some_width : (q : ℕ) → first ≤ q → q < first + g * width → 0 < width
      some_width q a b = ⊎_elim (λ (z : 0 < width). z) (λ (z : 0 < width → ⊥). let y : width ≡ 0 = omega arith in let n : g * width ≡ 0 = ap (λ (i : ℕ). g * i) y ∙ mul-zero g in absurd (omega arith)) (says_else (says_lt 0 width))

-- two lines lie within the band
pub both_room : (g width first c room : ℕ) → 2 ≤ g → c ≤ width → (first + g * width) * 4 ≤ room → (first + width + c) * 4 ≤ room
both_room g width first c room h k f = let t = two_lines g width first h in omega arith
