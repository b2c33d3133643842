-- Laws of the lines of a group: one painted at its place, one mixed of the first two, all of them. Places are pixels of the band.
-- Assumes nothing.
use Prim.Native.Nat.{ℕ, suc, ◌+◌, ◌-◌, ◌*◌, ◌/◌, ◌%◌, ◌≤◌, ◌<◌}
use native.Mathlib.Nat.{mul-le-mul_right, add-mul, one-mul, zero-mul, mul-add-div_right, mul-add-mod_self_right, div-eq_of_lt, mod-eq_of_lt, add-zero, div-add-mod', mod-lt}
use native.Mathlib.Omega.{arith}
use mathlib.Core.Path.{◌≡◌, refl, sym, ap, ap₂, subst, ◌∙◌}
use mathlib.Core.Logic.{⊎_elim}
use mathlib.Core.Bool.{cond}
use mathlib.Core.List.{List, [], ◌++◌, append-nil}
use lib.ListN.{length, get_or, take, drop, length-take, length-drop, drop_of_length-le}
use lib.Seq.{take_all, drop-drop, get_or-drop}
use lib.Dec.{eqb, ltb}
use borrow.Author.Tests.{lt-ltb, le-ltb}
use borrow.Author.Rules.{rules}
use Rattle.laws.proofs.Says.{says_lt, says_else}
use Rattle.octets.specs.Octets.{put_at}
use Rattle.octets.proofs.Laws.{put_length, put_get_d, put_get_d_before, put_get_d_after}
use Rattle.sheet_rules.specs.declared.Colour.{Colour}
use Rattle.pixel_rules.specs.declared.MainPos.{MainPos}
use Rattle.std.specs.Prelude.{Option}
use Rattle.pixel_rules.specs.Decide.{decide}
use Rattle.picture_rules.specs.Line.{four_of, pixels}
use Rattle.picture_rules.proofs.Fours.{length_pixels}
use Rattle.line_pixel.specs.Rows.{row_stack}
use Rattle.paint_words.specs.Words.{four_from}
use Rattle.paint_coat.specs.Coat.{Coated, over}
use Rattle.paint_coat.proofs.Coats.{four_same, coated_none, coated_chain, coated_as}
use Rattle.paint_line.proofs.Octets.{four_pixels}
use Rattle.band_mix.specs.Mix.{mixed_from, copied_from, TwoMixed}
use Rattle.band_group.specs.Group.{row_four, line_of, column_of, bit_at, mixed_four, part_four}

-- ---- a line painted at its place

-- a part from a place on, with octets put in front of it, goes back as the whole with these octets put at the place
part_back : (d : List ℕ) (at : ℕ) (v : List ℕ) → at + length v ≤ length d
    → take at d ++ (put_at (take (length d - at) (drop at d)) 0 v ++ drop (length d - at) (drop at d)) ≡ put_at d at v
unfolding put_at
part_back d at v h =
    let l = length-drop at d in
    let whole : take (length d - at) (drop at d) ≡ drop at d = take_all (length d - at) (drop at d) (omega arith) in
    let z : at + (0 + length v) ≡ at + length v = omega arith in
    let none : drop (length d - at) (drop at d) ≡ [] = drop_of_length-le (drop at d) {i = length d - at} (omega arith) in
    ap₂ (λ (a b : List ℕ). take at d ++ ((v ++ drop (0 + length v) a) ++ b)) whole none
    ∙ ap (λ (a : List ℕ). take at d ++ a) (append-nil (v ++ drop (0 + length v) (drop at d)))
    ∙ ap (λ (a : List ℕ). take at d ++ (v ++ a)) (drop-drop (0 + length v) at d)
    ∙ ap (λ (n : ℕ). take at d ++ (v ++ drop n d)) z

-- octets put at pixel `first` are a coat of its pixels
four_put : (l v : List ℕ) (first x : ℕ) → first * 4 ≤ length l → x * 4 + 4 ≤ length v → four_from (put_at l (first * 4) v) ((first + x) * 4) ≡ four_from v (x * 4)
unfolding four_from
four_put l v first x h g =
    let e₀ : (first + x) * 4 ≡ first * 4 + x * 4 = omega arith in
    let e₁ : (first + x) * 4 + 1 ≡ first * 4 + (x * 4 + 1) = omega arith in
    let e₂ : (first + x) * 4 + 2 ≡ first * 4 + (x * 4 + 2) = omega arith in
    let e₃ : (first + x) * 4 + 3 ≡ first * 4 + (x * 4 + 3) = omega arith in
    let a = ap (λ (i : ℕ). get_or (put_at l (first * 4) v) i 0) e₀ ∙ put_get_d l (first * 4) v (x * 4) h (omega arith) in
    let b = ap (λ (i : ℕ). get_or (put_at l (first * 4) v) i 0) e₁ ∙ put_get_d l (first * 4) v (x * 4 + 1) h (omega arith) in
    let c = ap (λ (i : ℕ). get_or (put_at l (first * 4) v) i 0) e₂ ∙ put_get_d l (first * 4) v (x * 4 + 2) h (omega arith) in
    let d = ap (λ (i : ℕ). get_or (put_at l (first * 4) v) i 0) e₃ ∙ put_get_d l (first * 4) v (x * 4 + 3) h (omega arith) in
    cc

pub coated_line : (f : ℕ → List ℕ) (l v e : List ℕ) (first n : ℕ) → length v ≡ n * 4 → (first + n) * 4 ≤ length l → e ≡ put_at l (first * 4) v
    → ((x : ℕ) → x < n → four_from v (x * 4) ≡ f (first + x)) → Coated (over f) l first (first + n) e
unfolding over
coated_line f l v e first n k h q g =
    record {
      long = ap length q ∙ put_length l (first * 4) v (omega arith);
      there = λ p a b.
          let z : first + (p - first) ≡ p = omega arith in
          ap (λ (m : List ℕ). four_from m (p * 4)) q ∙ ap (λ (i : ℕ). four_from (put_at l (first * 4) v) (i * 4)) (sym z)
          ∙ four_put l v first (p - first) (omega arith) (omega arith) ∙ g (p - first) (omega arith) ∙ ap f z;
      before = λ i a. ap (λ (m : List ℕ). get_or m i 0) q ∙ put_get_d_before l (first * 4) v i (omega arith) a;
      behind = λ i a. ap (λ (m : List ℕ). get_or m i 0) q ∙ put_get_d_after l (first * 4) v i (omega arith) (omega arith);
    }

module _ (out : List ℕ) (first n : ℕ) (h : (first + n) * 4 ≤ length out) where
  pub at_room : n * 4 ≤ length (take (length out - first * 4) (drop (first * 4) out))
  at_room =
      let a = length-take (length out - first * 4) (drop (first * 4) out) in
      let b = length-drop (first * 4) out in
      omega arith

  pub at_painted : (u : Colour) (s d ns : List ℕ) (pairs : ℕ) (e : List ℕ)
      → e ≡ put_at (take (length out - first * 4) (drop (first * 4) out)) 0 (pixels u (λ (x : MainPos). decide (row_stack s d ns x) pairs) n)
      → Coated (over (row_four u s d ns pairs first)) out first (first + n) (take (first * 4) out ++ (e ++ drop (length out - first * 4) (drop (first * 4) out)))
  unfolding row_four
  at_painted u s d ns pairs e q =
      let f : MainPos → Option Colour = λ (x : MainPos). decide (row_stack s d ns x) pairs in
      let l = length_pixels u f n in
      coated_line (row_four u s d ns pairs first) out (pixels u f n) (take (first * 4) out ++ (e ++ drop (length out - first * 4) (drop (first * 4) out))) first n l h
      (ap (λ (a : List ℕ). take (first * 4) out ++ (a ++ drop (length out - first * 4) (drop (first * 4) out))) q ∙ part_back out (first * 4) (pixels u f n) (omega arith))
      (λ x k. let z : first + x - first ≡ x = omega arith in four_pixels u f n x k ∙ ap (λ (i : ℕ). four_of u (f (record { 0 = i }))) (sym z))

-- ---- one line mixed of the first two

module _ (l m : List ℕ) (first at c width : ℕ) (h : first + 2 * width ≤ at) (k : c ≤ width) where
  pub one_mixed : (o e : List ℕ) → Coated (over (mixed_from l m first (first + width) at)) l at (at + c) o
      → Coated (over (copied_from o (first + c) (at + c))) o (at + c) (at + c + (width - c)) e → Coated (over (part_four l m first width c at)) l at (at + width) e
  unfolding over mixed_from copied_from part_four
  one_mixed o e f g =
      let z : at + c + (width - c) ≡ at + width = omega arith in
      subst (λ (i : ℕ). Coated (over (part_four l m first width c at)) l at i e) z
      (coated_chain (over (part_four l m first width c at)) l o e at (at + c) (at + c + (width - c)) (omega arith) (omega arith)
      (coated_as (over (mixed_from l m first (first + width) at)) (over (part_four l m first width c at)) l o at (at + c) (λ p old a b. rw (lt-ltb (p - at) c (omega arith)) refl) f)
      (coated_as (over (copied_from o (first + c) (at + c))) (over (part_four l m first width c at)) o e (at + c) (at + c + (width - c))
      (λ p old a b.
      let y : first + c + (p - (at + c)) ≡ first + (p - at) = omega arith in
      rw (le-ltb (p - at) c (omega arith))
      (ap (λ (i : ℕ). four_from o (i * 4)) y ∙ four_same l o ((first + (p - at)) * 4) (λ i u v. f.before i (omega arith)))) g))

-- ---- lines and columns

module _ (first width t x : ℕ) (h : x < width) where
  shift : first + t * width + x - first ≡ t * width + x
  shift = omega arith

  pub line_is : line_of first width (first + t * width + x) ≡ t
  line_is = ap (λ (n : ℕ). n / width) shift ∙ mul-add-div_right (omega arith) t x ∙ ap (λ (n : ℕ). t + n) (div-eq_of_lt h) ∙ add-zero t

  pub column_is : column_of first width (first + t * width + x) ≡ x
  column_is = ap (λ (n : ℕ). n % width) shift ∙ mul-add-mod_self_right t width x ∙ mod-eq_of_lt h

-- a pixel among lines has a line and a column
pub placed : (first width p : ℕ) → first ≤ p → 0 < width → first + line_of first width p * width + column_of first width p ≡ p
placed first width p a h = let d = div-add-mod' (p - first) width in omega arith

pub column_less : (first width p : ℕ) → 0 < width → column_of first width p < width
column_less first width p h = mod-lt (p - first) h

-- ---- the lines behind the first two

part_octet : (m : List ℕ) (k i : ℕ) → k ≤ length m → get_or (take (length m - k) (drop k m)) i 0 ≡ get_or m (k + i) 0
part_octet m k i h =
    let l = length-drop k m in
    let whole : take (length m - k) (drop k m) ≡ drop k m = take_all (length m - k) (drop k m) (omega arith) in
    ap (λ (n : List ℕ). get_or n i 0) whole ∙ get_or-drop k m i 0

pub part_long : (m : List ℕ) (k n : ℕ) → k + n ≤ length m → n ≤ length (take (length m - k) (drop k m))
part_long m k n h = let a = length-take (length m - k) (drop k m) in let b = length-drop k m in omega arith

-- the samples of line t are there
pub next_sample : (at step width g t room : ℕ) → at + g * step + width ≤ room + step → t < g → at + t * step + width ≤ room
next_sample at step width g t room r h = let m = mul-le-mul_right {m = suc t} {n = g} step h in omega arith

-- a band with the first two lines as in l is mixed alike
module _ (l d : List ℕ) (at step first width c : ℕ) where
  part_four_lem : (o : List ℕ) (t p : ℕ) → at + t * step ≤ length d → ((i : ℕ) → i < (first + 2 * width) * 4 → get_or o i 0 ≡ get_or l i 0) → c ≤ width → first + t * width ≤ p → p < first + t * width + width
      → part_four o (take (length d - (at + t * step)) (drop (at + t * step) d)) first width c (first + t * width) p ≡ mixed_four l d at step first width c p
  unfolding part_four mixed_four
  part_four_lem o t p r same k a b =
      let q : ℕ = p - (first + t * width) in
      let z : first + t * width + q ≡ p = omega arith in
      let e : line_of first width p ≡ t = ap (line_of first width) (sym z) ∙ line_is first width t q (omega arith) in
      let f : column_of first width p ≡ q = ap (column_of first width) (sym z) ∙ column_is first width t q (omega arith) in
      let y : get_or (take (length d - (at + t * step)) (drop (at + t * step) d)) q 0 ≡ bit_at d at step first width p
      = part_octet d (at + t * step) q r ∙ ap₂ (λ (i j : ℕ). get_or d (at + i * step + j) 0) (sym e) (sym f) in
      let u : four_from o ((first + q) * 4) ≡ four_from l ((first + q) * 4) = four_same l o ((first + q) * 4) (λ i v w. same i (omega arith)) in
      let g : four_from o ((first + width + q) * 4) ≡ four_from l ((first + width + q) * 4) = four_same l o ((first + width + q) * 4) (λ i v w. same i (omega arith)) in
      ap (λ (n : ℕ). cond (ltb q c) (cond (eqb n 0) (four_from o ((first + q) * 4)) (four_from o ((first + width + q) * 4))) (four_from o ((first + q) * 4))) y
      ∙ ap₂ (λ (v w : List ℕ). cond (ltb q c) (cond (eqb (bit_at d at step first width p) 0) v w) v) u g
      ∙ ap (λ (n : ℕ). cond (ltb n c) (cond (eqb (bit_at d at step first width p) 0) (four_from l ((first + n) * 4)) (four_from l ((first + width + n) * 4))) (four_from l ((first + n) * 4))) (sym f)

  -- so many lines are mixed
  pub record Resting (g : ℕ) (out : List ℕ) (t : ℕ) : Type 0 where
    pub two : 2 ≤ t
    pub upto : t ≤ g
    pub done : Coated (over (mixed_four l d at step first width c)) l (first + 2 * width) (first + t * width) out

  pub resting_none : (g : ℕ) → 2 ≤ g → Resting g l 2
  resting_none g h = record { two = omega arith; upto = h; done = coated_none (over (mixed_four l d at step first width c)) l (first + 2 * width) (first + 2 * width) (omega arith) }

  module _ (g : ℕ) (k : c ≤ width) (room : at + g * step + width ≤ length d + step) (fits : (first + g * width) * 4 ≤ length l) where
    -- the next line is there, and so are its samples
    line_below : (t : ℕ) → t < g → t * width + width ≤ g * width
    line_below t h = let m = mul-le-mul_right {m = suc t} {n = g} width h in omega arith

    module _ (out : List ℕ) (t : ℕ) (r : Resting g out t) where
      pub next_behind : first + 2 * width ≤ first + t * width
      next_behind = let m = mul-le-mul_right {m = 2} {n = t} width r.two in omega arith

      pub next_fits : t < g → (first + t * width + width) * 4 ≤ length out
      next_fits h = let m = line_below t h in let n = r.done.long in omega arith

      pub resting_more : (new : List ℕ) → t < g
          → Coated (over (part_four out (take (length d - (at + t * step)) (drop (at + t * step) d)) first width c (first + t * width))) out (first + t * width) (first + t * width + width) new
          → Resting g new (t + 1)
      unfolding over
      resting_more new h f =
          let b = next_behind in
          let a = next_sample at step width g t (length d) room h in
          let w = r.two in
          let z : first + t * width + width ≡ first + (t + 1) * width = let e : (t + 1) * width ≡ t * width + 1 * width = add-mul t 1 width in let o : 1 * width ≡ width = one-mul width in omega arith in
          record {
            two = omega arith;
            upto = omega arith;
            done = subst (λ (n : ℕ). Coated (over (mixed_four l d at step first width c)) l (first + 2 * width) n new) z
                (coated_chain (over (mixed_four l d at step first width c)) l out new (first + 2 * width) (first + t * width) (first + t * width + width) b (omega arith) r.done
                (coated_as (over (part_four out (take (length d - (at + t * step)) (drop (at + t * step) d)) first width c (first + t * width))) (over (mixed_four l d at step first width c)) out new
                (first + t * width) (first + t * width + width)
                (λ p old i j. part_four_lem out t p (omega arith) (λ n q. r.done.before n q) k i j) f));
          }

      pub resting_end : g ≤ t → Coated (over (mixed_four l d at step first width c)) l (first + 2 * width) (first + g * width) out
      resting_end h =
          let u = r.upto in
          let z : t ≡ g = omega arith in
          subst (λ (n : ℕ). Coated (over (mixed_four l d at step first width c)) l (first + 2 * width) (first + n * width) out) z r.done

      pub resting_long : length out ≡ length l
      resting_long = r.done.long

pub ruleset resting = (rules, resting_none, part_long, resting_long)

-- ---- all lines

-- two lines lie within g
pub two_lines : (g width first : ℕ) → 2 ≤ g → first + width + width ≤ first + g * width
two_lines g width first h = let m = mul-le-mul_right {m = 2} {n = g} width h in omega arith

module _ (l d : List ℕ) (at step first width c g : ℕ) (two : 2 ≤ g) (k : c ≤ width) (room : at + g * step + width ≤ length d + step) where
  abbrev four : ℕ → List ℕ
  four = mixed_four l d at step first width c

  abbrev bits : ℕ → List ℕ
  bits o = take (length d - o) (drop o d)

  four_low : (t x : ℕ) → x < width → x < c → four (first + t * width + x)
      ≡ cond (eqb (get_or d (at + t * step + x) 0) 0) (four_from l ((first + x) * 4)) (four_from l ((first + width + x) * 4))
  unfolding mixed_four
  four_low t x h q =
      ap₂ (λ (i j : ℕ). cond (ltb j c) (cond (eqb (get_or d (at + i * step + j) 0) 0) (four_from l ((first + j) * 4)) (four_from l ((first + width + j) * 4))) (four_from l ((first + j) * 4)))
      (line_is first width t x h) (column_is first width t x h)
      ∙ rw (lt-ltb x c q) refl

  four_high : (t x : ℕ) → x < width → c ≤ x → four (first + t * width + x) ≡ four_from l ((first + x) * 4)
  unfolding mixed_four
  four_high t x h q =
      ap₂ (λ (i j : ℕ). cond (ltb j c) (cond (eqb (get_or d (at + i * step + j) 0) 0) (four_from l ((first + j) * 4)) (four_from l ((first + width + j) * 4))) (four_from l ((first + j) * 4)))
      (line_is first width t x h) (column_is first width t x h)
      ∙ rw (le-ltb x c q) refl

  module _ (o p e : List ℕ) (f : Coated (over four) l (first + 2 * width) (first + g * width) o) (h : Coated (over (copied_from o (first + c) (first + width + c))) o (first + width + c) (first + width + c + (width - c)) p)
      (m : TwoMixed (bits at) (bits (at + step)) first (first + width) c p e) where
    abbrev Right : ℕ → Type 0
    Right q = four_from e (q * 4) ≡ four q

    -- the first lines were as in l before they were mixed, up to where the second is copied
    low_same : (x : ℕ) → x < first + width + c → four_from p (x * 4) ≡ four_from l (x * 4)
    low_same x a = four_same l p (x * 4) (λ i v w. h.before i (omega arith) ∙ f.before i (omega arith))

    first_line : (x : ℕ) → x < width → Right (first + 0 * width + x)
    first_line x a =
        let z : first + 0 * width + x ≡ first + x = let n = zero-mul width in omega arith in
        let y : at + 0 * step + x ≡ at + x = let n = zero-mul step in omega arith in
        let r = next_sample at step width g 0 (length d) room (omega arith) in
        let n = zero-mul step in
        ⊎_elim
        (λ (b : x < c).
        ap (λ (i : ℕ). four_from e (i * 4)) z ∙ m.low x b
        ∙ ap (λ (i : ℕ). cond (eqb i 0) (four_from p ((first + x) * 4)) (four_from p ((first + width + x) * 4))) (part_octet d at x (omega arith) ∙ ap (λ (i : ℕ). get_or d i 0) (sym y))
        ∙ ap₂ (λ (v w : List ℕ). cond (eqb (get_or d (at + 0 * step + x) 0) 0) v w) (low_same (first + x) (omega arith)) (low_same (first + width + x) (omega arith))
        ∙ sym (four_low 0 x a b))
        (λ (b : x < c → ⊥).
        ap (λ (i : ℕ). four_from e (i * 4)) z ∙ four_same p e ((first + x) * 4) (λ i v w. m.between i (omega arith) (omega arith)) ∙ low_same (first + x) (omega arith)
        ∙ sym (four_high 0 x a (omega arith)))
        (says_else (says_lt x c))

    second_line : (x : ℕ) → x < width → Right (first + 1 * width + x)
    unfolding over copied_from
    second_line x a =
        let z : first + 1 * width + x ≡ first + width + x = let n = one-mul width in omega arith in
        let y : at + 1 * step + x ≡ at + step + x = let n = one-mul step in omega arith in
        let r = next_sample at step width g 1 (length d) room (omega arith) in
        let n = one-mul step in
        ⊎_elim
        (λ (b : x < c).
        ap (λ (i : ℕ). four_from e (i * 4)) z ∙ m.up x b
        ∙ ap (λ (i : ℕ). cond (eqb i 0) (four_from p ((first + x) * 4)) (four_from p ((first + width + x) * 4))) (part_octet d (at + step) x (omega arith) ∙ ap (λ (i : ℕ). get_or d i 0) (sym y))
        ∙ ap₂ (λ (v w : List ℕ). cond (eqb (get_or d (at + 1 * step + x) 0) 0) v w) (low_same (first + x) (omega arith)) (low_same (first + width + x) (omega arith))
        ∙ sym (four_low 1 x a b))
        (λ (b : x < c → ⊥).
        let w : first + c + (first + width + x - (first + width + c)) ≡ first + x = omega arith in
        ap (λ (i : ℕ). four_from e (i * 4)) z ∙ four_same p e ((first + width + x) * 4) (λ i v q. m.behind i (omega arith))
        ∙ h.there (first + width + x) (omega arith) (omega arith) ∙ ap (λ (i : ℕ). four_from o (i * 4)) w
        ∙ four_same l o ((first + x) * 4) (λ i v q. f.before i (omega arith)) ∙ sym (four_high 1 x a (omega arith)))
        (says_else (says_lt x c))

    other_lines : (q : ℕ) → first + 2 * width ≤ q → q < first + g * width → Right q
    unfolding over
    other_lines q a b =
        four_same o e (q * 4) (λ i v w. m.behind i (omega arith) ∙ h.behind i (omega arith)) ∙ f.there q a b

    pub lines_mixed : Coated (over four) l first (first + g * width) e
    unfolding over
    lines_mixed =
        let t = two_lines g width first two in
        record {
          long = m.long ∙ h.long ∙ f.long;
          there = λ q a b. ⊎_elim
              (λ (z : q < first + width).
              let y : first + 0 * width + (q - first) ≡ q = let n = zero-mul width in omega arith in
              subst Right y (first_line (q - first) (omega arith)))
              (λ (z : q < first + width → ⊥).
              ⊎_elim
              (λ (w : q < first + 2 * width).
              let y : first + 1 * width + (q - (first + width)) ≡ q = let n = one-mul width in omega arith in
              subst Right y (second_line (q - (first + width)) (omega arith)))
              (λ (w : q < first + 2 * width → ⊥). other_lines q (omega arith) b)
              (says_else (says_lt q (first + 2 * width))))
              (says_else (says_lt q (first + width)));
          before = λ i a. m.before i a ∙ h.before i (omega arith) ∙ f.before i (omega arith);
          behind = λ i a. m.behind i (omega arith) ∙ h.behind i (omega arith) ∙ f.behind i a;
        }
