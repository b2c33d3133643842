-- The octets of a line, four a pixel: how many, and which stand where.
-- Assumes nothing.
use Prim.Native.Nat.{ℕ, zero, suc, ◌+◌, ◌*◌, ◌<◌}
use native.Mathlib.Omega.{arith}
use mathlib.Core.Path.{◌≡◌, refl, sym, ap, ◌∙◌}
use mathlib.Core.Logic.{⊎_elim}
use mathlib.Core.List.{List}
use lib.ListN.{length, get_or, take, drop, length-append, length-drop}
use lib.Seq.{take_all, take-append-le, drop-append-le, drop_at}
use Rattle.laws.proofs.Cases.{clash}
use Rattle.laws.proofs.Says.{says_lt, says_else}
use Rattle.octets.specs.Octets.{put_at}
use Rattle.pixel_rules.specs.declared.MainPos.{MainPos}
use Rattle.sheet_rules.specs.declared.Colour.{Colour}
use Rattle.std.specs.Prelude.{Option, Some, None}
use Rattle.pixel_rules.specs.Samples.{Scene, width_of}
use Rattle.pixel_rules.specs.Decide.{pixel_at}
use Rattle.picture_rules.specs.Line.{four_of, pixels, line_pixels}
use Rattle.picture_rules.specs.Demand.{four_at, seen_in, unseen_in, at}

-- ---- the four octets of a decided pixel

pub length_four : (u : Colour) (p : Option Colour) → length (four_of u p) ≡ 4
unfolding four_of
length_four u (Some c) = refl
length_four u None = refl

pub four_known : (u : Colour) (p : Option Colour) (c : Colour) → four_of u p ≡ seen_in c → p ≡ Some c
unfolding four_of
four_known u (Some d) c e = ap Some (λ i. record { c0 = get_or (e i) 0 0; c1 = get_or (e i) 1 0; c2 = get_or (e i) 2 0 })
four_known u None c e = clash (ap (λ (l : List ℕ). get_or l 3 0) e)

pub known_four : (u : Colour) (p : Option Colour) (c : Colour) → p ≡ Some c → four_of u p ≡ seen_in c
unfolding four_of
known_four u p c e = rw e

pub four_unknown : (u : Colour) (p : Option Colour) → four_of u p ≡ unseen_in u → p ≡ None
unfolding four_of
four_unknown u (Some d) e = clash (sym (ap (λ (l : List ℕ). get_or l 3 0) e))
four_unknown u None e = refl

pub unknown_four : (u : Colour) (p : Option Colour) → p ≡ None → four_of u p ≡ unseen_in u
unfolding four_of
unknown_four u p e = rw e

-- ---- a line of them

pub length_pixels : (u : Colour) (f : MainPos → Option Colour) (n : ℕ) → length (pixels u f n) ≡ n * 4
unfolding pixels
length_pixels u f zero = refl
length_pixels u f (suc n) =
    let l = length_pixels u f n in let m = length_four u (f (at n)) in let a = length-append (pixels u f n) (four_of u (f (at n))) in omega arith

-- pixel x has the octets 4x to 4x + 3
pub pixels_four : (u : Colour) (f : MainPos → Option Colour) (n x : ℕ) → x < n → four_at (pixels u f n) x ≡ four_of u (f (at x))
unfolding pixels
pixels_four u f zero x h = absurd (omega arith)
pixels_four u f (suc n) x h =
    let l = length_pixels u f n in
    let m = length_four u (f (at n)) in
    ⊎_elim
    (λ (b : x < n).
    let r = length-drop (x * 4) (pixels u f n) in
    ap (take 4) (drop-append-le (x * 4) (pixels u f n) (four_of u (f (at n))) (omega arith))
    ∙ take-append-le 4 (drop (x * 4) (pixels u f n)) (four_of u (f (at n))) (omega arith)
    ∙ pixels_four u f n x b)
    (λ (b : x < n → ⊥).
    let z : x ≡ n = omega arith in
    ap (take 4) (drop_at (pixels u f n) (four_of u (f (at n))) (x * 4) (omega arith))
    ∙ take_all 4 (four_of u (f (at n))) (omega arith)
    ∙ ap (λ (i : ℕ). four_of u (f (at i))) (sym z))
    (says_else (says_lt x n))

-- ---- a line put in front of a buffer

module _ (u : Colour) (v : Scene) (y : ℕ) where
  pub length_line : length (line_pixels u v y) ≡ width_of v * 4
  unfolding line_pixels
  length_line = length_pixels u (λ (x : MainPos). pixel_at v x (at y)) (width_of v)

  pub put_four : (out : List ℕ) (x : ℕ) → x < width_of v → four_at (put_at out 0 (line_pixels u v y)) x ≡ four_of u (pixel_at v (at x) (at y))
  unfolding line_pixels put_at
  put_four out x h =
      let l = length_line in
      let r = length-drop (x * 4) (line_pixels u v y) in
      ap (take 4) (drop-append-le (x * 4) (line_pixels u v y) (drop (0 + length (line_pixels u v y)) out) (omega arith))
      ∙ take-append-le 4 (drop (x * 4) (line_pixels u v y)) (drop (0 + length (line_pixels u v y)) out) (omega arith)
      ∙ pixels_four u (λ (p : MainPos). pixel_at v p (at y)) (width_of v) x h
