-- The octets of a band: how many, and which line stands where.
-- Assumes nothing.
use Prim.Native.Nat.{ℕ, zero, suc, ◌+◌, ◌*◌, ◌≤◌, ◌<◌}
use native.Mathlib.Nat.{mul-le-mul_right, zero-mul}
use native.Mathlib.Omega.{arith}
use mathlib.Core.Path.{◌≡◌, sym, ap, ap₂, ◌∙◌}
use mathlib.Core.Logic.{⊎_elim}
use mathlib.Core.List.{List, ◌++◌}
use lib.ListN.{length, take, drop, length-append, length-drop}
use lib.Seq.{take_all, take-add, take-append-le, drop-append-le, drop_at}
use Rattle.laws.proofs.Says.{says_lt, says_else}
use Rattle.sheet_rules.specs.declared.Colour.{Colour}
use Rattle.pixel_rules.specs.Samples.{Scene}
use Rattle.picture_rules.specs.Line.{line_pixels}
use Rattle.picture_rules.proofs.Fours.{length_line}
use Rattle.band_rules.specs.Band.{band_lines}
use Rattle.band_rules.specs.Sentences.{line_size}

-- lines below n end where line n begins
pub lines_below : (y n m : ℕ) → y < n → y * m + m ≤ n * m
lines_below y n m h = let l = mul-le-mul_right {m = suc y} {n = n} m h in omega arith

module _ (u : Colour) (v : Scene) where
  pub length_lines : (n : ℕ) → length (band_lines u v n) ≡ n * line_size v
  unfolding band_lines
  length_lines zero = sym (zero-mul (line_size v))
  length_lines (suc n) = simp (length-append, length_line, length_lines n) (omega arith)

  -- line y has the octets of its place
  pub lines_line : (n y : ℕ) → y < n → take (line_size v) (drop (y * line_size v) (band_lines u v n)) ≡ line_pixels u v y
  unfolding band_lines
  lines_line zero y h = absurd (omega arith)
  lines_line (suc n) y h =
      let l = length_lines n in
      let m = length_line u v n in
      ⊎_elim
      (λ (b : y < n).
      let w = lines_below y n (line_size v) b in
      let r = length-drop (y * line_size v) (band_lines u v n) in
      ap (take (line_size v)) (drop-append-le (y * line_size v) (band_lines u v n) (line_pixels u v n) (omega arith))
      ∙ take-append-le (line_size v) (drop (y * line_size v) (band_lines u v n)) (line_pixels u v n) (omega arith)
      ∙ lines_line n y b)
      (λ (b : y < n → ⊥).
      let z : n ≡ y = omega arith in
      ap (take (line_size v)) (drop_at (band_lines u v n) (line_pixels u v n) (y * line_size v) (l ∙ ap (λ (j : ℕ). j * line_size v) z))
      ∙ take_all (line_size v) (line_pixels u v n) (omega arith)
      ∙ ap (line_pixels u v) z)
      (says_else (says_lt y n))

  -- and no other octets have each line at its place
  pub lines_only : (e : List ℕ) (n : ℕ) → ((y : ℕ) → y < n → take (line_size v) (drop (y * line_size v) e) ≡ line_pixels u v y) → take (n * line_size v) e ≡ band_lines u v n
  unfolding band_lines
  lines_only e zero h = ap (λ (j : ℕ). take j e) (zero-mul (line_size v))
  lines_only e (suc n) h =
      let z : suc n * line_size v ≡ n * line_size v + line_size v = omega arith in
      ap (λ (j : ℕ). take j e) z ∙ take-add (n * line_size v) (line_size v) e ∙ ap₂ (λ (a b : List ℕ). a ++ b) (lines_only e n (λ y b. h y (omega arith))) (h n (omega arith))
