-- The octets of pixels, four a pixel.
-- Assumes nothing.
use Prim.Native.Nat.{ℕ, zero, suc, ◌+◌, ◌*◌, ◌≤◌, ◌<◌}
use native.Mathlib.Omega.{arith}
use mathlib.Core.Path.{◌≡◌, refl, sym, ap, ◌∙◌}
use mathlib.Core.List.{List, ◌∷◌}
use lib.ListN.{length, get_or, take, drop}
use Rattle.octets.proofs.Laws.{drop_octet}
use Rattle.sheet_rules.specs.declared.Colour.{Colour}
use Rattle.pixel_rules.specs.declared.MainPos.{MainPos}
use Rattle.std.specs.Prelude.{Option}
use Rattle.picture_rules.specs.Line.{four_of, pixels}
use Rattle.picture_rules.specs.Demand.{four_at}
use Rattle.picture_rules.proofs.Fours.{length_pixels, pixels_four}
use Rattle.paint_words.specs.Words.{four_from}

pub octet_at : (v : List ℕ) (x k : ℕ) → k < 4 → get_or v (x * 4 + k) 0 ≡ get_or (four_from v (x * 4)) k 0
unfolding four_from
octet_at v x zero h = let z : x * 4 + 0 ≡ x * 4 = omega arith in ap (λ (i : ℕ). get_or v i 0) z
octet_at v x (suc zero) h = refl
octet_at v x (suc (suc zero)) h = refl
octet_at v x (suc (suc (suc zero))) h = refl
octet_at v x (suc (suc (suc (suc k)))) h = absurd (omega arith)

four_taken : (v : List ℕ) (x : ℕ) → x * 4 + 4 ≤ length v → four_from v (x * 4) ≡ four_at v x
unfolding four_from
four_taken v x h =
    let a = drop_octet v (x * 4) (omega arith) in
    let b = drop_octet v (x * 4 + 1) (omega arith) in
    let c = drop_octet v (x * 4 + 2) (omega arith) in
    let d = drop_octet v (x * 4 + 3) (omega arith) in
    let p : x * 4 + 1 + 1 ≡ x * 4 + 2 = omega arith in
    let q : x * 4 + 2 + 1 ≡ x * 4 + 3 = omega arith in
    sym (ap (take 4) (a ∙ ap (λ (r : List ℕ). get_or v (x * 4) 0 ∷ r) (b ∙ ap (λ (r : List ℕ). get_or v (x * 4 + 1) 0 ∷ r)
    (ap (λ (i : ℕ). drop i v) p ∙ c ∙ ap (λ (r : List ℕ). get_or v (x * 4 + 2) 0 ∷ r) (ap (λ (i : ℕ). drop i v) q ∙ d)))))

pub four_pixels : (u : Colour) (f : MainPos → Option Colour) (n x : ℕ) → x < n → four_from (pixels u f n) (x * 4) ≡ four_of u (f (record { 0 = x }))
four_pixels u f n x h = let l = length_pixels u f n in four_taken (pixels u f n) x (omega arith) ∙ pixels_four u f n x h
