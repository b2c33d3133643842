-- What a layer says of itself and what its record says are the same: octet 17 keeps the count of components, and nothing else does.
-- Assumes nothing.
use Prim.Native.Nat.{ℕ}
use mathlib.Core.Path.{◌≡◌, sym, ap, ◌∙◌}
use mathlib.Core.Logic.{◌⊎◌, inl, inr}
use mathlib.Core.Bool.{cond}
use lib.Dec.{eqb}
use Rattle.sheet_rules.specs.declared.Record.{Record}
use Rattle.sheet_rules.specs.Record.{is_grey}
use Rattle.jpeg_rules.specs.Grammar.{Components}
use Rattle.jpeg_rules.specs.Said.{grey_octet}

-- one component, or three
pub octet_two : (c : ℕ) → Components c → ((c ≡ 1) × (grey_octet c ≡ 1)) ⊎ ((c ≡ 3) × (grey_octet c ≡ 0))
unfolding grey_octet
octet_two c (inl e) = inl (e, ap grey_octet e)
octet_two c (inr e) = inr (e, ap grey_octet e)

-- the count is told by the octet that keeps it
pub count_again : (c : ℕ) → Components c → cond (eqb (grey_octet c) 1) 1 3 ≡ c
unfolding grey_octet
count_again c (inl e) = ap (λ (n : ℕ). cond (eqb (grey_octet n) 1) 1 3) e ∙ sym e
count_again c (inr e) = ap (λ (n : ℕ). cond (eqb (grey_octet n) 1) 1 3) e ∙ sym e

-- and the octet by the count that it tells, where it is 0 or 1
pub octet_again : (r : Record) → (r.octet17 ≡ 0) ⊎ (r.octet17 ≡ 1) → grey_octet (cond (is_grey r) 1 3) ≡ r.octet17
unfolding grey_octet
octet_again r (inl e) = ap (λ (n : ℕ). grey_octet (cond (eqb n 1) 1 3)) e ∙ sym e
octet_again r (inr e) = ap (λ (n : ℕ). grey_octet (cond (eqb n 1) 1 3)) e ∙ sym e
