-- What a `?` hands on is what the call behind it was refused with.
-- Assumes nothing.
use Rattle.std.specs.Prelude.{◌≡◌, Result, Ok, Err, IsErr, IsErrAnd}
use mathlib.Core.Path.{sym, ap, subst, ◌∙◌}

pub asked : {T E : Type 0} {y : Result T E} {x : E} (r : Result T E) → IsErr r × IsErrAnd r (λ (e : E). e ≡ x) → Err x ≡ y → r ≡ y
asked (Err e) p q = ap Err p.1 ∙ q
asked (Ok v) p q = absurd p.1

-- the same of anything that is said of the result
pub asked_with : {T E : Type 0} (P : Result T E → Type 0) {x : E} (r : Result T E) → IsErr r × IsErrAnd r (λ (e : E). e ≡ x) → P (Err x) → P r
asked_with P (Err e) p q = subst (λ (y : _). P (Err y)) (sym p.1) q
asked_with P (Ok v) p q = absurd p.1
