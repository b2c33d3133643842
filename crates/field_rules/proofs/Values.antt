-- The numbers that a table's reading gives are those at its fields' places: code may read them there, after the verdict.
-- Assumes nothing.
use Prim.Native.Nat.{ℕ, ◌+◌}
use mathlib.Core.Path.{◌≡◌, sym, ◌∙◌}
use mathlib.Core.List.{List, [], ◌∷◌, ◌++◌, append_assoc, append-nil}
use lib.ListN.{length}
use lib.Dec.{ltb}
use Rattle.laws.proofs.Cases.{cond_with, clash}
use Rattle.octets.specs.Octets.{stands_at}
use Rattle.field_rules.specs.Field.{ok, widths, numbers, Field, mark, val, again, fields}

unfoldable pub values_of : List Field → List ℕ → ℕ → List ℕ
values_of [] s at = []
values_of (mark m refusal ∷ table) s at = values_of table s (at + length m)
values_of (val ws good refusal ∷ table) s at = numbers ws s at ++ values_of table s (at + widths ws)
values_of (again back good refusal ∷ table) s at = values_of table s at

pub fields_values : (table : List Field) (before out s : List ℕ) (at n : ℕ) → fields table before s at ≡ ok out n → out ≡ before ++ values_of table s at
unfolding fields values_of
fields_values [] before out s at n = λ e. let p : before ≡ out = cc in sym p ∙ sym (append-nil before)
fields_values (mark m refusal ∷ table) before out s at n =
    cond_with (λ x. x ≡ ok out n → out ≡ before ++ values_of table s (at + length m)) (ltb (length s) (at + length m)) (λ t q. clash cc) λ t.
    cond_with (λ x. x ≡ ok out n → out ≡ before ++ values_of table s (at + length m)) (stands_at s at m)
    (λ u q. fields_values table before out s (at + length m) n q) (λ u q. clash cc)
fields_values (val ws good refusal ∷ table) before out s at n =
    cond_with (λ x. x ≡ ok out n → out ≡ before ++ (numbers ws s at ++ values_of table s (at + widths ws))) (ltb (length s) (at + widths ws)) (λ t q. clash cc) λ t.
    cond_with (λ x. x ≡ ok out n → out ≡ before ++ (numbers ws s at ++ values_of table s (at + widths ws))) (good before (numbers ws s at))
    (λ u q. fields_values table (before ++ numbers ws s at) out s (at + widths ws) n q ∙ append_assoc before (numbers ws s at) (values_of table s (at + widths ws)))
    (λ u q. clash cc)
fields_values (again back good refusal ∷ table) before out s at n =
    cond_with (λ x. x ≡ ok out n → out ≡ before ++ values_of table s at) (good before) (λ u q. fields_values table before out s at n q) (λ u q. clash cc)
