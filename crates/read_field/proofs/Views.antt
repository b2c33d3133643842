-- What a verdict on a table tells of its reading: the refusal, or numbers of which every rule of the table holds.
-- Assumes nothing.
use Prim.Native.Nat.{ℕ, ◌+◌}
use mathlib.Core.Path.{◌≡◌, refl, ap}
use mathlib.Core.Bool.{true}
use mathlib.Core.List.{List, [], ◌∷◌, ◌++◌}
use lib.ListN.{length}
use lib.Dec.{ltb}
use Rattle.laws.proofs.Cases.{cond_with, clash}
use Rattle.octets.specs.Octets.{stands_at}
use Rattle.answers.specs.declared.Refusal.{Refusal}
use Rattle.field_rules.specs.Field.{Res, ok, no, widths, numbers, Field, mark, val, again, fields}
use Rattle.std.specs.Prelude.{Ok, Err}
use Rattle.read_field.specs.Judged.{judged_of}

pub judged_no : {A : Type 0} (x : Res A) (a : Refusal) → judged_of x ≡ Err a → x ≡ no a
unfolding judged_of
judged_no (ok v n) a e = clash cc
judged_no (no b) a e = let p : b ≡ a = cc in ap no p

pub judged_ok : {A : Type 0} (P : Type 0) (x : Res A) → judged_of x ≡ Ok tt → ((v : A) (n : ℕ) → x ≡ ok v n → P) → P
unfolding judged_of
judged_ok P (ok v n) e k = k v n refl
judged_ok P (no b) e k = clash cc

-- ---- the rules of a table, of the numbers at its places

unfoldable pub Holds : List Field → List ℕ → List ℕ → ℕ → Type 0
Holds [] before s at = Unit {0}
Holds (mark m refusal ∷ table) before s at = Holds table before s (at + length m)
Holds (val ws good refusal ∷ table) before s at = (good before (numbers ws s at) ≡ true) × Holds table (before ++ numbers ws s at) s (at + widths ws)
Holds (again back good refusal ∷ table) before s at = (good before ≡ true) × Holds table before s at

pub fields_hold : (table : List Field) (before out s : List ℕ) (at n : ℕ) → fields table before s at ≡ ok out n → Holds table before s at
unfolding fields Holds
fields_hold [] before out s at n = λ e. tt
fields_hold (mark m refusal ∷ table) before out s at n =
    cond_with (λ x. x ≡ ok out n → Holds table before s (at + length m)) (ltb (length s) (at + length m)) (λ t q. clash cc) λ t.
    cond_with (λ x. x ≡ ok out n → Holds table before s (at + length m)) (stands_at s at m) (λ u q. fields_hold table before out s (at + length m) n q) (λ u q. clash cc)
fields_hold (val ws good refusal ∷ table) before out s at n =
    cond_with (λ x. x ≡ ok out n → (good before (numbers ws s at) ≡ true) × Holds table (before ++ numbers ws s at) s (at + widths ws)) (ltb (length s) (at + widths ws))
    (λ t q. clash cc) λ t.
    cond_with (λ x. x ≡ ok out n → (good before (numbers ws s at) ≡ true) × Holds table (before ++ numbers ws s at) s (at + widths ws)) (good before (numbers ws s at))
    (λ u q. (u, fields_hold table (before ++ numbers ws s at) out s (at + widths ws) n q)) (λ u q. clash cc)
fields_hold (again back good refusal ∷ table) before out s at n =
    cond_with (λ x. x ≡ ok out n → (good before ≡ true) × Holds table before s at) (good before) (λ u q. (u, fields_hold table before out s at n q)) (λ u q. clash cc)
