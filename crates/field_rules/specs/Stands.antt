-- The octets of a segment by concatenation: a segment of this table, with so many numbers read before, gives these numbers and is these octets.
use Rattle.std.specs.Prelude.{ℕ, ◌≡◌, Bool, true, List, [], ◌∷◌, ◌++◌}
use Rattle.answers.specs.declared.Refusal.{Refusal}
use Rattle.field_rules.specs.Field.{Width, Field, mark, val, again, put, Sized}

pub data Stands : List Field → List ℕ → List ℕ → List ℕ → Type 0 where
  at_end : {before : List ℕ} → Stands [] before before []
  marked : {m : List ℕ} {refusal : ℕ → Refusal} {table : List Field} {before out l : List ℕ} → Stands table before out l
      → Stands (mark m refusal ∷ table) before out (m ++ l)
  valued : {ws : List Width} {good : List ℕ → List ℕ → Bool} {refusal : ℕ → Refusal} {table : List Field} {before out l : List ℕ} (vs : List ℕ)
      → Sized ws vs → good before vs ≡ true → Stands table (before ++ vs) out l → Stands (val ws good refusal ∷ table) before out (put ws vs ++ l)
  held : {back : ℕ} {good : List ℕ → Bool} {refusal : ℕ → Refusal} {table : List Field} {before out l : List ℕ} → good before ≡ true
      → Stands table before out l → Stands (again back good refusal ∷ table) before out l
