-- Fields judged one after the other, where a refusal flows through.
--
--   held_of r good refusal          a rule, where all before it was fine
--   field_of s r at n good refusal  a field of n octets and its rule
--   judged_of r                     what a table's reading comes to, without its numbers
use Rattle.std.specs.Prelude.{ℕ, ◌+◌, Bool, cond, List, length, leb, Result, Ok, Err, ⊤}
use Rattle.answers.specs.declared.Refusal.{Refusal}
use Rattle.answers.specs.declared.Refusal.TheVariants.{Short}
use Rattle.field_rules.specs.Field.{Res, ok, no}

unfoldable pub held_of : Result ⊤ Refusal → Bool → Refusal → Result ⊤ Refusal
held_of (Err a) good refusal = Err a
held_of (Ok _) good refusal = cond good (Ok tt) (Err refusal)

unfoldable pub field_of : List ℕ → Result ⊤ Refusal → ℕ → ℕ → Bool → Refusal → Result ⊤ Refusal
unfolding held_of
field_of s r at n good refusal = held_of (held_of r (leb (at + n) (length s)) (Short at)) good refusal

unfoldable pub judged_of : {A : Type 0} → Res A → Result ⊤ Refusal
judged_of (ok vs n) = Ok tt
judged_of (no a) = Err a
