-- The end of page, judged.
--
--   zeros_from s at                 zero octets only, from a place on
--   close_of s at                   the second FF D9 of the end, and what follows it
use Rattle.std.specs.Prelude.{ℕ, List, [], drop, Result, ⊤}
use Rattle.field_rules.specs.Field.{bind, fields}
use Rattle.page_rules.specs.Reading.{zeros_of, end_table}
use Rattle.answers.specs.declared.Refusal.{Refusal}
use Rattle.read_field.specs.Judged.{judged_of}

unfoldable pub zeros_from : List ℕ → ℕ → Result ⊤ Refusal
unfolding judged_of
zeros_from s at = judged_of (zeros_of (drop at s) at)

unfoldable pub close_of : List ℕ → ℕ → Result ⊤ Refusal
unfolding judged_of
close_of s at = judged_of (bind (fields end_table [] s at) (λ (es : List ℕ) (e : ℕ). zeros_of (drop e s) e))
