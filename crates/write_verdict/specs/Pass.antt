-- The writer's verdict, as its reader sees it.
--
--   pass_of r     what the records come to, without the place
--   layers_of r   the first record above the layers that are carried
--   Few s n      the sheet has n whole records, and no more than a good one
--   Taken s n    the judge takes the sheet, with n records
--   accepted_of   the verdict on a sheet that the judge takes
use Rattle.std.specs.Prelude.{ℕ, ◌/◌, ◌≤◌, ◌≡◌, List, length, Option, Some, None, Result, Ok, Err}
use Rattle.answers.specs.Answers.{refusal_place}
use Rattle.field_rules.specs.Field.{Res, ok, no, bind}
use Rattle.segment_rules.specs.declared.Mode.{Mode}
use Rattle.answers.specs.declared.Refusal.{Refusal}
use Rattle.sheet_rules.specs.Record.{record_size, records, most_records}
use Rattle.sheet_rules.specs.Judge.{judge_of}
use Rattle.write_rules.specs.declared.Tally.{Tally}
use Rattle.segment_rules.specs.Rules.{most_layers}
use Rattle.write_rules.specs.Sentences.{sheet_main}
use Rattle.write_rules.specs.Writing.{mode_from, begun, records_pass}

unfoldable pub pass_of : Res Tally → Result Tally Refusal
pass_of (ok tally n) = Ok tally
pass_of (no a) = Err a

unfoldable pub layers_of : Res ℕ → Option ℕ
layers_of (ok k n) = None
layers_of (no a) = Some (refusal_place a)

pub record Few (s : List ℕ) (n : ℕ) : Type 0 where
  pub whole : n ≡ length s / record_size
  pub few : n ≤ most_records

pub record Taken (s : List ℕ) (n : ℕ) : Type 0 where
  pub stripes : ℕ
  pub good : judge_of s ≡ Ok (record { records = n; stripes = stripes })

unfoldable pub accepted_of : Mode → List ℕ → List ℕ → Res Tally
unfolding bind
accepted_of mode s d = bind (mode_from (most_layers mode) 0 (records s)) (λ (k e : ℕ). records_pass mode d (sheet_main (records s)) begun 0 (records s))
