-- A page written step by step: what is known before each step.
--
--   Inside s i n                  the sheet s has n records, and i is the number of one
--   StripeEnd s i n e             of the records from i on the first stripe goes up to e
--   Lined mode out s d n          a sheet of n records, in stripes that the mode carries; their data is there, and the page has room for them
--   Sound rules s d tally         the verdict on a sheet and its data makes such a page
--   Fitting rules out s d tally   and the page's buffer has room for it
use Rattle.std.specs.Prelude.{ℕ, ◌+◌, ◌-◌, ◌/◌, ◌≤◌, ◌<◌, ◌≡◌, length}
use mathlib.Core.List.{List, ◌∷◌, Memᴰ}
use Rattle.field_rules.specs.Field.{ok}
use Rattle.segment_rules.specs.declared.Mode.{Mode}
use Rattle.segment_rules.specs.declared.Rules.{Rules}
use Rattle.sheet_rules.specs.declared.Record.{Record}
use Rattle.sheet_rules.specs.Record.{record_size, record_at, records_from, records}
use Rattle.write_rules.specs.declared.Tally.{Tally}
use Rattle.write_rules.specs.Cut.{stripes_of}
use Rattle.segment_rules.specs.Rules.{most_layers}
use Rattle.write_rules.specs.Sentences.{start_size}
use Rattle.write_rules.specs.Writing.{verdict_of, stripes_by}

pub record Inside (s : List ℕ) (i n : ℕ) : Type 0 where
  pub whole : n ≡ length s / record_size
  pub here : i < n

pub record StripeEnd (s : List ℕ) (i n e : ℕ) : Type 0 where
  pub on : i < e
  pub within : e ≤ n
  pub cut : stripes_of (records_from s (n - i) i) ≡ records_from s (e - i) i ∷ stripes_of (records_from s (n - e) e)

pub record Lined (mode : Mode) (out s d : List ℕ) (n : ℕ) : Type 0 where
  pub whole : n ≡ length s / record_size
  pub layers : (q : List Record) → Memᴰ q (stripes_of (records s)) → (3 ≤ length q) × (length q ≤ most_layers mode)
  pub there : (i : ℕ) → i < n → (record_at s i).start + (record_at s i).len ≤ length d
  pub room : start_size + length (stripes_by mode d (records s)) ≤ length out

pub record Sound (rules : Rules) (s d : List ℕ) (tally : Tally) : Type 0 where
  pub count : ℕ
  pub verdict : verdict_of rules s d ≡ ok tally count

pub record Fitting (rules : Rules) (out s d : List ℕ) (tally : Tally) : Type 0 where
  pub sound : Sound rules s d tally
  pub room : tally.size ≤ length out
