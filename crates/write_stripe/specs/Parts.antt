-- What a stripe asks for where it is put.
--
--   Copied out at d r                     there is room for a record's data, and it is there
--   PlacedThree out at d a b c            the same for the three records of a Mode 1 stripe
--   Placed mode out at s first count d    and for so many records of a sheet, as many as a stripe of the mode can have
use Rattle.std.specs.Prelude.{ℕ, ◌+◌, ◌/◌, ◌≤◌, ◌<◌, List, length}
use Rattle.segment_rules.specs.declared.Mode.{Mode}
use Rattle.sheet_rules.specs.declared.Record.{Record}
use Rattle.sheet_rules.specs.Record.{record_size, record_at, records_from}
use Rattle.write_rules.specs.Modes.{stripe_by}
use Rattle.segment_rules.specs.Rules.{most_layers}

pub record Copied (out : List ℕ) (at : ℕ) (d : List ℕ) (r : Record) : Type 0 where
  pub room : at + r.len ≤ length out
  pub there : r.start + r.len ≤ length d

pub record PlacedThree (out : List ℕ) (at : ℕ) (d : List ℕ) (a b c : Record) : Type 0 where
  pub room : at + 39 + b.len + a.len + c.len ≤ length out
  pub back : a.start + a.len ≤ length d
  pub mask : b.start + b.len ≤ length d
  pub fore : c.start + c.len ≤ length d

pub record Placed (mode : Mode) (out : List ℕ) (at : ℕ) (s : List ℕ) (first count : ℕ) (d : List ℕ) : Type 0 where
  pub whole : first + count ≤ length s / record_size
  -- N is at least 3, and no more than the mode carries
  pub layers : (3 ≤ count) × (count ≤ most_layers mode)
  pub there : (i : ℕ) → i < first + count → (record_at s i).start + (record_at s i).len ≤ length d
  pub room : at + length (stripe_by mode d (records_from s count first)) ≤ length out
