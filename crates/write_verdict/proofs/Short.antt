-- A record's data that does not fit is Short at its number.
-- Assumes nothing.
use Prim.Native.Nat.{ℕ, ◌+◌}
use mathlib.Core.Path.{◌≡◌, sym, ◌∙◌}
use mathlib.Core.Bool.{Bool, false}
use mathlib.Core.List.{List}
use lib.ListN.{length}
use lib.Dec.{leb}
use borrow.Author.Tests.{leb-false, lt-ltb}
use Rattle.std.specs.Prelude.{Err}
use Rattle.answers.specs.declared.Refusal.TheVariants.{Short}
use Rattle.segment_rules.specs.declared.Mode.{Mode}
use Rattle.sheet_rules.specs.declared.Record.{Record}
use Rattle.write_rules.specs.declared.Tally.{Tally}
use Rattle.write_rules.specs.Writing.{record_step}
use Rattle.write_verdict.specs.Pass.{pass_of}

pub pass_short : (mode : Mode) (d : List ℕ) (main : ℕ) (t : Tally) (i : ℕ) (r : Record) {f : Bool} → f ≡ leb (r.start + r.len) (length d) → f ≡ false
    → Err (Short i) ≡ pass_of (record_step mode d main t i r)
unfolding record_step pass_of
pass_short mode d main t i r e y = simp (lt-ltb (length d) (r.start + r.len) (leb-false _ _ (sym e ∙ y)))
