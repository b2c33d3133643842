use mathlib.Core.Path.{◌≡◌}
use Prim.Native.Nat.{◌-◌}
use Rattle.sheet_rules.specs.Record.{records_from, rest}
use Rattle.sheet_rules.specs.Judge.{walk, judge_of}
use Rattle.sheet_judge.proofs.judge.Given as goal

abbrev pub invariant-loop-i : goal.invariant-loop-i
invariant-loop-i l = judge_of l.sheet ≡ walk l.st l.i (records_from l.sheet (l.n - l.i) l.i) (rest l.sheet)
