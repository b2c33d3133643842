use Prim.Native.Nat.{◌-◌}
use mathlib.Core.Path.{◌≡◌}
use lib.ListN.{length}
use Rattle.paint_line.proofs.Parts.{Piecing}
use Rattle.paint_line.proofs.paint_pieces.Given as goal

abbrev pub invariant-loop-x : goal.invariant-loop-x
invariant-loop-x l = Piecing l.unseen l.s l.d l.rows l.pairs l.a l.b l.initial.out l.out l.x × (length l.sel ≡ length l.initial.sel) × (length l.bits ≡ length l.initial.bits) × (length l.row ≡ length l.initial.row) × (length l.t ≡ length l.initial.t) × (length l.lit ≡ length l.initial.lit)

abbrev pub decreases-loop-x : goal.decreases-loop-x
decreases-loop-x l = l.b - l.x
