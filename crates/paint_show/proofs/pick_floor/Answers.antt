use Prim.Native.Nat.{◌-◌}
use native.Mathlib.Omega.{arith}
use mathlib.Core.Path.{◌≡◌}
use mathlib.Core.Bool.{false}
use Rattle.paint_show.specs.Show.{Absent}
use Rattle.paint_show.proofs.Octets.{absent_told}
use Rattle.paint_show.proofs.Laws.{picks}
use Rattle.paint_show.proofs.pick_floor.Goals as goal

pub returns-then-c-v : goal.returns-then-c-v
returns-then-c-v c = search picks

pub returns-then-contains : goal.returns-then-contains
returns-then-contains c = search picks

pub returns-else-contains : goal.returns-else-contains
returns-else-contains c =
    let h : c.contains.result ≡ false → Absent c.args.c c.args.sel.now (c.args.x - c.args.a) (c.args.e - c.args.a) =
    absent_told _ _ _ _ _ (omega arith) (omega arith) c.contains.ensures.cases in
    search (picks, h)
