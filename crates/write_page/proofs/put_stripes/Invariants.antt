use Rattle.write_page.proofs.Stripes.{Lining}
use Prim.Native.Nat.{◌-◌}
use Rattle.write_page.proofs.put_stripes.Given as goal

abbrev pub invariant-loop-i : goal.invariant-loop-i
invariant-loop-i l = Lining l.mode l.initial.out l.s l.d l.n l.i l.at l.out

abbrev pub decreases-loop-i : goal.decreases-loop-i
decreases-loop-i l = l.n - l.i
