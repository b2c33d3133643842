use mathlib.Core.Path.{◌∙◌}
use native.Mathlib.Omega.{arith}
use Rattle.jpeg_pairs.proofs.by_blocks.Goals as goal

pub loop-i-preserved : goal.loop-i-preserved
loop-i-preserved c =
    let t = c.loop-i-test.true in
    let a = c.loop-i.invariant.after in
    record { after = omega arith; inside = omega arith; same = c.loop-i.invariant.same ∙ c.all_plain.ensures c.if-all_plain.true }
