use Rattle.jpeg_pairs.proofs.Laws.{look_plain, look_data}
use Rattle.jpeg_pairs.proofs.near.Goals as goal

pub loop-i-preserved-then-s-i : goal.loop-i-preserved-then-s-i
loop-i-preserved-then-s-i c = look_data _ _ _ _ c.loop-i.invariant c.loop-i-test.true c.if-s-i.true c.is_code.ensures c.if-is_code.false

pub loop-i-preserved : goal.loop-i-preserved
loop-i-preserved c = look_plain _ _ _ _ c.loop-i.invariant c.loop-i-test.true c.if-s-i.false
