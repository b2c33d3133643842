use Rattle.paint_coat.proofs.Laws.{coat_more}
use Rattle.paint_gather.proofs.Laws.{few_is}
use Rattle.paint_gather.proofs.gather_few.Goals as goal

pub loop-y-preserved : goal.loop-y-preserved
loop-y-preserved g c = coat_more _ _ _ _ _ _ _ _ c.put_word.ensures (few_is _ _ _ _ _ _ _ _ _ c.sample_at-w.ensures) c.loop-y-test.true c.loop-y.invariant
