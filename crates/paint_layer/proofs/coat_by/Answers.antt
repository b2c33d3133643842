use native.Mathlib.Omega.{arith}
use Rattle.paint_layer.proofs.Laws.{coat_begun, coat_more}
use Rattle.paint_layer.proofs.coat_by.Goals as goal

pub loop-x-init : goal.loop-x-init
loop-x-init g c = λ f h. coat_begun f _ _

pub loop-x-preserved : goal.loop-x-preserved
loop-x-preserved g c =
    λ f h. coat_more f _ _ _ _ _ _ _ (omega arith) c.word-w.ensures c.put_word.ensures (h _ _ _ (omega arith) c.rule.ensures) (c.loop-x.invariant f h)
