use Rattle.paint_two.proofs.Laws.{mix_more, chosen_word, shown_word}
use Rattle.paint_two.proofs.mix.Goals as goal

pub loop-x-preserved : goal.loop-x-preserved
loop-x-preserved g c =
    mix_more _ _ _ _ _ _ _ _ _ c.put_word.ensures (chosen_word _ _ _ _ _ _ _ _ _ (shown_word _ _ _ _ c.at-below.ensures) (shown_word _ _ _ _ c.at-above.ensures) c.either.ensures)
    c.loop-x-test.true c.loop-x.invariant
