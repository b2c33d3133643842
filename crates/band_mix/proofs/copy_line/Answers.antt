use Rattle.band_mix.proofs.Laws.{linings, lining_put, copied_word}
use Rattle.band_mix.proofs.copy_line.Goals as goal

pub loop-x-init : goal.loop-x-init
loop-x-init c = search linings

pub overflow_add-a : goal.overflow_add-a
overflow_add-a c = search linings

pub overflow_mul-a : goal.overflow_mul-a
overflow_mul-a c = search linings

pub word-w-requires : goal.word-w-requires
word-w-requires c = search linings

pub overflow_add-t : goal.overflow_add-t
overflow_add-t c = search linings

pub overflow_mul-t : goal.overflow_mul-t
overflow_mul-t c = search linings

pub put_word-requires : goal.put_word-requires
put_word-requires c = search linings

pub loop-x-preserved : goal.loop-x-preserved
loop-x-preserved c = lining_put _ _ _ _ _ _ _ _ _ c.put_word.ensures (copied_word _ _ _ _ _ _ _ c.word-w.ensures c.requires.0 c.loop-x-test.true c.loop-x.invariant) c.loop-x-test.true c.loop-x.invariant

pub returns : goal.returns
returns c = search linings
