use Rattle.band_mix.proofs.Laws.{linings, lining_put, mixed_word}
use Rattle.band_mix.proofs.mix_few.Goals as goal

pub loop-x-init : goal.loop-x-init
loop-x-init c = search linings

pub overflow_add-a : goal.overflow_add-a
overflow_add-a c = search linings

pub overflow_mul-a : goal.overflow_mul-a
overflow_mul-a c = search linings

pub word-low-requires : goal.word-low-requires
word-low-requires c = search linings

pub overflow_add-b : goal.overflow_add-b
overflow_add-b c = search linings

pub overflow_mul-b : goal.overflow_mul-b
overflow_mul-b c = search linings

pub word-up-requires : goal.word-up-requires
word-up-requires c = search linings

pub overflow_add-t : goal.overflow_add-t
overflow_add-t c = search linings

pub overflow_mul-t : goal.overflow_mul-t
overflow_mul-t c = search linings

pub bounds-m-x : goal.bounds-m-x
bounds-m-x c = search linings

pub either-requires : goal.either-requires
either-requires c = search linings

pub put_word-requires : goal.put_word-requires
put_word-requires c = search linings

pub loop-x-preserved : goal.loop-x-preserved
loop-x-preserved c = lining_put _ _ _ _ _ _ _ _ _ c.put_word.ensures (mixed_word _ _ _ _ _ _ _ _ _ _ _ _ c.word-low.ensures c.word-up.ensures c.either.ensures c.requires.1 c.requires.2 c.loop-x-test.true c.loop-x.invariant) c.loop-x-test.true c.loop-x.invariant

pub returns : goal.returns
returns c = search linings
