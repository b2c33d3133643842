use Rattle.band_mix.proofs.Twos.{pairings, pairing_put}
use Rattle.band_mix.proofs.two_few.Goals as goal

pub loop-x-init : goal.loop-x-init
loop-x-init c = search pairings

pub overflow_add-a : goal.overflow_add-a
overflow_add-a c = search pairings

pub overflow_mul-a : goal.overflow_mul-a
overflow_mul-a c = search pairings

pub word-low-requires : goal.word-low-requires
word-low-requires c = search pairings

pub overflow_add-b : goal.overflow_add-b
overflow_add-b c = search pairings

pub overflow_mul-b : goal.overflow_mul-b
overflow_mul-b c = search pairings

pub word-up-requires : goal.word-up-requires
word-up-requires c = search pairings

pub overflow_add-a-in-loop-x : goal.overflow_add-a-in-loop-x
overflow_add-a-in-loop-x c = search pairings

pub overflow_mul-a-in-loop-x : goal.overflow_mul-a-in-loop-x
overflow_mul-a-in-loop-x c = search pairings

pub bounds-m-x : goal.bounds-m-x
bounds-m-x c = search pairings

pub either-requires : goal.either-requires
either-requires c = search pairings

pub put_word-requires : goal.put_word-requires
put_word-requires c = search pairings

pub overflow_add-b-in-loop-x : goal.overflow_add-b-in-loop-x
overflow_add-b-in-loop-x c = search pairings

pub overflow_mul-b-in-loop-x : goal.overflow_mul-b-in-loop-x
overflow_mul-b-in-loop-x c = search pairings

pub either-requires-in-loop-x : goal.either-requires-in-loop-x
either-requires-in-loop-x c = search pairings

pub put_word-requires-in-loop-x : goal.put_word-requires-in-loop-x
put_word-requires-in-loop-x c = search pairings

pub loop-x-preserved : goal.loop-x-preserved
loop-x-preserved c = pairing_put _ _ _ _ _ _ _ _ _ _ _ _ _ _ _ c.loop-x-test.true c.loop-x.invariant c.word-low.ensures c.word-up.ensures c.either.ensures c.either-in-loop-x.ensures c.put_word.ensures c.put_word-in-loop-x.ensures

pub returns : goal.returns
returns c = search pairings
