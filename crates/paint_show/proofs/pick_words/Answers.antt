use Rattle.paint_show.proofs.Laws.{word_picked}
use Rattle.paint_coat.proofs.Laws.{coat_more}
use native.Mathlib.Omega.{arith}
use Rattle.paint_show.proofs.Laws.{pickings}
use Rattle.paint_show.proofs.pick_words.Goals as goal

pub loop-p-init : goal.loop-p-init
loop-p-init c = search pickings

pub overflow_mul-p : goal.overflow_mul-p
overflow_mul-p c = search pickings

pub word-low-requires : goal.word-low-requires
word-low-requires c = search pickings

pub overflow_sub-p : goal.overflow_sub-p
overflow_sub-p c = search pickings

pub overflow_mul-p-in-loop-p : goal.overflow_mul-p-in-loop-p
overflow_mul-p-in-loop-p c = search pickings

pub word-up-requires : goal.word-up-requires
word-up-requires c = search pickings

pub overflow_sub-v : goal.overflow_sub-v
overflow_sub-v c = search pickings

pub overflow_add-v : goal.overflow_add-v
overflow_add-v c = search pickings

pub bounds-sel-i : goal.bounds-sel-i
bounds-sel-i c = search pickings

pub overflow_mul-p-in-loop-p-2 : goal.overflow_mul-p-in-loop-p-2
overflow_mul-p-in-loop-p-2 c = search pickings

pub either-requires : goal.either-requires
either-requires c = search pickings

pub put_word-requires : goal.put_word-requires
put_word-requires c = search pickings

pub loop-p-preserved : goal.loop-p-preserved
loop-p-preserved c = coat_more _ _ _ _ _ _ _ _ c.put_word.ensures (word_picked _ _ _ _ _ _ _ _ _ _ c.word-low.ensures c.word-up.ensures c.either.ensures) (omega arith) c.loop-p.invariant

pub returns : goal.returns
returns c = search pickings
