use Rattle.paint_show.proofs.Laws.{mixings, mixing_from, mixing_more, mixing_end, some_known, is_lit_lem}
use native.Mathlib.Omega.{arith}
use Rattle.paint_show.proofs.pick_unlit.Goals as goal

pub loop-c-init : goal.loop-c-init
loop-c-init c = mixing_from _ _ _ _ _ _ _ _ _ _ _ _ _ c.requires.4 c.requires.5 c.requires.7 c.requires.3 c.requires.13

pub bounds-lit-c : goal.bounds-lit-c
bounds-lit-c c = search mixings

pub overflow_cast-c : goal.overflow_cast-c
overflow_cast-c c = search mixings

pub skipped-v-requires : goal.skipped-v-requires
skipped-v-requires c = search mixings

pub overflow_cast-c-in-loop-c : goal.overflow_cast-c-in-loop-c
overflow_cast-c-in-loop-c c = search mixings

pub pick_floor-requires : goal.pick_floor-requires
pick_floor-requires c = (c.requires.0, c.requires.1, some_known _ _ c.loop-c-test.true, c.requires.6, c.requires.7, c.requires.8, let l = c.loop-c.invariant.long in let k = c.requires.9 in omega arith, c.requires.10, let l = c.loop-c.invariant.wide in let k = c.requires.11 in omega arith)

pub loop-c-preserved : goal.loop-c-preserved
loop-c-preserved c = mixing_more _ _ _ _ _ _ _ _ _ _ _ _ _ _ _ c.loop-c.invariant _ _ _ (is_lit_lem _ _ _ c.skipped-v.ensures) c.loop-c-test.true c.requires.5 (omega arith) c.pick_floor.ensures

pub returns : goal.returns
returns c = mixing_end _ _ _ _ _ _ _ _ _ _ _ _ _ _ _ c.loop-c.invariant c.requires.2 c.requires.7 (omega arith)

pub returns-2 : goal.returns-2
returns-2 c = mixing_end _ _ _ _ _ _ _ _ _ _ _ _ _ _ _ (mixing_more _ _ _ _ _ _ _ _ _ _ _ _ _ _ _ c.loop-c.invariant _ _ c.pick_floor.new.row (is_lit_lem _ _ _ c.skipped-v.ensures) c.loop-c-test.true c.requires.5 (omega arith) c.pick_floor.ensures) c.requires.2 c.requires.7 (omega arith)
