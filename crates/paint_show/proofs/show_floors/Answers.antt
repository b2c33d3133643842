use Rattle.paint_show.proofs.Gathered.{least_part}
use Rattle.paint_show.proofs.Laws.{showing_mixed, showing_run, part_known, here_known}
use native.Mathlib.Omega.{arith}
use Rattle.paint_show.proofs.Laws.{showing}
use Rattle.paint_show.proofs.show_floors.Goals as goal

pub overflow_sub-n : goal.overflow_sub-n
overflow_sub-n c = search showing

pub all_gathered-whole-requires : goal.all_gathered-whole-requires
all_gathered-whole-requires c = (c.requires.5, λ z. (c.requires.11 z).most, λ z. (c.requires.11 z).lits)

pub loop-i-init : goal.loop-i-init
loop-i-init c = search showing

pub bounds-sel-i : goal.bounds-sel-i
bounds-sel-i c = search showing

pub run_wanted-near-requires : goal.run_wanted-near-requires
run_wanted-near-requires c = search showing

pub run_on-q-requires : goal.run_on-q-requires
run_on-q-requires c = search showing

pub mixed_end-e-requires : goal.mixed_end-e-requires
mixed_end-e-requires c = search showing

pub overflow_add-a : goal.overflow_add-a
overflow_add-a c = search showing

pub overflow_add-a-then-q-near : goal.overflow_add-a-then-q-near
overflow_add-a-then-q-near c = search showing

pub show_mixed-requires : goal.show_mixed-requires
show_mixed-requires c = (c.requires.0, c.requires.1, part_known _ _ _ _ _ _ c.requires.2 c.mixed_end-e.ensures.1, least_part _ _ _ _ _ _ c.requires.3 c.mixed_end-e.ensures.1, c.requires.4, c.requires.5, let h = c.mixed_end-e.ensures.1 in let j = c.requires.7 in omega arith, let h = c.mixed_end-e.ensures.1 in let k = c.requires.6 in let j = c.requires.7 in omega arith, omega arith, let h = c.mixed_end-e.ensures.0 in omega arith, let h = c.mixed_end-e.ensures.1 in let k = c.requires.8 in let j = c.requires.7 in let l = c.loop-i.invariant.long in omega arith, let h = c.mixed_end-e.ensures.1 in let k = c.requires.9 in omega arith, let h = c.mixed_end-e.ensures.2 in let k = c.requires.10 in let l = c.loop-i.invariant.wide in omega arith, c.requires.11)

pub loop-i-smaller-then-q-near : goal.loop-i-smaller-then-q-near
loop-i-smaller-then-q-near c = search showing

pub loop-i-preserved-then-q-near : goal.loop-i-preserved-then-q-near
loop-i-preserved-then-q-near c = showing_mixed _ _ _ _ _ _ _ _ _ _ _ _ c.loop-i.invariant _ _ _ c.mixed_end-e.ensures.0 c.mixed_end-e.ensures.1 (omega arith) c.show_mixed.ensures

pub overflow_add-a-else-q-near : goal.overflow_add-a-else-q-near
overflow_add-a-else-q-near c = search showing

pub overflow_add-a-else-q-near-2 : goal.overflow_add-a-else-q-near-2
overflow_add-a-else-q-near-2 c = search showing

pub overflow_add-a-else-q-near-3 : goal.overflow_add-a-else-q-near-3
overflow_add-a-else-q-near-3 c = search showing

pub lay_floor-requires : goal.lay_floor-requires
lay_floor-requires c = (c.requires.0, c.requires.1, here_known _ _ _ _ c.requires.2 c.loop-i-test.true, let h = c.run_on-q.ensures.upto in let k = c.requires.6 in let j = c.requires.7 in omega arith, let h = c.run_on-q.ensures.from in omega arith, let h = c.run_on-q.ensures.upto in let m = c.run_on-q.ensures.from in let k = c.requires.8 in let j = c.requires.7 in let l = c.loop-i.invariant.long in omega arith)

pub loop-i-smaller : goal.loop-i-smaller
loop-i-smaller c = let h = c.run_wanted-near.ensures.0 in let k = c.run_on-q.ensures.upto in omega arith

pub loop-i-preserved : goal.loop-i-preserved
loop-i-preserved c = showing_run _ _ _ _ _ _ _ _ _ _ _ _ c.loop-i.invariant _ _ _ c.run_on-q.ensures c.lay_floor.ensures

pub returns : goal.returns
returns c = search showing
