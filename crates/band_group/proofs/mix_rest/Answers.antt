use native.Mathlib.Omega.{arith}
use borrow.Author.Rules.{rules}
use Rattle.band_group.proofs.Lines.{resting_none, resting_more, resting_end, next_behind, next_fits, next_sample, part_long}
use Rattle.band_group.proofs.mix_rest.Goals as goal

pub loop-t-init : goal.loop-t-init
loop-t-init c = resting_none _ _ _ _ _ _ _ _ c.requires.0

pub overflow_mul-p : goal.overflow_mul-p
overflow_mul-p c = let h = next_fits _ _ _ _ _ _ _ _ c.requires.1 c.requires.3 c.requires.4 _ _ c.loop-t.invariant c.loop-t-test.true in record { fits = omega arith }

pub overflow_add-p : goal.overflow_add-p
overflow_add-p c = let h = next_fits _ _ _ _ _ _ _ _ c.requires.1 c.requires.3 c.requires.4 _ _ c.loop-t.invariant c.loop-t-test.true in record { fits = omega arith }

pub overflow_mul-i : goal.overflow_mul-i
overflow_mul-i c = let h = next_sample _ _ _ _ _ _ c.requires.3 c.loop-t-test.true in record { fits = omega arith }

pub overflow_add-i : goal.overflow_add-i
overflow_add-i c = let h = next_sample _ _ _ _ _ _ c.requires.3 c.loop-t-test.true in record { fits = omega arith }

pub slice_bounds-mix_one-count : goal.slice_bounds-mix_one-count
slice_bounds-mix_one-count c = let h = next_sample _ _ _ _ _ _ c.requires.3 c.loop-t-test.true in omega arith

pub slice_bounds-mix_one-start : goal.slice_bounds-mix_one-start
slice_bounds-mix_one-start c = let h = next_sample _ _ _ _ _ _ c.requires.3 c.loop-t-test.true in omega arith

pub slice_bounds-mix_one-end : goal.slice_bounds-mix_one-end
slice_bounds-mix_one-end c = let h = next_sample _ _ _ _ _ _ c.requires.3 c.loop-t-test.true in omega arith

pub mix_one-requires : goal.mix_one-requires
mix_one-requires c = (next_behind _ _ _ _ _ _ _ _ c.requires.1 c.requires.3 c.requires.4 _ _ c.loop-t.invariant, c.requires.1, (let h = next_sample _ _ _ _ _ _ c.requires.3 c.loop-t-test.true in let k = c.requires.1 in search (rules, part_long)), next_fits _ _ _ _ _ _ _ _ c.requires.1 c.requires.3 c.requires.4 _ _ c.loop-t.invariant c.loop-t-test.true)

pub loop-t-preserved : goal.loop-t-preserved
loop-t-preserved c = resting_more _ _ _ _ _ _ _ _ c.requires.1 c.requires.3 c.requires.4 _ _ c.loop-t.invariant _ c.loop-t-test.true c.mix_one.ensures

pub returns : goal.returns
returns c = resting_end _ _ _ _ _ _ _ _ c.requires.1 c.requires.3 c.requires.4 _ _ c.loop-t.invariant c.loop-t-test.false
