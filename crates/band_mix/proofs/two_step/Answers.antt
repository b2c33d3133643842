use native.Mathlib.Omega.{arith}
use Rattle.band_mix.proofs.Steps.{place_source, both_first, both_second, two_block}
use borrow.Author.Rules.{rules}
use Rattle.band_mix.proofs.two_step.Goals as goal

pub overflow_add-i : goal.overflow_add-i
overflow_add-i c = let h = (place_source _ _ _ _ _ _ (both_first _ _ c.uniform.ensures c.uniform-2.ensures c.if-uniform.true) c.pick-i.ensures c.requires.1 (omega arith)).upto in search rules

pub overflow_add-j : goal.overflow_add-j
overflow_add-j c = let h = (place_source _ _ _ _ _ _ (both_second _ _ c.uniform.ensures c.uniform-2.ensures c.if-uniform.true) c.pick-j.ensures c.requires.1 (omega arith)).upto in search rules

pub both_block-requires : goal.both_block-requires
both_block-requires c = (omega arith, omega arith, (place_source _ _ _ _ _ _ (both_first _ _ c.uniform.ensures c.uniform-2.ensures c.if-uniform.true) c.pick-i.ensures c.requires.1 (omega arith)), (place_source _ _ _ _ _ _ (both_second _ _ c.uniform.ensures c.uniform-2.ensures c.if-uniform.true) c.pick-j.ensures c.requires.1 (omega arith)))

pub returns-then-uniform : goal.returns-then-uniform
returns-then-uniform c = two_block _ _ _ _ _ _ _ _ _ _ (omega arith) (both_first _ _ c.uniform.ensures c.uniform-2.ensures c.if-uniform.true) (both_second _ _ c.uniform.ensures c.uniform-2.ensures c.if-uniform.true) c.pick-i.ensures c.pick-j.ensures c.both_block.ensures
