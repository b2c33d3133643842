use native.Mathlib.Omega.{arith}
use Rattle.band_mix.proofs.Steps.{place_room, stepped_block}
use borrow.Author.Rules.{rules}
use Rattle.band_mix.proofs.mix_step.Goals as goal

pub overflow_add-i : goal.overflow_add-i
overflow_add-i c = let h = place_room _ _ _ _ _ _ _ (c.uniform.ensures c.if-uniform.true) c.pick-i.ensures c.requires.1 c.requires.2 in search rules

pub copy_block-requires : goal.copy_block-requires
copy_block-requires c = let h = place_room _ _ _ _ _ _ _ (c.uniform.ensures c.if-uniform.true) c.pick-i.ensures c.requires.1 c.requires.2 in (omega arith, omega arith)

pub returns-then-uniform : goal.returns-then-uniform
returns-then-uniform c = stepped_block _ _ _ _ _ _ _ _ _ (omega arith) (c.uniform.ensures c.if-uniform.true) c.pick-i.ensures c.copy_block.ensures
