use mathlib.Core.List.{[]}
use Rattle.paint_show.proofs.Laws.{first_known, dark_known, mixed_begun, mixed_end}
use native.Mathlib.Omega.{arith}
use Rattle.paint_show.proofs.mix_laid.Goals as goal

pub lay_floor-requires : goal.lay_floor-requires
lay_floor-requires c = (c.requires.0, c.requires.1, first_known _ _ _ _ _ c.requires.2 c.requires.7 c.requires.8, c.requires.6, omega arith, let k = c.requires.9 in omega arith)

pub pick_floor-requires : goal.pick_floor-requires
pick_floor-requires c = (c.requires.0, c.requires.1, dark_known _, c.requires.6, c.requires.7, omega arith, let l = c.lay_floor.ensures.long in let k = c.requires.9 in omega arith, c.requires.10, c.requires.11)

pub pick_pairs-requires : goal.pick_pairs-requires
pick_pairs-requires c = (c.requires.0, c.requires.1, c.requires.2, c.requires.3, c.requires.4, c.requires.5, c.requires.6, c.requires.7, omega arith, let l = c.lay_floor.ensures.long in let m = c.pick_floor.ensures.long in let k = c.requires.9 in omega arith, c.requires.10, let k = c.requires.11 in omega arith, mixed_begun _ _ _ _ _ _ _ _ _ _ _ _ [] c.lay_floor.ensures c.pick_floor.ensures)

pub returns : goal.returns
returns c = mixed_end _ _ _ _ _ _ _ _ _ _ _ _ _ c.lay_floor.ensures c.pick_floor.ensures (let h = c.requires.8 in omega arith) c.pick_pairs.ensures
