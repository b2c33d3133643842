use Rattle.paint_show.proofs.Gathered.{table_reach, table_step, gathered_begun, gathered_end}
use Rattle.paint_show.proofs.Laws.{dark_known}
use native.Mathlib.Omega.{arith}
use Rattle.paint_show.proofs.mix_gathered.Goals as goal

pub gather-requires : goal.gather-requires
gather-requires c = (table_reach _ _ _ _ _ _ _ _ _ _ c.requires.13 _ _ _ c.requires.8 c.requires.6 c.requires.5 c.requires.2 c.requires.3 c.requires.11, c.requires.8, c.requires.9, c.requires.7, table_step _ _ _ _ _ _ _ _ _ _ c.requires.13 _ _ _ c.requires.8 c.requires.6 c.requires.5 c.requires.2 c.requires.3, c.requires.10)

pub pick_floor-requires : goal.pick_floor-requires
pick_floor-requires c = (c.requires.0, c.requires.1, dark_known _, c.requires.7, c.requires.8, c.requires.9, let l = c.gather.ensures.long in let k = c.requires.10 in omega arith, c.requires.11, c.requires.12)

pub pick_unlit-requires : goal.pick_unlit-requires
pick_unlit-requires c = (c.requires.0, c.requires.1, c.requires.2, c.requires.3, c.requires.4, c.requires.5, c.requires.7, c.requires.8, c.requires.9, let l = c.gather.ensures.long in let m = c.pick_floor.ensures.long in let k = c.requires.10 in omega arith, c.requires.11, let k = c.requires.12 in omega arith, c.requires.13.lits, gathered_begun _ _ _ _ _ _ _ _ _ _ c.requires.13 _ _ _ c.requires.8 c.requires.6 c.requires.5 c.requires.2 c.requires.3 _ _ _ _ _ c.gather.ensures _ (λ z. omega arith) c.pick_floor.ensures)

pub returns : goal.returns
returns c = gathered_end _ _ _ _ _ _ _ _ _ _ c.requires.13 _ _ _ c.requires.8 c.requires.6 c.requires.5 c.requires.2 c.requires.3 _ _ _ _ _ c.gather.ensures _ (λ z. omega arith) c.pick_floor.ensures _ c.pick_unlit.ensures
