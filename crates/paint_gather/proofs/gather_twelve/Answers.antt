use Rattle.paint_gather.proofs.Laws.{reach_part, twelve_gathered}
use mathlib.Core.Path.{refl}
use native.Mathlib.Omega.{arith}
use Rattle.paint_gather.proofs.gather_twelve.Goals as goal

pub gather_four-requires-2 : goal.gather_four-requires-2
gather_four-requires-2 g c = (reach_part _ _ _ _ _ _ c.requires.0 (omega arith) refl, let k = c.requires.1 in let m = c.gather_four.ensures.long in omega arith)

pub gather_four-requires-3 : goal.gather_four-requires-3
gather_four-requires-3 g c = (reach_part _ _ _ _ _ _ c.requires.0 (omega arith) refl, let k = c.requires.1 in let m = c.gather_four.ensures.long in let n = c.gather_four-2.ensures.long in omega arith)

pub returns : goal.returns
returns g c = twelve_gathered _ _ _ _ _ _ _ _ _ _ c.gather_four.ensures c.gather_four-2.ensures c.gather_four-3.ensures
