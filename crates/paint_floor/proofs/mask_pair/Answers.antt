use native.Mathlib.Omega.{arith}
use Rattle.paint_floor.proofs.Laws.{pair_sure}
use Rattle.paint_floor.proofs.mask_pair.Goals as goal

pub returns : goal.returns
returns c = pair_sure _ _ _ _ _ _ _ _ _ c.row_at-m.ensures c.row_at-r.ensures _ _ c.within-x.ensures c.within-y.ensures _ c.mark-v.ensures (λ z. let h = c.requires.4 in let k = c.requires.5 in absurd (omega arith)) _ _ _ _ c.mark_beside.ensures c.mark_inside.ensures c.mark_beside-2.ensures c.requires.2 c.requires.3
