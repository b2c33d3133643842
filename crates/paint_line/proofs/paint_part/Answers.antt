use native.Mathlib.Omega.{arith}
use Rattle.paint_line.proofs.Laws.{part_covered}
use Rattle.paint_line.proofs.Parts.{part_dark}
use Rattle.paint_line.proofs.paint_part.Goals as goal

pub returns-then-all_dark : goal.returns-then-all_dark
returns-then-all_dark c = part_dark _ _ _ _ _ _ _ _ _ _ c.requires.9 (c.all_dark.ensures c.if-all_dark.true) c.lay_flat.ensures

pub returns-then-f-pairs : goal.returns-then-f-pairs
returns-then-f-pairs c = part_covered _ _ _ _ _ _ _ _ _ c.requires.9 c.requires.2 _ _ c.first_pair-f.ensures c.if-f-pairs.true c.lay_floor.ensures c.requires.3

pub paint_pieces-requires : goal.paint_pieces-requires
paint_pieces-requires c = (c.requires.0, c.requires.1, c.first_pair-f.ensures, let h = c.first_pair-f.ensures.most in let k = c.if-f-pairs.false in omega arith, c.requires.2, c.requires.3, c.requires.4, c.requires.5, (let k = c.requires.6 in omega arith), (let k = c.requires.7 in omega arith), (let k = c.requires.8 in omega arith), c.requires.9, (let k = c.requires.10 in omega arith), (let k = c.requires.11 in omega arith))

pub returns : goal.returns
returns c = c.paint_pieces.ensures
