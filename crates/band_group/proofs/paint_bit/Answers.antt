use native.Mathlib.Omega.{arith}
use Rattle.band_group.proofs.Rows.{two_rows, put_fits, put_plain, bit_painted}
use Rattle.band_group.proofs.paint_bit.Goals as goal

pub give_bit-requires : goal.give_bit-requires
give_bit-requires c = two_rows _ _ _ _ 0 c.requires.0 c.requires.2

pub paint_at-requires : goal.paint_at-requires
paint_at-requires c = (put_fits _ _ _ _ _ _ c.requires.0 c.requires.2 c.give_bit.ensures, put_plain _ _ _ _ _ _ c.requires.0 c.requires.2 c.give_bit.ensures c.requires.1, c.requires.3, c.requires.4, c.requires.5, (let k = c.requires.6 in omega arith), (let k = c.requires.7 in omega arith), (let k = c.requires.8 in omega arith), (let k = c.requires.9 in omega arith), (let k = c.requires.10 in omega arith))

pub returns : goal.returns
returns c = (bit_painted _ _ _ _ _ _ _ _ _ _ _ c.give_bit.ensures c.paint_at.ensures, c.give_bit.ensures)
