use native.Mathlib.Omega.{arith}
use Rattle.paint_choice.proofs.Laws.{bits_room, bits_there, spread_at}
use Rattle.paint_choice.proofs.spread.Goals as goal

pub lay_bits-requires : goal.lay_bits-requires
lay_bits-requires c =
    (let t = c.requires.0.turns in omega arith, bits_room _ _ _ _ c.requires.0 _ _ c.sample_of-i.ensures c.sample_of.ensures _ c.requires.1, bits_there _ _ _ _ c.requires.0 _ _ c.sample_of-i.ensures c.sample_of.ensures)

pub returns : goal.returns
returns c = spread_at _ _ _ _ c.requires.0 _ _ c.sample_of-i.ensures c.sample_of.ensures _ _ c.requires.1 c.lay_bits.ensures
