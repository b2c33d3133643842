use native.Mathlib.Omega.{arith}
use Rattle.paint_line.proofs.paint_piece.Goals as goal

pub lay_lit-requires : goal.lay_lit-requires
lay_lit-requires c = (c.requires.0, c.requires.1, c.requires.2, c.requires.3, c.requires.4, c.requires.5, c.requires.6, c.requires.7, c.requires.8, c.requires.9, c.requires.10, c.requires.11)

pub put_floors-requires : goal.put_floors-requires
put_floors-requires c = (c.requires.0, c.requires.1, c.requires.2, c.requires.4, let h0 = c.requires.5 in omega arith, c.requires.6, c.requires.8, c.requires.9)

pub show_part-requires : goal.show_part-requires
show_part-requires c = (c.requires.0, c.requires.1, c.put_floors.ensures, c.few_layers.ensures c.if-few_layers.false, let h0 = c.requires.3 in omega arith, c.requires.4, let h0 = c.requires.5 in omega arith, c.requires.6, c.requires.7, c.requires.10, c.requires.11, c.requires.12, c.requires.13)
