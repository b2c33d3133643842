use native.Mathlib.Omega.{arith}
use Rattle.paint_lit.proofs.lay_lit.Goals as goal

pub lay_between-requires : goal.lay_between-requires
lay_between-requires c = (c.requires.0, c.requires.1, c.requires.2, c.put_dark-told.ensures, let h0 = c.requires.8 in omega arith, c.requires.3, c.requires.4, let h0 = c.requires.5 in omega arith, c.requires.6, let h0 = c.requires.7 in omega arith, let h0 = c.requires.9 in omega arith, let h0 = c.requires.10 in omega arith, c.requires.11)
