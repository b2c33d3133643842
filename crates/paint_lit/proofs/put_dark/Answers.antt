use Rattle.paint_lit.proofs.Laws.{starts_piece, surely}
use native.Mathlib.Omega.{arith}
use Rattle.paint_lit.proofs.put_dark.Goals as goal

pub returns-then-b-a : goal.returns-then-b-a
returns-then-b-a c = search surely

pub dark_ahead-requires : goal.dark_ahead-requires
dark_ahead-requires c = (c.requires.0, c.requires.1, starts_piece _ _ _ _ _ _ _ _ _ c.requires.2 (omega arith) (let k = c.if-b-a.false in omega arith), let h0 = c.requires.3 in omega arith, c.requires.4, let k = c.if-b-a.false in let h0 = c.requires.6 in omega arith, let k = c.if-b-a.false in let h0 = c.requires.7 in omega arith, let k = c.if-b-a.false in let h0 = c.requires.8 in omega arith)

pub put_floors-requires : goal.put_floors-requires
put_floors-requires c = (c.requires.0, c.requires.1, c.requires.2, c.requires.4, let h0 = c.requires.5 in omega arith, c.requires.6, let h0 = c.requires.7 in omega arith, let h0 = c.requires.8 in omega arith)

pub returns : goal.returns
returns c = search surely
