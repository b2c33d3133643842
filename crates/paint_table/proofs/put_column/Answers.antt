use native.Mathlib.Omega.{arith}
use Rattle.paint_table.proofs.Laws.{column_own, column_first}
use Rattle.paint_table.proofs.put_column.Goals as goal

pub returns-then-ready : goal.returns-then-ready
returns-then-ready c = column_own _ _ _ _ _ _ _ _ _ _ c.requires.7 (let h = c.requires.1 in let k = c.requires.2 in omega arith) _ _ c.row_at-r.ensures c.ready.ensures c.if-ready.true c.put_places.ensures

pub returns : goal.returns
returns c = column_first _ _ _ _ _ _ _ _ _ _ c.requires.7 (let h = c.requires.1 in let k = c.requires.2 in omega arith) c.requires.3 c.put_places-2.ensures
