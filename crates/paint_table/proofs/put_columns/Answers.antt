use Rattle.paint_table.proofs.Laws.{tablings, tabling_more, tabling_end}
use native.Mathlib.Omega.{arith}
use Rattle.paint_table.proofs.put_columns.Goals as goal

pub loop-c-preserved : goal.loop-c-preserved
loop-c-preserved c = search tablings

pub returns-2 : goal.returns-2
returns-2 c =
    tabling_end _ _ _ _ _ _ _ _ _ _ _ _ _ (tabling_more _ _ _ _ _ _ _ _ _ _ _ _ _ c.loop-c.invariant _ _ c.loop-c-test.true c.requires.1 c.put_column.ensures)
    (omega arith) (omega arith) (omega arith) c.requires.4 c.requires.3 (omega arith) (omega arith)
