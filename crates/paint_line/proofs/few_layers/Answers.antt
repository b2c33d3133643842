use native.Mathlib.Omega.{arith}
use Rattle.paint_line.proofs.Laws.{telling}
use Rattle.paint_lit.proofs.Laws.{row_there}
use Rattle.paint_line.proofs.few_layers.Goals as goal

pub returns-then-pairs-f-le2 : goal.returns-then-pairs-f-le2
returns-then-pairs-f-le2 c = search telling

pub returns-then-b-a-lt64 : goal.returns-then-b-a-lt64
returns-then-b-a-lt64 c = search telling

pub loop-j-init : goal.loop-j-init
loop-j-init c = search telling

pub row_at-m-requires : goal.row_at-m-requires
row_at-m-requires c = (omega arith, row_there _ _ _ _ c.requires.0 _ (let h = c.loop-j-test.true in omega arith))

pub returns-then-m : goal.returns-then-m
returns-then-m c = search telling

pub loop-j-preserved : goal.loop-j-preserved
loop-j-preserved c = search telling

pub returns-else-b-a-lt64 : goal.returns-else-b-a-lt64
returns-else-b-a-lt64 c = search telling

pub returns-else-m : goal.returns-else-m
returns-else-m c = search telling
