use borrow.Author.Rules.{rules}
use Rattle.line_compose.proofs.Laws.{composing, line_refused, line_composed}
use Rattle.line_compose.proofs.compose_line.Goals as goal

pub returns-in-Err : goal.returns-in-Err
returns-in-Err c = line_refused _ _ _ _ _ _ _ c.judge_line.ensures _ _ _ _ c.in-Err.is (search rules)

pub show_line-requires : goal.show_line-requires
show_line-requires c = search composing

pub returns-in-Ok : goal.returns-in-Ok
returns-in-Ok c = line_composed _ _ _ _ _ _ _ c.judge_line.ensures _ _ _ _ _ c.in-Ok.is c.show_line.ensures
