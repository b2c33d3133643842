use Rattle.line_compose.proofs.Laws.{showing}
use Rattle.line_compose.proofs.show_line.Goals as goal

pub record_at-second-requires : goal.record_at-second-requires
record_at-second-requires c = search showing

pub returns-then-out-width : goal.returns-then-out-width
returns-then-out-width c = search showing

pub put_rows-requires : goal.put_rows-requires
put_rows-requires c = search showing

pub draw_line-requires : goal.draw_line-requires
draw_line-requires c = search showing

pub returns : goal.returns
returns c = search showing
