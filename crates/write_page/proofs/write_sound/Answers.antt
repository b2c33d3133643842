use Rattle.write_page.proofs.Page.{writing}
use Rattle.write_page.proofs.write_sound.Goals as goal

pub returns-then-size : goal.returns-then-size
returns-then-size c = search writing

pub returns-then-page-size : goal.returns-then-page-size
returns-then-page-size c = search writing

pub emit_page-requires : goal.emit_page-requires
emit_page-requires c = search writing

pub returns : goal.returns
returns c = search writing
