use Rattle.paint_image.proofs.Laws.{areas}
use Rattle.paint_image.proofs.lay_area.Goals as goal

pub returns : goal.returns
returns c = search areas
