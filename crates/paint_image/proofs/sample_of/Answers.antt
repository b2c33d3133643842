use Rattle.paint_image.proofs.Laws.{placing}
use Rattle.paint_image.proofs.sample_of.Goals as goal

pub scale_pos-p-requires : goal.scale_pos-p-requires
scale_pos-p-requires c = search placing

pub returns : goal.returns
returns c = search placing
