use Rattle.jpeg_scan.proofs.Laws.{clearing}
use Rattle.jpeg_scan.proofs.clears.Goals as goal

pub returns : goal.returns
returns c = search clearing
