use Rattle.jpeg_scan.proofs.Laws.{judging}
use Rattle.jpeg_scan.proofs.is_data.Goals as goal

pub returns-in-0 : goal.returns-in-0
returns-in-0 c = search judging

pub returns-in-208-to-215 : goal.returns-in-208-to-215
returns-in-208-to-215 c = search judging

pub returns-in_default : goal.returns-in_default
returns-in_default c = search judging

pub returns-in_default-2 : goal.returns-in_default-2
returns-in_default-2 c = search judging
