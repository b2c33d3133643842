use mathlib.Core.Path.{refl}
use Rattle.mode1_rules.specs.Kinds.{image_record}
use Rattle.read_records.proofs.absent_record.Goals as goal

pub returns : goal.returns
unfolding image_record
returns c = refl
