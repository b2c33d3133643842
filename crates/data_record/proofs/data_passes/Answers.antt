use mathlib.Core.Path.{ap₂}
use lib.Dec.{ltb}
use Rattle.data_record.proofs.data_passes.Goals as goal

pub returns : goal.returns
returns c = ap₂ ltb c.source_len.ensures c.end_of.ensures
