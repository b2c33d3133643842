use Rattle.read_records.proofs.Laws.{image_laws}
use Rattle.mode1_rules.specs.Kinds as Kinds
use Rattle.read_records.proofs.image_record.Goals as goal

pub narrow-requires : goal.narrow-requires
narrow-requires c = search image_laws

pub narrow-requires-in-Some : goal.narrow-requires-in-Some
narrow-requires-in-Some c = search image_laws

pub returns-in-Some : goal.returns-in-Some
unfolding Kinds.image_record
returns-in-Some c = search image_laws

pub returns-in-None : goal.returns-in-None
returns-in-None c = search image_laws
