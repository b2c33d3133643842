use Rattle.data_find.proofs.Laws.{handing}
use Rattle.data_find.proofs.data_part.Goals as goal

pub octets_from-requires-in-Page : goal.octets_from-requires-in-Page
octets_from-requires-in-Page c = search handing

pub octets_from-requires-in-Pencil : goal.octets_from-requires-in-Pencil
octets_from-requires-in-Pencil c = search handing

pub returns-in_default : goal.returns-in_default
returns-in_default c = search handing

pub returns-in-Page : goal.returns-in-Page
returns-in-Page c = search handing

pub returns-in-Pencil : goal.returns-in-Pencil
returns-in-Pencil c = search handing
