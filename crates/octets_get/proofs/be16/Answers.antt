use Rattle.octets.specs.Octets.{be16_at}
use Rattle.octets_get.proofs.be16.Goals as goal

pub returns : goal.returns
unfolding be16_at
returns c = c.from_be_bytes.ensures
