use Rattle.write_page.proofs.Page.{end_put}
use Rattle.write_page.proofs.put_end.Goals as goal

pub returns : goal.returns
returns c = end_put _ _ c.requires c.put_octets.ensures c.put_octets-2.ensures
