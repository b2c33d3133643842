use borrow.Author.Rules.{rules}
use Rattle.write_start.proofs.Laws.{start_filled}
use Rattle.write_start.proofs.put_start_fields.Goals as goal

pub returns : goal.returns
returns c = start_filled _ c.args.hd _ _ c.requires (search rules) (search rules) c.from.ensures c.put_octets.ensures c.put16.ensures c.put32.ensures c.put_octets-2.ensures
