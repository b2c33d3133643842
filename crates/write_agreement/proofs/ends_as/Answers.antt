use borrow.Author.Rules.{rules}
use Rattle.write_agreement.proofs.Laws.{ends_compared}
use Rattle.write_agreement.proofs.ends_as.Goals as goal

pub returns : goal.returns
returns c = search (rules, ends_compared)
