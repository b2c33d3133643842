use borrow.Author.Rules.{rules}
use Rattle.write_agreement.proofs.Laws.{data_walked}
use Rattle.write_agreement.proofs.data_agrees.Goals as goal

pub returns : goal.returns
returns c = search (rules, data_walked)
