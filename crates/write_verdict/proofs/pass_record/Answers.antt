use borrow.Author.Rules.{rules}
use Rattle.write_verdict.proofs.Short.{pass_short}
use Rattle.write_verdict.proofs.pass_record.Goals as goal

pub returns-then-not-data_there : goal.returns-then-not-data_there
returns-then-not-data_there c = search (rules, pass_short)
