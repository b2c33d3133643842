use Rattle.std.proofs.Common.{rules}
use borrow.Author.Tests.{tests}
use Rattle.octets_run.proofs.Laws.{same_by}
use Rattle.octets_run.proofs.all_same.Goals as goal

pub returns : goal.returns
returns c = λ e. same_by _ _ _ 64 c.requires (λ j l. let p = c.each.ensures e j l in search (rules, tests))
