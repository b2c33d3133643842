use Rattle.std.proofs.Common.{rules}
use borrow.Author.Tests.{tests}
use Rattle.jpeg_pairs.proofs.Laws.{plain_by}
use Rattle.jpeg_pairs.proofs.all_plain.Goals as goal

pub returns : goal.returns
returns c = λ e. plain_by _ _ 32 c.requires (λ j l. let p = c.each.ensures e j l in search (rules, tests))
