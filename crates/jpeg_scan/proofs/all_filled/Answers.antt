use Rattle.std.proofs.Common.{rules}
use borrow.Author.Tests.{tests}
use Rattle.jpeg_scan.proofs.all_filled.Goals as goal

pub returns : goal.returns
returns c = λ e j l. let p = c.each.ensures e j l in search (rules, tests)
