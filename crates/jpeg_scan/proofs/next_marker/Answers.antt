use Rattle.jpeg_scan.proofs.Laws.{searching, next_ahead, next_here}
use borrow.Author.Rules.{rules}
use Rattle.jpeg_scan.proofs.next_marker.Goals.{then-n-from-via-then-n-from, then-n-from-via-else-n-from+then-n-from-lt2}
use Rattle.jpeg_scan.proofs.next_marker.Goals as goal

pub returns-then-n-from : goal.returns-then-n-from
returns-then-n-from c = elim c.then-n-from.branch [ then-n-from-via-then-n-from w ↦ search searching | then-n-from-via-else-n-from+then-n-from-lt2 w ↦ search searching ]

pub returns-then-s-i : goal.returns-then-s-i
returns-then-s-i c = search searching

pub returns-then-n-e : goal.returns-then-n-e
returns-then-n-e c = search searching

pub overflow_sub-e : goal.overflow_sub-e
overflow_sub-e c = let h = next_ahead _ _ c.run_end-e.ensures in search rules

pub returns-then-not-is_data : goal.returns-then-not-is_data
returns-then-not-is_data c = next_here _ _ _ c.loop-i.invariant c.loop-i-test.true c.if-s-i.false c.run_end-e.ensures c.if-n-e.false c.is_data.ensures c.if-not-is_data.true

pub returns-then-n-j-lt2 : goal.returns-then-n-j-lt2
returns-then-n-j-lt2 c = search searching

pub loop-i-smaller : goal.loop-i-smaller
loop-i-smaller c = search searching

pub loop-i-preserved : goal.loop-i-preserved
loop-i-preserved c = search searching

pub returns : goal.returns
returns c = search searching
