use Rattle.octets.proofs.Turns.{turns}
use Rattle.octets_get.proofs.stands_at.Goals.{then-s-at-via-then-s-at, then-s-at-via-else-s-at+then-s-at-2}
use Rattle.octets_get.proofs.stands_at.Goals as goal

pub returns-then-s-at : goal.returns-then-s-at
returns-then-s-at c = elim c.then-s-at.branch [
  | then-s-at-via-then-s-at w ↦ search turns
  | then-s-at-via-else-s-at+then-s-at-2 w ↦ search turns
]

pub loop-i-init : goal.loop-i-init
loop-i-init c = search turns

pub returns-then-s-at-3 : goal.returns-then-s-at-3
returns-then-s-at-3 c = search turns

pub loop-i-preserved : goal.loop-i-preserved
loop-i-preserved c = search turns

pub returns : goal.returns
returns c = search turns
