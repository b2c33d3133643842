use Rattle.write_verdict.proofs.Loops.{pass_on, pass_laws}
use Rattle.write_verdict.proofs.pass_records.Goals as goal

pub loop-i-init : goal.loop-i-init
loop-i-init c = search pass_laws

pub returns-in_err-tally : goal.returns-in_err-tally
returns-in_err-tally c = search pass_laws

pub returns : goal.returns
returns c = search pass_laws

pub loop-i-preserved : goal.loop-i-preserved
loop-i-preserved c = pass_on _ _ _ _ _ c.requires _ _ c.loop-i.invariant c.loop-i-test.true c.record_at.ensures c.pass_record.ensures (λ i. (c.type_inv.s i).fits) _ c.in_ok-tally.was
