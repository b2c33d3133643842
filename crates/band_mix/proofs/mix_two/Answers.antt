use Rattle.band_mix.proofs.Steps.{two_steps, pairing_step}
use Rattle.band_mix.proofs.mix_two.Goals as goal

pub loop-x-init : goal.loop-x-init
loop-x-init c = search two_steps

pub two_step-x-requires : goal.two_step-x-requires
two_step-x-requires c = search two_steps

pub loop-x-smaller : goal.loop-x-smaller
loop-x-smaller c = search two_steps

pub loop-x-preserved : goal.loop-x-preserved
loop-x-preserved c = pairing_step _ _ _ _ _ _ _ _ _ _ c.loop-x.invariant c.two_step-x.ensures

pub returns : goal.returns
returns c = search two_steps
