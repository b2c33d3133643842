use Rattle.band_mix.proofs.Steps.{steps, lining_step}
use Rattle.band_mix.proofs.mix_line.Goals as goal

pub loop-x-init : goal.loop-x-init
loop-x-init c = search steps

pub mix_step-x-requires : goal.mix_step-x-requires
mix_step-x-requires c = search steps

pub loop-x-smaller : goal.loop-x-smaller
loop-x-smaller c = search steps

pub loop-x-preserved : goal.loop-x-preserved
loop-x-preserved c = lining_step _ _ _ _ _ _ _ _ _ _ c.requires.0 c.requires.1 c.loop-x.invariant c.mix_step-x.ensures

pub returns : goal.returns
returns c = search steps
