use mathlib.Core.Path.{◌∙◌}
use Rattle.octets.specs.Octets.{octets16, octets32}
use Rattle.octets_put.proofs.Turns.{part_put, octets32_are}
use Rattle.octets_put.proofs.put32.Goals as goal

pub returns : goal.returns
unfolding octets32 octets16
returns c = part_put _ _ _ _ (c.copy_from_slice.ensures.after ∙ c.to_be_bytes.ensures ∙ octets32_are c.args.v c.ranges.v.fits)
