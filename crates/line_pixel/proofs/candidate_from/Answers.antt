use Rattle.line_pixel.proofs.Laws.{leading, fits_mask, lead_sure, lead_unsure}
use native.Mathlib.Omega.{arith}
use mathlib.Core.Path.{refl}
use Rattle.line_pixel.proofs.candidate_from.Goals as goal

pub loop-j-init : goal.loop-j-init
loop-j-init c = (omega arith, refl)

pub row_at-requires : goal.row_at-requires
row_at-requires c = search leading

pub mask_at-m-requires : goal.mask_at-m-requires
mask_at-m-requires c = (
  fits_mask _ _ _ _ _ c.requires.0 c.loop-j.invariant.0 c.loop-j-test.true c.row_at.ensures,
  c.requires.1,
)

pub returns-in-One : goal.returns-in-One
returns-in-One c = lead_sure _ _ _ _ _ _ _
    c.loop-j.invariant.1
    c.loop-j-test.true
    c.row_at.ensures
    c.mask_at-m.ensures
    c.in-One.is

pub returns-in-Hidden : goal.returns-in-Hidden
returns-in-Hidden c = lead_unsure _ _ _ _ _ _ _
    c.loop-j.invariant.1
    c.loop-j-test.true
    c.row_at.ensures
    c.mask_at-m.ensures
    c.in-Hidden.is

pub loop-j-preserved : goal.loop-j-preserved
loop-j-preserved c = search leading

pub returns : goal.returns
returns c = search leading
