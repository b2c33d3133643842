-- The first of the candidates on the way down.
--
--   way_from        a candidate, and under it, unless it is sure, those of the pairs below
use Rattle.std.specs.Prelude.{ℕ, ◌-◌, cond}
use Rattle.pixel_rules.specs.declared.Mask.{Mask}
use Rattle.pixel_rules.specs.Down.{Way, last, more, candidates}
use Rattle.line_pixel.specs.declared.Candidate.{Candidate}

unfoldable pub way_from : (ℕ → Mask) → Candidate → Way
way_from mask c = cond c.sure (last c.pair) (more c.pair (candidates mask (c.pair - 1)))
