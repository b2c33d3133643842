use Rattle.line_lanes.proofs.Laws.{lane_made, lane_fits, step_small}
use Rattle.line_lanes.proofs.lane_by.Goals as goal

pub returns : goal.returns
returns c = (
  lane_made _ _ _ _ _ _ _ _ _ _ _ _ _
      c.left_of-from.ensures.0
      c.wide16-width.ensures.0
      c.read_of-each.ensures.0
      c.area_end.ensures
      c.factor_of.ensures
      c.first_of.ensures.0
      c.top_of.ensures.0
      c.bottom_of.ensures.0
      c.sample_octets.ensures.0,
  lane_fits _ _
      c.requires.0
      c.requires.1
      c.factor_of.ensures
      c.top_of.ensures.0
      c.bottom_of.ensures.1
      c.first_of.ensures.1
      (step_small _ _ _ c.wide16-width.ensures.1 c.read_of-each.ensures.1 c.sample_octets.ensures.0),
)
