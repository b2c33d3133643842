use Rattle.line_pixel.proofs.Shows.{showing, first_shows, next_shows, show_begins, show_more}
use Rattle.line_pixel.proofs.pixel.Goals as goal

pub candidate_from-c-requires : goal.candidate_from-c-requires
candidate_from-c-requires c = search showing

pub image_of-cur-requires : goal.image_of-cur-requires
image_of-cur-requires c = (
  c.requires.0,
  first_shows _ _ _ _ _ c.candidate_from-c.ensures,
  c.requires.1,
)

pub loop-c-init : goal.loop-c-init
loop-c-init c = show_begins _ _ _ _ _ _ _ c.candidate_from-c.ensures c.image_of-cur.ensures

pub is_known-requires : goal.is_known-requires
is_known-requires c = search showing

pub overflow_sub-c : goal.overflow_sub-c
overflow_sub-c c = search showing

pub candidate_from-c-requires-in-loop-c : goal.candidate_from-c-requires-in-loop-c
candidate_from-c-requires-in-loop-c c = search showing

pub image_of-up-requires : goal.image_of-up-requires
image_of-up-requires c = (
  c.requires.0,
  next_shows _ _ _ _ _ _ _ _ _ c.loop-c.invariant c.loop-c-test.true c.candidate_from-c-in-loop-c.ensures,
  c.requires.1,
)

pub agreed-cur-requires : goal.agreed-cur-requires
agreed-cur-requires c = search showing

pub loop-c-smaller : goal.loop-c-smaller
loop-c-smaller c = search showing

pub loop-c-preserved : goal.loop-c-preserved
loop-c-preserved c = show_more _ _ _ _ _ _ _ _ _ _ _
    c.loop-c.invariant
    c.loop-c-test.true
    c.candidate_from-c-in-loop-c.ensures
    c.image_of-up.ensures
    c.agreed-cur.ensures

pub returns : goal.returns
returns c = search showing
