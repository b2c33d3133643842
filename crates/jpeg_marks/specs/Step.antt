-- A turn of the walk as code hands it on: where it goes on, with the marker that is due there, so that no run is walked twice.
--
--   Step                     one marker on, or the walk's answer
--   Answered s main turn w   the walk after a turn has its answer at once
--   Leads s main r turn      a step is that turn, and the marker that is due there; or the answer that it comes to
use Rattle.std.specs.Prelude.{ℕ, List, ◌≡◌, Result}
use Rattle.jpeg_rules.specs.declared.Marker.TheVariants.{Code}
use Rattle.jpeg_rules.specs.Walk.{Turn, turn_of}
use Rattle.jpeg_rules.specs.declared.Fault.{Fault}
use Rattle.jpeg_rules.specs.declared.Said.{Said}
use Rattle.jpeg_rules.specs.Marker.{marker_of}
use Rattle.std.specs.declared.ops.ControlFlow.{ControlFlow}
use Rattle.std.specs.declared.ops.ControlFlow.TheVariants.{Continue, Break}
use Rattle.jpeg_marks.specs.declared.Due.{Due}

-- one marker on, with the marker that is due there, or the walk's answer
abbrev pub Step : Type 0
Step = ControlFlow (Result (ℕ × Said) Fault) Due

-- by the turn itself, or where no marker stands after it
unfoldable pub Answered : List ℕ → ℕ → Turn → Result (ℕ × Said) Fault → Type 0
Answered s main (Break v) w = v ≡ w
Answered s main (Continue t) w = turn_of s main t ≡ Break w

unfoldable pub Leads : List ℕ → ℕ → Step → Turn → Type 0
unfolding Answered
Leads s main (Continue d) turn = (turn ≡ Continue d.st) × (marker_of s d.st.at ≡ Code d.code d.next)
Leads s main (Break w) turn = Answered s main turn w
