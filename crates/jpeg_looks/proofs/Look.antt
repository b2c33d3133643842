-- How far the walk over a JPEG layer looked, to be read beside specs/Walk.antt. A refusal other than Short is decided by the octets up to there; inside
-- a body by the octets up to the body's end, since a body that passes the end is Short, unjudged (01, "Numbers that a call returns").
--
--   body_look g n go         a segment whose length stands at n: to the end of the length where that is at fault, else what `go` says of the body
--   mark_look s st n c       a marker of a class, after which n stands
--   turn_look s st           one marker, with its length and its body
--   marker_look, mark_end     what stands where a marker is due: to the end of its code, past its fill
--   walk_look s start main   the walk: as far as its last marker
--   fill_at s p              how many octets FF stand from a place on
--   walk_beyond s f          at most so many octets from a refusal's place on were looked at
--
-- Where the walk is Short, that depends on the end of the list as well, and these say nothing.
use Prim.Native.Nat.{ℕ, zero, suc, ◌+◌, ◌-◌}
use mathlib.Core.Bool.{◌&&◌, cond}
use mathlib.Core.List.{List}
use lib.ListN.{length, get_or}
use lib.Dec.{eqb}
use Rattle.jpeg_rules.specs.declared.Class.{Class}
use Rattle.jpeg_rules.specs.declared.Class.TheVariants.{Alone, Frame, Scan, End, Wrong, Segment}
use Rattle.jpeg_rules.specs.declared.Marker.{Marker}
use Rattle.jpeg_rules.specs.declared.Marker.TheVariants.{Code, Missing, Cut}
use Rattle.jpeg_rules.specs.declared.Fault.{Fault}
use Rattle.jpeg_rules.specs.declared.Fault.TheVariants.{Short, BadLength, BadRes, BadLayer}
use Rattle.std.specs.Prelude.{Option, Some, None, Result, Ok, Err}
use Rattle.jpeg_rules.specs.declared.Reach.{Reach}
use Rattle.jpeg_rules.specs.Walk.{Turn, seg_of, scan_of, turn_of, begun}
use Rattle.std.specs.declared.ops.ControlFlow.TheVariants.{Continue, Break}
use Rattle.jpeg_rules.specs.Marker.{class_of, marker_of}
use Rattle.jpeg_rules.proofs.Runs.{fill_end}

abbrev pub body_look : Result ℕ Fault → ℕ → (ℕ → ℕ) → ℕ
body_look (Ok next) n go = go next
body_look (Err f) n go = n + 2

-- to the end of the body
abbrev pub whole : ℕ → ℕ
whole next = next

abbrev pub marker_look : Marker → ℕ → (ℕ → ℕ → ℕ) → ℕ
marker_look (Code c n) at go = go c n
marker_look Missing at go = at + 2
marker_look Cut at go = at

-- to the end of the marker
unfoldable pub mark_end : List ℕ → ℕ → ℕ
mark_end s at = marker_look (marker_of s at) at (λ (c n : ℕ). n)

-- scan data is looked through up to the end of the next marker
abbrev pub found_look : List ℕ → Option ℕ → ℕ → ℕ
found_look s (Some p) from = mark_end s p
found_look s None from = from

-- a marker that may not stand there is decided by its own octets, whatever follows
unfoldable pub mark_look : List ℕ → Reach → ℕ → Class → ℕ
mark_look s st n Alone = n
mark_look s st n Frame = cond st.framed n (cond (eqb st.said.res 0) n (body_look (seg_of s n 8) n whole))
mark_look s st n Scan = cond st.framed (body_look (seg_of s n 2) n (λ (next : ℕ). found_look s (scan_of s next) next)) n
mark_look s st n End = n
mark_look s st n Wrong = n
mark_look s st n Segment = body_look (seg_of s n 2) n whole

unfoldable pub turn_look : List ℕ → Reach → ℕ
unfolding mark_look
turn_look s st = marker_look (marker_of s st.at) st.at (λ (c n : ℕ). mark_look s st n (class_of c))

-- ---- the walk

abbrev pub onward_look : Turn → ℕ → (Reach → ℕ) → ℕ
onward_look (Continue t) looked next = next t
onward_look (Break w) looked next = looked

unfoldable pub walk_look_from : ℕ → List ℕ → ℕ → Reach → ℕ
unfolding turn_look
walk_look_from zero s main st = st.at
walk_look_from (suc fuel) s main st = onward_look (turn_of s main st) (turn_look s st) (λ (t : Reach). walk_look_from fuel s main t)

unfoldable pub walk_look : List ℕ → ℕ → ℕ → ℕ
unfolding walk_look_from
walk_look s start main =
    cond (eqb (get_or s start 0) 0xFF && eqb (get_or s (start + 1) 0) 0xD8) (walk_look_from (length s) s main (begun (start + 2))) (start + 2)

-- octets FF from a place on, which may be fill
abbrev pub fill_at : List ℕ → ℕ → ℕ
fill_at s p = fill_end s p - p

-- a length has two octets; a body ends at most 65,535 octets after its length's first, where a resolution stands 10 and a frame's height 3
-- octets after that; a marker ends with its code, after its fill
unfoldable pub walk_beyond : List ℕ → Fault → ℕ
walk_beyond s (Short p) = 0
walk_beyond s (BadLength p) = 2
walk_beyond s (BadRes p) = 65525
walk_beyond s (BadLayer p) = fill_at s p + 65532
