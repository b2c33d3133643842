-- The walk over a JPEG layer's markers, from its first octet to the end of its FF D9 (01, "Where an image layer ends"; 02, 2026-03).
--
--   Turn                 one marker on, or the walk's answer: where the layer ends and what it says of itself, or why there is none
--   seg_of s n least     the segment whose length stands at n
--   scan_of s i          the next marker after scan data, at the first FF of its run
--   frame_of, scan_step_of, segment_of   a marker of each kind, its code after which n stands
--   turn_of s main st    one marker
--   walk_of s start main the walk
--
-- Within a marker: its own rule, then the length's least value, then a body that passes the end, then the body.
use Rattle.std.specs.Prelude.{ℕ, zero, suc, ◌+◌, ◌-◌, Bool, true, false, ◌&&◌, ◌||◌, cond, List, [], ◌∷◌, length, get_or, drop, ltb, leb, eqb, Option, Some, None, Result, Ok, Err}
use Rattle.octets.specs.Octets.{be16_at, stands_at}
use Rattle.sheet_rules.specs.Judge.{listed, divides}
use Rattle.jpeg_rules.specs.declared.Class.{Class}
use Rattle.jpeg_rules.specs.declared.Class.TheVariants.{Alone, Frame, Scan, End, Wrong, Segment}
use Rattle.jpeg_rules.specs.declared.Marker.{Marker}
use Rattle.jpeg_rules.specs.declared.Marker.TheVariants.{Code, Missing, Cut}
use Rattle.jpeg_rules.specs.declared.Fault.{Fault}
use Rattle.jpeg_rules.specs.declared.Fault.TheVariants.{Short, BadLength, BadRes, BadLayer}
use Rattle.jpeg_rules.specs.declared.Said.{Said}
use Rattle.jpeg_rules.specs.declared.Reach.{Reach}
use Rattle.std.specs.declared.ops.ControlFlow.{ControlFlow}
use Rattle.std.specs.declared.ops.ControlFlow.TheVariants.{Continue, Break}
use Rattle.jpeg_rules.specs.Marker.{class_of, marker_of}
use Rattle.laws.specs.Tests.{within}
use Rattle.jpeg_rules.specs.Grammar.{g3fax}

-- one marker on, or the walk's answer
abbrev pub Turn : Type 0
Turn = ControlFlow (Result (ℕ × Said) Fault) Reach

-- ---- parts

-- Short where the length does not fit, BadLength where it is below the least, Short at the body's first octet where the body passes the end
unfoldable pub seg_of : List ℕ → ℕ → ℕ → Result ℕ Fault
seg_of s n least =
    cond (ltb (length s) (n + 2)) (Err (Short n))
    (cond (ltb (be16_at s n) least) (Err (BadLength n))
    (cond (ltb (length s) (n + be16_at s n)) (Err (Short (n + 2)))
    (Ok (n + be16_at s n))))

-- a run of so many FF and its code are scan data: FF 00, and any run before D0 to D7
unfoldable pub data_run : ℕ → ℕ → Bool
data_run run c = eqb c 0x00 && eqb run 1 || within 0xD0 0xD7 c

-- octets from i on, before which a run of so many FF stands: scan data ends at the first FF of a run that is no data
unfoldable pub scan_from : List ℕ → ℕ → ℕ → Option ℕ
unfolding data_run
scan_from [] run i = None
scan_from (x ∷ l) run i =
    cond (eqb x 0xFF) (scan_from l (run + 1) (i + 1))
    (cond (eqb run 0 || data_run run x) (scan_from l 0 (i + 1)) (Some (i - run)))

-- the first from i on
unfoldable pub scan_of : List ℕ → ℕ → Option ℕ
unfolding scan_from
scan_of s i = scan_from (drop i s) 0 i

-- listed, and a divisor of the main one
abbrev pub resolves : ℕ → ℕ → Bool
resolves main r = listed r && divides r main

-- the first FF E1 of length 12 or more with the tag gives the resolution
unfoldable pub tag_of : List ℕ → Reach → ℕ → ℕ → Option ℕ
tag_of s st c n =
    cond (eqb c 0xE1 && eqb st.said.res 0 && leb 12 (be16_at s n) && stands_at s (n + 2) g3fax) (Some (be16_at s (n + 10))) None

-- ---- what is known after a frame, a scan and another marker

-- with another resolution
abbrev pub with_res : Said → ℕ → Said
with_res said res = record { width = said.width; height = said.height; res = res; components = said.components }

abbrev pub framed : Reach → ℕ → Said → Reach
framed st at said = record { at = at; framed = true; scanned = st.scanned; said = said }

abbrev pub passed : Reach → ℕ → Reach
passed st at = record { at = at; framed = true; scanned = true; said = st.said }

abbrev pub moved : Reach → ℕ → ℕ → Reach
moved st at res = record { at = at; framed = st.framed; scanned = st.scanned; said = with_res st.said res }

-- ---- one marker

abbrev pub refused : Fault → Turn
refused f = Break (Err f)

abbrev pub on_body : Result ℕ Fault → (ℕ → Turn) → Turn
on_body (Ok next) go = go next
on_body (Err f) go = refused f

abbrev pub on_found : Option ℕ → ℕ → (ℕ → Turn) → Turn
on_found (Some p) from go = go p
on_found None from go = refused (Short from)

abbrev pub on_tag : Option ℕ → Turn → (ℕ → Turn) → Turn
on_tag None plain go = plain
on_tag (Some r) plain go = go r

-- what a frame's body says, beside the resolution that is known
abbrev pub frame_said : List ℕ → Reach → ℕ → Said
frame_said s st n = record { width = be16_at s (n + 5); height = be16_at s (n + 3); res = st.said.res; components = get_or s (n + 7) 0 }

-- one component or three
abbrev pub components_ok : ℕ → Bool
components_ok c = eqb c 1 || eqb c 3

-- a frame's body: height before width, neither 0, and then the count of components
unfoldable pub frame_body_of : List ℕ → Reach → ℕ → ℕ → Turn
frame_body_of s st n next =
    cond (eqb (be16_at s (n + 3)) 0) (refused (BadLayer (n + 3)))
    (cond (eqb (be16_at s (n + 5)) 0) (refused (BadLayer (n + 5)))
    (cond (components_ok (get_or s (n + 7) 0)) (Continue (framed st next (frame_said s st n))) (refused (BadLayer (n + 7)))))

-- the frame: the first, after the resolution, and at least 8 long
unfoldable pub frame_of : List ℕ → Reach → ℕ → Turn
frame_of s st n =
    cond st.framed (refused (BadLayer st.at))
    (cond (eqb st.said.res 0) (refused (BadLayer st.at))
    (on_body (seg_of s n 8) (λ (next : ℕ). frame_body_of s st n next)))

-- a scan: after the frame; the next marker stands after its header and its data
unfoldable pub scan_step_of : List ℕ → Reach → ℕ → Turn
scan_step_of s st n =
    cond st.framed
    (on_body (seg_of s n 2) (λ (next : ℕ). on_found (scan_of s next) next (λ (p : ℕ). Continue (passed st p))))
    (refused (BadLayer st.at))

-- a segment with a length is skipped, but for the resolution that it may give, which is judged where it stands
unfoldable pub segment_of : List ℕ → ℕ → Reach → ℕ → ℕ → Turn
segment_of s main st c n =
    on_body (seg_of s n 2) (λ (next : ℕ).
    on_tag (tag_of s st c n) (Continue (moved st next st.said.res)) (λ (r : ℕ).
    cond (resolves main r) (Continue (moved st next r)) (refused (BadRes (n + 10)))))

-- the end: at least one scan came before
unfoldable pub end_of : Reach → ℕ → Turn
end_of st n = cond st.scanned (Break (Ok (n, st.said))) (refused (BadLayer st.at))

unfoldable pub mark_of : List ℕ → ℕ → Reach → ℕ → ℕ → Class → Turn
unfolding frame_of scan_step_of segment_of end_of
mark_of s main st c n Alone = Continue (moved st n st.said.res)
mark_of s main st c n Frame = frame_of s st n
mark_of s main st c n Scan = scan_step_of s st n
mark_of s main st c n End = end_of st n
mark_of s main st c n Wrong = refused (BadLayer st.at)
mark_of s main st c n Segment = segment_of s main st c n

abbrev pub on_marker : Marker → ℕ → (ℕ → ℕ → Turn) → Turn
on_marker (Code c n) at go = go c n
on_marker Missing at go = refused (BadLayer at)
on_marker Cut at go = refused (Short at)

unfoldable pub turn_of : List ℕ → ℕ → Reach → Turn
unfolding mark_of
turn_of s main st = on_marker (marker_of s st.at) st.at (λ (c n : ℕ). mark_of s main st c n (class_of c))

-- ---- the walk

abbrev pub on_turn : Turn → (Reach → Result (ℕ × Said) Fault) → Result (ℕ × Said) Fault
on_turn (Continue st) go = go st
on_turn (Break w) go = w

-- at most so many markers; each takes two octets or more, so that the length of the list is enough
unfoldable pub walk_from : ℕ → List ℕ → ℕ → Reach → Result (ℕ × Said) Fault
unfolding turn_of
walk_from zero s main st = Err (Short st.at)
walk_from (suc fuel) s main st = on_turn (turn_of s main st) (λ (t : Reach). walk_from fuel s main t)

abbrev pub begun : ℕ → Reach
begun at = record { at = at; framed = false; scanned = false; said = record { width = 0; height = 0; res = 0; components = 0 } }

-- FF D8, then the markers
unfoldable pub walk_of : List ℕ → ℕ → ℕ → Result (ℕ × Said) Fault
unfolding walk_from
walk_of s start main =
    cond (ltb (length s) (start + 2)) (Err (Short start))
    (cond (eqb (get_or s start 0) 0xFF && eqb (get_or s (start + 1) 0) 0xD8)
    (walk_from (length s) s main (begun (start + 2)))
    (Err (BadLayer start)))
