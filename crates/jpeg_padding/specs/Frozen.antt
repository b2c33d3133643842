-- The walk over a JPEG layer as it was before padded markers (02, 2026-03): exactly one FF before each code. Frozen under its own names, for those whose
-- pages it took; `conservative` (proofs/Theorems.antt) says that the walk of today ends wherever this one did, with the same answer. It stays as it is when
-- the walk of today changes: every rule of it is copied. What both share are the declared types, the numbers and strings of octets, and the sheet's tests of a
-- resolution.
--
-- It took a frame of any number of components (`any_count`). The count is kept here as it stands, and `taken` tells which counts are taken, so that the rule of
-- 2026-07, which only the walk of today has, can be put in at its place and nothing else.
--
--   frozen_class_of c         what a code makes of a marker
--   frozen_marker_of s at     what stands at a place where a marker is due: exactly one FF and a code
--   frozen_seg_of s n least   the segment whose length stands at n
--   frozen_stops_of a b       two octets at which scan data ends: FF and a code other than 00 and D0 to D7
--   frozen_scan_of s i        the next marker after scan data
--   frozen_frame_of, frozen_scan_step_of, frozen_segment_of   a marker of each kind, its code after which n stands
--   frozen_turn_of taken s main st  one marker
--   frozen_walk_of taken s start main   the walk
--
-- Within a marker: its own rule, then the length's least value, then a body that passes the end, then the body.
use Rattle.std.specs.Prelude.{ℕ, zero, suc, ◌+◌, ◌-◌, Bool, true, false, ◌&&◌, ◌||◌, not, cond, List, [], ◌∷◌, length, get_or, ltb, leb, eqb, Option, Some, None, Result, Ok, Err}
use Rattle.laws.specs.Tests.{within, among}
use Rattle.octets.specs.Octets.{be16_at, stands_at}
use Rattle.sheet_rules.specs.Judge.{listed, divides}
use Rattle.jpeg_rules.specs.declared.Class.{Class}
use Rattle.jpeg_rules.specs.declared.Class.TheVariants.{Alone, Frame, Scan, End, Wrong, Segment}
use Rattle.jpeg_rules.specs.declared.Marker.{Marker}
use Rattle.jpeg_rules.specs.declared.Marker.TheVariants.{Code, Missing, Cut}
use Rattle.jpeg_rules.specs.declared.Fault.{Fault}
use Rattle.jpeg_rules.specs.declared.Fault.TheVariants.{Short, BadLength, BadRes, BadLayer}
use Rattle.jpeg_rules.specs.declared.Said.{Said}
use Rattle.jpeg_rules.specs.declared.Reach.{Reach}
use Rattle.jpeg_rules.specs.Walk.{Turn}
use Rattle.std.specs.declared.ops.ControlFlow.TheVariants.{Continue, Break}

-- ---- a marker

-- 01 stands alone; C0 to CF except C4, C8, CC is the frame; DA starts a scan; D9 ends; D0 to D7 and a second D8, 00, FF and 02 to BF are
-- faults; the rest carry a length
unfoldable pub frozen_class_of : ℕ → Class
unfolding among
frozen_class_of c =
    cond (eqb c 0x01) Alone
    (cond (among (0xC4 ∷ 0xC8 ∷ 0xCC ∷ []) c) Segment
    (cond (within 0xC0 0xCF c) Frame
    (cond (eqb c 0xDA) Scan
    (cond (eqb c 0xD9) End
    (cond (among (0x00 ∷ 0xFF ∷ []) c) Wrong
    (cond (leb c 0xBF) Wrong
    (cond (within 0xD0 0xD8 c) Wrong
    Segment)))))))

unfoldable pub frozen_marker_of : List ℕ → ℕ → Marker
frozen_marker_of s at =
    cond (ltb (length s) (at + 2)) Cut
    (cond (eqb (get_or s at 0) 0xFF) (Code (get_or s (at + 1) 0) (at + 2)) Missing)

-- ---- parts

-- 47 33 46 41 58 00
abbrev pub frozen_g3fax : List ℕ
frozen_g3fax = 0x47 ∷ 0x33 ∷ 0x46 ∷ 0x41 ∷ 0x58 ∷ 0x00 ∷ []

-- Short where the length does not fit, BadLength where it is below the least, Short at the body's first octet where the body passes the end
unfoldable pub frozen_seg_of : List ℕ → ℕ → ℕ → Result ℕ Fault
frozen_seg_of s n least =
    cond (ltb (length s) (n + 2)) (Err (Short n))
    (cond (ltb (be16_at s n) least) (Err (BadLength n))
    (cond (ltb (length s) (n + be16_at s n)) (Err (Short (n + 2)))
    (Ok (n + be16_at s n))))

-- FF and a code other than 00 and D0 to D7 end scan data
unfoldable pub frozen_stops_of : ℕ → ℕ → Bool
frozen_stops_of a b = eqb a 0xFF && not (eqb b 0x00 || within 0xD0 0xD7 b)

-- the first of n places from i on at which scan data ends
unfoldable pub frozen_scan_from : ℕ → List ℕ → ℕ → Option ℕ
unfolding frozen_stops_of
frozen_scan_from zero s i = None
frozen_scan_from (suc n) s i = cond (frozen_stops_of (get_or s i 0) (get_or s (i + 1) 0)) (Some i) (frozen_scan_from n s (i + 1))

-- the first from i on that has an octet after it
unfoldable pub frozen_scan_of : List ℕ → ℕ → Option ℕ
unfolding frozen_scan_from
frozen_scan_of s i = frozen_scan_from (length s - (i + 1)) s i

-- listed, and a divisor of the main one
abbrev pub frozen_resolves : ℕ → ℕ → Bool
frozen_resolves main r = listed r && divides r main

-- the first FF E1 of length 12 or more with the tag gives the resolution
unfoldable pub frozen_tag_of : List ℕ → Reach → ℕ → ℕ → Option ℕ
frozen_tag_of s st c n =
    cond (eqb c 0xE1 && eqb st.said.res 0 && leb 12 (be16_at s n) && stands_at s (n + 2) frozen_g3fax) (Some (be16_at s (n + 10))) None

-- ---- what is known after a frame, a scan and another marker

abbrev pub frozen_framed : Reach → ℕ → ℕ → ℕ → ℕ → Reach
frozen_framed st at width height count =
    record { at = at; framed = true; scanned = st.scanned; said = record { width = width; height = height; res = st.said.res; components = count } }

abbrev pub frozen_passed : Reach → ℕ → Reach
frozen_passed st at =
    record { at = at; framed = true; scanned = true; said = st.said }

abbrev pub frozen_moved : Reach → ℕ → ℕ → Reach
frozen_moved st at res =
    record {
      at = at;
      framed = st.framed;
      scanned = st.scanned;
      said = record { width = st.said.width; height = st.said.height; res = res; components = st.said.components };
    }

-- ---- one marker

abbrev pub frozen_refused : Fault → Turn
frozen_refused f = Break (Err f)

abbrev pub frozen_on_body : Result ℕ Fault → (ℕ → Turn) → Turn
frozen_on_body (Ok next) go = go next
frozen_on_body (Err f) go = frozen_refused f

abbrev pub frozen_on_found : Option ℕ → ℕ → (ℕ → Turn) → Turn
frozen_on_found (Some p) from go = go p
frozen_on_found None from go = frozen_refused (Short from)

abbrev pub frozen_on_tag : Option ℕ → Turn → (ℕ → Turn) → Turn
frozen_on_tag None plain go = plain
frozen_on_tag (Some r) plain go = go r

-- the counts that were taken
abbrev pub any_count : ℕ → Bool
any_count c = true

-- a frame's body: height before width, neither 0, and the count of components
unfoldable pub frozen_frame_body_of : (ℕ → Bool) → List ℕ → Reach → ℕ → ℕ → Turn
frozen_frame_body_of taken s st n next =
    cond (eqb (be16_at s (n + 3)) 0) (frozen_refused (BadLayer (n + 3)))
    (cond (eqb (be16_at s (n + 5)) 0) (frozen_refused (BadLayer (n + 5)))
    (cond (taken (get_or s (n + 7) 0)) (Continue (frozen_framed st next (be16_at s (n + 5)) (be16_at s (n + 3)) (get_or s (n + 7) 0)))
    (frozen_refused (BadLayer (n + 7)))))

-- the frame: the first, after the resolution, and at least 8 long
unfoldable pub frozen_frame_of : (ℕ → Bool) → List ℕ → Reach → ℕ → Turn
frozen_frame_of taken s st n =
    cond st.framed (frozen_refused (BadLayer st.at))
    (cond (eqb st.said.res 0) (frozen_refused (BadLayer st.at))
    (frozen_on_body (frozen_seg_of s n 8) (λ (next : ℕ). frozen_frame_body_of taken s st n next)))

-- a scan: after the frame; the next marker stands after its header and its data
unfoldable pub frozen_scan_step_of : List ℕ → Reach → ℕ → Turn
frozen_scan_step_of s st n =
    cond st.framed
    (frozen_on_body (frozen_seg_of s n 2) (λ (next : ℕ). frozen_on_found (frozen_scan_of s next) next (λ (p : ℕ). Continue (frozen_passed st p))))
    (frozen_refused (BadLayer st.at))

-- a segment with a length is skipped, but for the resolution that it may give, which is judged where it stands
unfoldable pub frozen_segment_of : List ℕ → ℕ → Reach → ℕ → ℕ → Turn
frozen_segment_of s main st c n =
    frozen_on_body (frozen_seg_of s n 2) (λ (next : ℕ).
    frozen_on_tag (frozen_tag_of s st c n) (Continue (frozen_moved st next st.said.res)) (λ (r : ℕ).
    cond (frozen_resolves main r) (Continue (frozen_moved st next r)) (frozen_refused (BadRes (n + 10)))))

-- the end: at least one scan came before
unfoldable pub frozen_end_of : Reach → ℕ → Turn
frozen_end_of st n = cond st.scanned (Break (Ok (n, st.said))) (frozen_refused (BadLayer st.at))

unfoldable pub frozen_mark_of : (ℕ → Bool) → List ℕ → ℕ → Reach → ℕ → ℕ → Class → Turn
unfolding frozen_frame_of frozen_scan_step_of frozen_segment_of frozen_end_of
frozen_mark_of taken s main st c n Alone = Continue (frozen_moved st n st.said.res)
frozen_mark_of taken s main st c n Frame = frozen_frame_of taken s st n
frozen_mark_of taken s main st c n Scan = frozen_scan_step_of s st n
frozen_mark_of taken s main st c n End = frozen_end_of st n
frozen_mark_of taken s main st c n Wrong = frozen_refused (BadLayer st.at)
frozen_mark_of taken s main st c n Segment = frozen_segment_of s main st c n

abbrev pub frozen_on_marker : Marker → ℕ → (ℕ → ℕ → Turn) → Turn
frozen_on_marker (Code c n) at go = go c n
frozen_on_marker Missing at go = frozen_refused (BadLayer at)
frozen_on_marker Cut at go = frozen_refused (Short at)

unfoldable pub frozen_turn_of : (ℕ → Bool) → List ℕ → ℕ → Reach → Turn
unfolding frozen_mark_of
frozen_turn_of taken s main st = frozen_on_marker (frozen_marker_of s st.at) st.at (λ (c n : ℕ). frozen_mark_of taken s main st c n (frozen_class_of c))

-- ---- the walk

abbrev pub frozen_on_turn : Turn → (Reach → Result (ℕ × Said) Fault) → Result (ℕ × Said) Fault
frozen_on_turn (Continue st) go = go st
frozen_on_turn (Break w) go = w

-- at most so many markers; each takes two octets or more, so that the length of the list is enough
unfoldable pub frozen_walk_from : (ℕ → Bool) → ℕ → List ℕ → ℕ → Reach → Result (ℕ × Said) Fault
unfolding frozen_turn_of
frozen_walk_from taken zero s main st = Err (Short st.at)
frozen_walk_from taken (suc fuel) s main st = frozen_on_turn (frozen_turn_of taken s main st) (λ (t : Reach). frozen_walk_from taken fuel s main t)

abbrev pub frozen_begun : ℕ → Reach
frozen_begun at = record { at = at; framed = false; scanned = false; said = record { width = 0; height = 0; res = 0; components = 0 } }

-- FF D8, then the markers
unfoldable pub frozen_walk_of : (ℕ → Bool) → List ℕ → ℕ → ℕ → Result (ℕ × Said) Fault
unfolding frozen_walk_from
frozen_walk_of taken s start main =
    cond (ltb (length s) (start + 2)) (Err (Short start))
    (cond (eqb (get_or s start 0) 0xFF && eqb (get_or s (start + 1) 0) 0xD8)
    (frozen_walk_from taken (length s) s main (frozen_begun (start + 2)))
    (Err (BadLayer start)))
