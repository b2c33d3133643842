-- A turn that goes on or ends is two octets further at least, and within the list, and so is a walk: laws of the definitions alone.
-- Assumes nothing.
use Prim.Native.Nat.{ℕ, zero, suc, ◌+◌, ◌≤◌, ◌<◌}
use mathlib.Core.Bool.{◌&&◌, cond}
use mathlib.Core.List.{List}
use mathlib.Core.Path.{◌≡◌, refl, sym, ◌∙◌}
use native.Mathlib.Omega.{arith}
use lib.ListN.{length, get_or}
use lib.Dec.{ltb, eqb}
use Rattle.laws.proofs.Cases.{cond_with}
use Rattle.octets.specs.Octets.{be16_at}
use Rattle.jpeg_rules.specs.declared.Class.{Class}
use Rattle.jpeg_rules.specs.declared.Class.TheVariants.{Alone, Frame, Scan, End, Wrong, Segment}
use Rattle.jpeg_rules.specs.declared.Fault.TheVariants.{BadRes}
use Rattle.std.specs.Prelude.{Option, Some, None, Result, Ok, Err}
use Rattle.jpeg_rules.specs.declared.Fault.{Fault}
use Rattle.jpeg_rules.specs.declared.Said.{Said}
use Rattle.jpeg_rules.specs.declared.Marker.{Marker}
use Rattle.jpeg_rules.specs.declared.Marker.TheVariants.{Code, Missing, Cut}
use Rattle.jpeg_rules.specs.declared.Reach.{Reach}
use Rattle.jpeg_rules.specs.Walk.{Turn, seg_of, scan_of, resolves, tag_of, passed, moved, refused, on_body, on_found, on_tag, on_marker, components_ok, frame_body_of, frame_of, scan_step_of, segment_of, end_of, mark_of, turn_of, on_turn, walk_from, begun, walk_of}
use Rattle.std.specs.declared.ops.ControlFlow.TheVariants.{Continue, Break}
use Rattle.jpeg_rules.specs.Marker.{class_of, marker_of}
use Rattle.jpeg_rules.proofs.Runs.{marker_back}
use Rattle.jpeg_rules.proofs.Scans.{scan_back}
use Rattle.jpeg_segment.specs.Room.{Room}
use Rattle.jpeg_segment.proofs.Whole.{Roomy, roomy}

-- ---- a marker

abbrev Marked : List ℕ → ℕ → Marker → Type 0
Marked s at (Code c n) = (at + 2 ≤ n) × (n ≤ length s)
Marked s at Missing = Unit {0}
Marked s at Cut = Unit {0}

marked : (s : List ℕ) (at : ℕ) → Marked s at (marker_of s at)
marked s at = by (marker_of s at) refl
  where
    by : (x : Marker) → marker_of s at ≡ x → Marked s at x
    by (Code c n) e = let k = marker_back s at c n e in let a = k.ends in (omega arith, k.inside)
    by Missing e = tt
    by Cut e = tt

pub behind : (s : List ℕ) (at c n : ℕ) {m : Marker} → m ≡ marker_of s at → m ≡ Code c n → n ≤ length s
behind s at c n e b = let h = rw (sym e ∙ b) at (marked s at) in h.1

-- ---- scan data

abbrev Past : List ℕ → ℕ → Option ℕ → Type 0
Past s i None = Unit {0}
Past s i (Some p) = (i ≤ p) × (p < length s)

past_scan : (s : List ℕ) (i : ℕ) → Past s i (scan_of s i)
past_scan s i = by (scan_of s i) refl
  where
    by : (x : Option ℕ) → scan_of s i ≡ x → Past s i x
    by None e = tt
    by (Some p) e =
        let k = scan_back s i p e in
        let a = k.marked.ends in
        let b = k.marked.inside in
        (k.after, omega arith)

-- ---- one marker

abbrev pub Ahead : List ℕ → Reach → Turn → Type 0
Ahead s st (Continue t) = (st.at + 2 ≤ t.at) × (t.at ≤ length s)
Ahead s st (Break (Ok (e, said))) = (st.at + 2 ≤ e) × (e ≤ length s)
Ahead s st (Break (Err f)) = Unit {0}

ahead_body : (s : List ℕ) (st : Reach) (n least : ℕ) (g : Result ℕ Fault) (f : ℕ → Turn)
    → Roomy s n least g → ((next : ℕ) → Room s n least next → Ahead s st (f next)) → Ahead s st (on_body g f)
ahead_body s st n least (Ok next) f r h = h next r
ahead_body s st n least (Err x) f r h = tt

ahead_found : (s : List ℕ) (st : Reach) (from : ℕ) (g : Option ℕ)
    → st.at + 2 ≤ from → Past s from g → Ahead s st (on_found g from (λ (p : ℕ). Continue (passed st p)))
ahead_found s st from (Some p) l h = omega arith
ahead_found s st from None l h = tt

module _ (s : List ℕ) (st : Reach) (n : ℕ) (l : st.at + 2 ≤ n) (m : n ≤ length s) where
  ahead_frame : Ahead s st (frame_of s st n)
  unfolding frame_of frame_body_of
  ahead_frame =
      cond_with (Ahead s st) st.framed (λ _. tt) λ _.
      cond_with (Ahead s st) (eqb st.said.res 0) (λ _. tt) λ _.
      ahead_body s st n 8 (seg_of s n 8) (λ (next : ℕ). frame_body_of s st n next) (roomy s n 8) λ next r.
      cond_with (Ahead s st) (eqb (be16_at s (n + 3)) 0) (λ _. tt) λ _.
      cond_with (Ahead s st) (eqb (be16_at s (n + 5)) 0) (λ _. tt) λ _.
      cond_with (Ahead s st) (components_ok (get_or s (n + 7) 0)) (λ _. omega (arith, l)) (λ _. tt)

  ahead_scan : Ahead s st (scan_step_of s st n)
  unfolding scan_step_of
  ahead_scan =
      cond_with (Ahead s st) st.framed
      (λ _.
      ahead_body s st n 2 (seg_of s n 2) _ (roomy s n 2) λ next r. ahead_found s st next (scan_of s next) (omega (arith, l)) (past_scan s next))
      (λ _. tt)

  ahead_tag : (main next : ℕ) (t : Option ℕ) → Room s n 2 next
      → Ahead s st (on_tag t (Continue (moved st next st.said.res)) (λ (r : ℕ). cond (resolves main r) (Continue (moved st next r)) (refused (BadRes (n + 10)))))
  ahead_tag main next None r = omega (arith, l)
  ahead_tag main next (Some x) r = cond_with (Ahead s st) (resolves main x) (λ _. omega (arith, l)) (λ _. tt)

  ahead_segment : (main c : ℕ) → Ahead s st (segment_of s main st c n)
  unfolding segment_of
  ahead_segment main c = ahead_body s st n 2 (seg_of s n 2) _ (roomy s n 2) λ next r. ahead_tag main next (tag_of s st c n) r

  ahead_end : Ahead s st (end_of st n)
  unfolding end_of
  ahead_end = cond_with (Ahead s st) st.scanned (λ _. (l, m)) (λ _. tt)

  ahead_mark : (main c : ℕ) (k : Class) → Ahead s st (mark_of s main st c n k)
  unfolding mark_of
  ahead_mark main c Alone = omega (arith, l, m)
  ahead_mark main c Frame = ahead_frame
  ahead_mark main c Scan = ahead_scan
  ahead_mark main c End = ahead_end
  ahead_mark main c Wrong = tt
  ahead_mark main c Segment = ahead_segment main c

ahead_marker : (s : List ℕ) (main : ℕ) (st : Reach) (m : Marker)
    → Marked s st.at m → Ahead s st (on_marker m st.at (λ (c n : ℕ). mark_of s main st c n (class_of c)))
ahead_marker s main st (Code c n) h = ahead_mark s st n h.0 h.1 main c (class_of c)
ahead_marker s main st Missing h = tt
ahead_marker s main st Cut h = tt

pub ahead : (s : List ℕ) (main : ℕ) (st : Reach) → Ahead s st (turn_of s main st)
unfolding turn_of
ahead s main st = ahead_marker s main st (marker_of s st.at) (marked s st.at)

-- ---- the walk

abbrev pub Reaches : List ℕ → ℕ → Result (ℕ × Said) Fault → Type 0
Reaches s at (Ok (e, said)) = (at ≤ e) × (e ≤ length s)
Reaches s at (Err f) = Unit {0}

further : (s : List ℕ) (i j : ℕ) → i ≤ j → (w : Result (ℕ × Said) Fault) → Reaches s j w → Reaches s i w
further s i j h (Ok (e, said)) k = omega arith
further s i j h (Err f) k = tt

reaches : (k : ℕ) (s : List ℕ) (main : ℕ) (st : Reach) → Reaches s st.at (walk_from k s main st)
unfolding walk_from
reaches zero s main st = tt
reaches (suc k) s main st = by (turn_of s main st) (ahead s main st) (λ u. reaches k s main u)
  where
    by : (t : Turn) → Ahead s st t → ((u : Reach) → Reaches s u.at (walk_from k s main u)) → Reaches s st.at (on_turn t (λ (u : Reach). walk_from k s main u))
    by (Continue t) h more = further s st.at t.at (omega arith) (walk_from k s main t) (more t)
    by (Break (Ok (e, said))) h more = omega arith
    by (Break (Err f)) h more = tt

-- a walk that ends does so within the list, and not before its start
pub walk_inside : (s : List ℕ) (start main : ℕ) → Reaches s start (walk_of s start main)
unfolding walk_of
walk_inside s start main =
    cond_with (Reaches s start) (ltb (length s) (start + 2)) (λ _. tt) λ _.
    cond_with (Reaches s start) (eqb (get_or s start 0) 0xFF && eqb (get_or s (start + 1) 0) 0xD8)
    (λ _. further s start (start + 2) (omega arith) (walk_from (length s) s main (begun (start + 2))) (reaches (length s) s main (begun (start + 2))))
    (λ _. tt)
