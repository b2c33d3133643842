-- A walk that is refused is refused at a place within the list.
-- Assumes nothing.
use Prim.Native.Nat.{ℕ, ◌+◌, ◌≤◌}
use native.Mathlib.Omega.{arith}
use mathlib.Core.Path.{◌≡◌, refl, ap, subst, ◌∙◌}
use mathlib.Core.Bool.{◌&&◌, cond}
use mathlib.Core.List.{List}
use lib.ListN.{length, get_or}
use lib.Dec.{eqb, leb, ltb}
use borrow.Author.Tests.{ltb-false}
use Rattle.octets.specs.Octets.{be16_at, stands_at}
use Rattle.laws.proofs.Cases.{cond_with, clash}
use Rattle.laws.proofs.Says.{says_eq, says_le, says_and, says_true}
use Rattle.jpeg_rules.specs.declared.Class.{Class}
use Rattle.jpeg_rules.specs.declared.Class.TheVariants.{Alone, Frame, Scan, End, Wrong, Segment}
use Rattle.jpeg_rules.specs.declared.Marker.{Marker}
use Rattle.jpeg_rules.specs.declared.Marker.TheVariants.{Code, Missing, Cut}
use Rattle.jpeg_rules.specs.declared.Fault.{Fault}
use Rattle.jpeg_rules.specs.declared.Fault.TheVariants.{Short, BadLength, BadRes, BadLayer}
use Rattle.std.specs.Prelude.{Option, Some, None, Result, Ok, Err}
use Rattle.jpeg_rules.specs.declared.Said.{Said}
use Rattle.jpeg_rules.specs.declared.Reach.{Reach}
use Rattle.jpeg_rules.specs.Walk.{Turn, seg_of, scan_of, resolves, tag_of, passed, moved, refused, on_body, on_found, on_tag, components_ok, frame_body_of, frame_of, scan_step_of, segment_of, end_of, mark_of, on_marker, turn_of, begun, walk_of}
use Rattle.std.specs.declared.ops.ControlFlow.TheVariants.{Continue, Break}
use Rattle.jpeg_rules.specs.Marker.{class_of, marker_of}
use Rattle.jpeg_rules.specs.Grammar.{g3fax}
use Rattle.jpeg_rules.proofs.Runs.{marker_back}
use Rattle.jpeg_rules.proofs.Scans.{scan_back}
use Rattle.jpeg_rules.proofs.Walks.{Walks, stops, goes, walks_from}

unfoldable pub place_of : Fault → ℕ
place_of (Short p) = p
place_of (BadLength p) = p
place_of (BadRes p) = p
place_of (BadLayer p) = p

pub tag_long : (s : List ℕ) (st : Reach) (c n v : ℕ) → tag_of s st c n ≡ Some v → 12 ≤ be16_at s n
unfolding tag_of
tag_long s st c n v =
    cond_with (λ x. x ≡ Some v → 12 ≤ be16_at s n) (eqb c 0xE1 && eqb st.said.res 0 && leb 12 (be16_at s n) && stands_at s (n + 2) g3fax)
    (λ t e. ((says_and (says_and (says_and (says_eq c 0xE1) (says_eq st.said.res 0)) (says_le 12 (be16_at s n))) (says_true (stands_at s (n + 2) g3fax))).told t).0.1)
    (λ t e. clash cc)

module _ (s : List ℕ) (main : ℕ) where
  -- a turn stays within the list, and so does its refusal
  pub Within : Turn → Type 0
  Within (Continue t) = t.at ≤ length s
  Within (Break (Ok (e, said))) = Unit {0}
  Within (Break (Err f)) = place_of f ≤ length s

  module _ (st : Reach) (c n : ℕ) (h : st.at ≤ length s) (b : n ≤ length s) where
    body_within : (least : ℕ) (go : ℕ → Turn) → ((next : ℕ) → n + least ≤ next → next ≤ length s → next ≡ n + be16_at s n → Within (go next)) → Within (on_body (seg_of s n least) go)
    unfolding seg_of place_of Within
    body_within least go k =
        cond_with (λ x. seg_of s n least ≡ x → Within (on_body x go)) (ltb (length s) (n + 2)) (λ t e. b) (λ f1.
        cond_with (λ x. seg_of s n least ≡ x → Within (on_body x go)) (ltb (be16_at s n) least) (λ t e. b) (λ f2.
        cond_with (λ x. seg_of s n least ≡ x → Within (on_body x go)) (ltb (length s) (n + be16_at s n))
        (λ t e. ltb-false (length s) (n + 2) f1)
        (λ f3 e.
        let u = ltb-false (be16_at s n) least f2 in
        k (n + be16_at s n) (omega arith) (ltb-false (length s) (n + be16_at s n) f3) refl)))
        refl

    frame_within : Within (frame_of s st n)
    unfolding frame_of frame_body_of place_of Within
    frame_within =
        cond_with Within st.framed (λ e. h) λ f.
        cond_with Within (eqb st.said.res 0) (λ e. h) λ d.
        body_within 8 (λ (next : ℕ). frame_body_of s st n next) λ next lo hi e.
        cond_with Within (eqb (be16_at s (n + 3)) 0) (λ q. let u : n + 3 ≤ length s = omega arith in u) λ q1.
        cond_with Within (eqb (be16_at s (n + 5)) 0) (λ q. let u : n + 5 ≤ length s = omega arith in u) λ q2.
        cond_with Within (components_ok (get_or s (n + 7) 0)) (λ q. hi) (λ q. let u : n + 7 ≤ length s = omega arith in u)

    scan_within : Within (scan_step_of s st n)
    unfolding scan_step_of place_of Within
    scan_within =
        cond_with Within st.framed
        (λ f. body_within 2 (λ (next : ℕ). on_found (scan_of s next) next (λ (p : ℕ). Continue (passed st p))) λ next lo hi e. by next hi (scan_of s next) refl)
        (λ f. h)
      where
        by : (next : ℕ) → next ≤ length s → (x : Option ℕ) → scan_of s next ≡ x → Within (on_found x next (λ (p : ℕ). Continue (passed st p)))
        by next hi (Some p) q = let k = (scan_back s next p q).marked in let i = k.inside in let j = k.ends in omega arith
        by next hi None q = hi

    segment_within : Within (segment_of s main st c n)
    unfolding segment_of place_of Within
    segment_within =
        body_within 2 (λ (next : ℕ). on_tag (tag_of s st c n) (Continue (moved st next st.said.res)) (λ (r : ℕ). cond (resolves main r) (Continue (moved st next r)) (refused (BadRes (n + 10)))))
        λ next lo hi e. by next hi e (tag_of s st c n) refl
      where
        by : (next : ℕ) → next ≤ length s → next ≡ n + be16_at s n → (x : Option ℕ) → tag_of s st c n ≡ x
            → Within (on_tag x (Continue (moved st next st.said.res)) (λ (r : ℕ). cond (resolves main r) (Continue (moved st next r)) (refused (BadRes (n + 10)))))
        by next hi z None q = hi
        by next hi z (Some v) q =
            cond_with Within (resolves main v) (λ y. hi) (λ y. let l = tag_long s st c n v q in let u : n + 10 ≤ length s = omega arith in u)

    end_within : Within (end_of st n)
    unfolding end_of place_of Within
    end_within = cond_with Within st.scanned (λ e. tt) (λ e. h)

    mark_within : (x : Class) → Within (mark_of s main st c n x)
    unfolding mark_of place_of Within
    mark_within Alone = b
    mark_within Frame = frame_within
    mark_within Scan = scan_within
    mark_within End = end_within
    mark_within Wrong = h
    mark_within Segment = segment_within

  turn_within : (st : Reach) → st.at ≤ length s → Within (turn_of s main st)
  unfolding turn_of place_of Within
  turn_within st h = by (marker_of s st.at) refl
    where
      by : (x : Marker) → marker_of s st.at ≡ x → Within (on_marker x st.at (λ (c n : ℕ). mark_of s main st c n (class_of c)))
      by (Code c n) m = mark_within st c n h (marker_back s st.at c n m).inside (class_of c)
      by Missing m = h
      by Cut m = h

  walks_within : {st : Reach} {w : Result (ℕ × Said) Fault} → Walks s main st w → st.at ≤ length s → (f : Fault) → w ≡ Err f → place_of f ≤ length s
  unfolding Within
  walks_within {st} {w} (stops q) h f z = subst Within (q ∙ ap Break z) (turn_within st h)
  walks_within {st} {w} (goes {t = t} q more) h f z = walks_within more (subst Within q (turn_within st h)) f z

-- the refusal of a walk that begins within the list is placed within it
pub walk_within : (s : List ℕ) (start main : ℕ) → start ≤ length s → (f : Fault) → walk_of s start main ≡ Err f → place_of f ≤ length s
unfolding walk_of place_of
walk_within s start main h f =
    cond_with (λ x. x ≡ Err f → place_of f ≤ length s) (ltb (length s) (start + 2)) (λ t e. let z : Short start ≡ f = cc in subst (λ (g : Fault). place_of g ≤ length s) z h) λ t.
    cond_with (λ x. x ≡ Err f → place_of f ≤ length s) (eqb (get_or s start 0) 0xFF && eqb (get_or s (start + 1) 0) 0xD8)
    (λ u e. walks_within s main (walks_from s main (length s) (begun (start + 2)) (omega arith)) (ltb-false (length s) (start + 2) t) f e)
    (λ u e. let z : BadLayer start ≡ f = cc in subst (λ (g : Fault). place_of g ≤ length s) z h)
