-- The walk without its count of markers: turn by turn to an answer. The count never runs out, and more changes nothing.
-- Assumes nothing.
use Prim.Native.Nat.{ℕ, zero, suc, ◌+◌, ◌≤◌, ◌<◌}
use native.Mathlib.Omega.{arith}
use mathlib.Core.Path.{◌≡◌, refl, sym, ap, ◌∙◌}
use mathlib.Core.Logic.{◌≢◌}
use mathlib.Core.Bool.{true, false, cond}
use mathlib.Core.List.{List}
use lib.ListN.{length, get_or}
use lib.Dec.{eqb, ltb}
use borrow.Author.Tests.{eqb-false, lt-ltb, ltb-false}
use Rattle.octets.specs.Octets.{be16_at}
use Rattle.jpeg_rules.specs.declared.Class.{Class}
use Rattle.jpeg_rules.specs.declared.Class.TheVariants.{Alone, Frame, Scan, End, Wrong, Segment}
use Rattle.jpeg_rules.specs.declared.Marker.{Marker}
use Rattle.jpeg_rules.specs.declared.Marker.TheVariants.{Code, Missing, Cut}
use Rattle.jpeg_rules.specs.declared.Fault.TheVariants.{Short, BadRes}
use Rattle.std.specs.Prelude.{Option, Some, None, Result, Ok, Err}
use Rattle.jpeg_rules.specs.declared.Fault.{Fault}
use Rattle.jpeg_rules.specs.declared.Said.{Said}
use Rattle.jpeg_rules.specs.declared.Reach.{Reach}
use Rattle.jpeg_rules.specs.Walk.{Turn, seg_of, scan_of, resolves, tag_of, framed, passed, moved, refused, on_body, on_found, on_tag, frame_said, components_ok, frame_body_of, frame_of, scan_step_of, segment_of, end_of, mark_of, on_marker, turn_of, on_turn, walk_from}
use Rattle.std.specs.declared.ops.ControlFlow.TheVariants.{Continue, Break}
use Rattle.jpeg_rules.specs.Marker.{class_of, marker_of}
use Rattle.laws.proofs.Cases.{cond_with, clash}
use Rattle.jpeg_rules.proofs.Runs.{marker_back}
use Rattle.jpeg_rules.proofs.Scans.{scan_back}

-- ---- how a turn can go on, and how it can end

module _ (s : List ℕ) (main : ℕ) (st : Reach) where
  pub data Onward (t : Reach) : Type 0 where
    by_alone : (c n : ℕ) → marker_of s st.at ≡ Code c n → class_of c ≡ Alone → moved st n st.said.res ≡ t → Onward t
    by_frame : (c n next : ℕ) → marker_of s st.at ≡ Code c n → class_of c ≡ Frame → st.framed ≡ false → st.said.res ≢ 0 → seg_of s n 8 ≡ Ok next
        → be16_at s (n + 3) ≢ 0 → be16_at s (n + 5) ≢ 0 → components_ok (get_or s (n + 7) 0) ≡ true → framed st next (frame_said s st n) ≡ t → Onward t
    by_scan : (c n next p : ℕ) → marker_of s st.at ≡ Code c n → class_of c ≡ Scan → st.framed ≡ true → seg_of s n 2 ≡ Ok next
        → scan_of s next ≡ Some p → passed st p ≡ t → Onward t
    by_plain : (c n next : ℕ) → marker_of s st.at ≡ Code c n → class_of c ≡ Segment → seg_of s n 2 ≡ Ok next → tag_of s st c n ≡ None
        → moved st next st.said.res ≡ t → Onward t
    by_tag : (c n next v : ℕ) → marker_of s st.at ≡ Code c n → class_of c ≡ Segment → seg_of s n 2 ≡ Ok next → tag_of s st c n ≡ Some v
        → resolves main v ≡ true → moved st next v ≡ t → Onward t

  -- the end of a layer
  pub record Ended (e : ℕ) (said : Said) : Type 0 where
    pub c : ℕ
    pub marker : marker_of s st.at ≡ Code c e
    pub class : class_of c ≡ End
    pub scanned : st.scanned ≡ true
    pub says : st.said ≡ said

  -- what a turn's answer tells
  abbrev Told : Turn → Type 0
  Told x = ((t : Reach) → x ≡ Continue t → Onward t) × ((e : ℕ) (said : Said) → x ≡ Break (Ok (e, said)) → Ended e said)

  told_refused : (f : _) → Told (refused f)
  told_refused f = (λ t e. clash cc, λ e said q. clash cc)

  module _ (c n : ℕ) (m : marker_of s st.at ≡ Code c n) where
    told_body : (least : ℕ) (go : ℕ → Turn) → ((next : ℕ) → seg_of s n least ≡ Ok next → Told (go next)) → Told (on_body (seg_of s n least) go)
    told_body least go k = by (seg_of s n least) refl
      where
        by : (g : Result ℕ Fault) → seg_of s n least ≡ g → Told (on_body g go)
        by (Ok next) e = k next e
        by (Err f) e = told_refused f

    told_frame : class_of c ≡ Frame → Told (frame_of s st n)
    unfolding frame_of frame_body_of
    told_frame k =
        cond_with Told st.framed (λ e. told_refused _) λ f.
        cond_with Told (eqb st.said.res 0) (λ e. told_refused _) λ d.
        told_body 8 (λ (next : ℕ). frame_body_of s st n next) λ next g.
        cond_with Told (eqb (be16_at s (n + 3)) 0) (λ e. told_refused _) λ h.
        cond_with Told (eqb (be16_at s (n + 5)) 0) (λ e. told_refused _) λ w.
        cond_with Told (components_ok (get_or s (n + 7) 0))
        (λ o. (
          λ t e. by_frame c n next m k f (eqb-false st.said.res 0 d) g (eqb-false (be16_at s (n + 3)) 0 h) (eqb-false (be16_at s (n + 5)) 0 w) o cc,
          λ e said q. clash cc,
        ))
        (λ o. told_refused _)

    told_scan : class_of c ≡ Scan → Told (scan_step_of s st n)
    unfolding scan_step_of
    told_scan k =
        cond_with Told st.framed
        (λ f.
        told_body 2 (λ (next : ℕ). on_found (scan_of s next) next (λ (p : ℕ). Continue (passed st p))) λ next g. by f next g (scan_of s next) refl)
        (λ f. told_refused _)
      where
        by : st.framed ≡ true → (next : ℕ) → seg_of s n 2 ≡ Ok next → (x : Option ℕ) → scan_of s next ≡ x → Told (on_found x next (λ (p : ℕ). Continue (passed st p)))
        by f next g (Some p) q = (λ t e. by_scan c n next p m k f g q cc, λ e said z. clash cc)
        by f next g None q = told_refused _

    told_segment : class_of c ≡ Segment → Told (segment_of s main st c n)
    unfolding segment_of
    told_segment k =
        told_body 2 (λ (next : ℕ). on_tag (tag_of s st c n) (Continue (moved st next st.said.res)) (λ (r : ℕ). cond (resolves main r) (Continue (moved st next r)) (refused (BadRes (n + 10)))))
        λ next g. by next g (tag_of s st c n) refl
      where
        by : (next : ℕ) → seg_of s n 2 ≡ Ok next → (x : Option ℕ) → tag_of s st c n ≡ x
            → Told (on_tag x (Continue (moved st next st.said.res)) (λ (r : ℕ). cond (resolves main r) (Continue (moved st next r)) (refused (BadRes (n + 10)))))
        by next g None q = (λ t e. by_plain c n next m k g q cc, λ e said z. clash cc)
        by next g (Some v) q =
            cond_with Told (resolves main v) (λ o. (λ t e. by_tag c n next v m k g q o cc, λ e said z. clash cc)) (λ o. told_refused _)

    told_end : class_of c ≡ End → Told (end_of st n)
    unfolding end_of
    told_end k =
        cond_with Told st.scanned
        (λ d. (
          λ t e. clash cc,
          λ e said q.
              let p : (n, st.said) ≡ (e, said) = cc in
              let z : n ≡ e = ap (λ (w : ℕ × Said). w.0) p in
              record { c = c; marker = m ∙ ap (Code c) z; class = k; scanned = d; says = ap (λ (w : ℕ × Said). w.1) p },
        ))
        (λ d. told_refused _)

    told_mark : (x : Class) → class_of c ≡ x → Told (mark_of s main st c n x)
    unfolding mark_of
    told_mark Alone k = (λ t e. by_alone c n m k cc, λ e said q. clash cc)
    told_mark Frame k = told_frame k
    told_mark Scan k = told_scan k
    told_mark End k = told_end k
    told_mark Wrong k = told_refused _
    told_mark Segment k = told_segment k

  pub turn_told : Told (turn_of s main st)
  unfolding turn_of
  turn_told = by (marker_of s st.at) refl
    where
      by : (x : Marker) → marker_of s st.at ≡ x → Told (on_marker x st.at (λ (c n : ℕ). mark_of s main st c n (class_of c)))
      by (Code c n) m = told_mark c n m (class_of c) refl
      by Missing m = told_refused _
      by Cut m = told_refused _

-- ---- the walk, turn by turn

pub data Walks (s : List ℕ) (main : ℕ) : Reach → Result (ℕ × Said) Fault → Type 0 where
  stops : {st : Reach} {w : Result (ℕ × Said) Fault} → turn_of s main st ≡ Break w → Walks s main st w
  goes : {st t : Reach} {w : Result (ℕ × Said) Fault} → turn_of s main st ≡ Continue t → Walks s main t w → Walks s main st w

-- ---- each turn goes on by a marker at least

seg_ahead : (s : List ℕ) (n least next : ℕ) → seg_of s n least ≡ Ok next → n + least ≤ next
unfolding seg_of
seg_ahead s n least next =
    cond_with (λ x. x ≡ Ok next → n + least ≤ next) (ltb (length s) (n + 2)) (λ t e. clash cc) λ f1.
    cond_with (λ x. x ≡ Ok next → n + least ≤ next) (ltb (be16_at s n) least) (λ t e. clash cc) λ f2.
    cond_with (λ x. x ≡ Ok next → n + least ≤ next) (ltb (length s) (n + be16_at s n)) (λ t e. clash cc) λ f3 e.
    let h = ltb-false (be16_at s n) least f2 in
    let b : n + be16_at s n ≡ next = cc in
    omega arith

ahead_at : {t u : Reach} → t ≡ u → t.at ≡ u.at
ahead_at e = ap (λ (x : Reach). x.at) e

pub ahead : (s : List ℕ) (main : ℕ) (st t : Reach) → Onward s main st t → st.at + 2 ≤ t.at
ahead s main st t (by_alone c n m k e) =
    let a = (marker_back s st.at c n m).ends in let b : n ≡ t.at = ahead_at e in omega arith
ahead s main st t (by_frame c n next m k f d g h w o e) =
    let a = (marker_back s st.at c n m).ends in let b : next ≡ t.at = ahead_at e in let q = seg_ahead s n 8 next g in omega arith
ahead s main st t (by_scan c n next p m k f g q e) =
    let a = (marker_back s st.at c n m).ends in
    let b : p ≡ t.at = ahead_at e in
    let x = seg_ahead s n 2 next g in
    let y = (scan_back s next p q).after in
    omega arith
ahead s main st t (by_plain c n next m k g q e) =
    let a = (marker_back s st.at c n m).ends in let b : next ≡ t.at = ahead_at e in let x = seg_ahead s n 2 next g in omega arith
ahead s main st t (by_tag c n next v m k g q o e) =
    let a = (marker_back s st.at c n m).ends in let b : next ≡ t.at = ahead_at e in let x = seg_ahead s n 2 next g in omega arith

turn_cases : (P : Turn → Type 0) → ((t : Reach) → P (Continue t)) → ((w : Result (ℕ × Said) Fault) → P (Break w)) → (x : Turn) → P x
turn_cases P go stop (Continue t) = go t
turn_cases P go stop (Break w) = stop w

module _ (s : List ℕ) (main : ℕ) where
  -- where nothing is left the turn is Short, as the walk is where its count is used up
  turn_cut : (st : Reach) → length s < st.at + 2 → turn_of s main st ≡ Break (Err (Short st.at))
  unfolding turn_of marker_of
  turn_cut st h = simp (lt-ltb (length s) (st.at + 2) h)

  -- any count that is enough gives the answer of the turns
  pub walks_count : {st : Reach} {w : Result (ℕ × Said) Fault} → Walks s main st w → (k : ℕ) → length s < k + st.at → walk_from k s main st ≡ w
  unfolding walk_from
  walks_count {st} {w} (stops e) zero h =
      let z : Break (Err (Short st.at)) ≡ Break w = sym (turn_cut st (omega arith)) ∙ e in cc
  walks_count {st} {w} (stops e) (suc k) h = ap (λ (x : Turn). on_turn x (λ (t : Reach). walk_from k s main t)) e
  walks_count {st} {w} (goes {t = t} e more) zero h =
      let z : Break (Err (Short st.at)) ≡ Continue t = sym (turn_cut st (omega arith)) ∙ e in clash cc
  walks_count {st} {w} (goes {t = t} e more) (suc k) h =
      let a = ahead s main st t ((turn_told s main st).0 t e) in
      ap (λ (x : Turn). on_turn x (λ (u : Reach). walk_from k s main u)) e ∙ walks_count more k (omega arith)

  -- and the walk's answer is reached turn by turn
  pub walks_from : (k : ℕ) (st : Reach) → length s < k + st.at → Walks s main st (walk_from k s main st)
  unfolding walk_from
  walks_from zero st h = stops (turn_cut st (omega arith))
  walks_from (suc k) st h =
      turn_cases (λ x. turn_of s main st ≡ x → Walks s main st (on_turn x (λ (t : Reach). walk_from k s main t)))
      (λ t e. let a = ahead s main st t ((turn_told s main st).0 t e) in goes e (walks_from k t (omega arith)))
      (λ w e. stops e)
      (turn_of s main st) refl

  -- so the count is no part of the walk's meaning
  pub walk_count : (k j : ℕ) (st : Reach) → length s < k + st.at → length s < j + st.at → walk_from k s main st ≡ walk_from j s main st
  walk_count k j st h g = sym (walks_count (walks_from k st h) j g)
