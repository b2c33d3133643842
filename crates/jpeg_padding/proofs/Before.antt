-- The frozen walk (specs/Frozen.antt) beside the walk of today. What padded markers left as it was is the same by computation; a marker with one FF, and scan
-- data with nothing else, are the same wherever no FF stands behind an FF; and where one does, the frozen walk went no further.
-- Assumes nothing.
use Prim.Native.Nat.{ℕ, zero, suc, ◌+◌, ◌-◌, ◌≤◌, ◌<◌}
use native.Mathlib.Omega.{arith}
use mathlib.Core.Path.{◌≡◌, refl, sym, ap, ap₂, ◌∙◌}
use mathlib.Core.Logic.{◌⊎◌, inl, inr, ◌≢◌, ⊎_elim}
use mathlib.Core.Bool.{Bool, true, false, ◌&&◌, ◌||◌, cond, false≢true}
use mathlib.Core.List.{List, [], ◌∷◌}
use lib.ListN.{length, get_or, drop}
use lib.Dec.{eqb, leb, ltb}
use borrow.Author.Tests.{eq-eqb, ne_eqb, eqb-true, eqb-false, leb-true, leb-false, ltb-false}
use Rattle.octets.proofs.Laws.{drop_octet}
use Rattle.octets.proofs.Runs.{end_over, end_here}
use Rattle.laws.specs.Tests.{within, among}
use Rattle.laws.proofs.Cases.{cond_with, cond_both, clash}
use Rattle.laws.proofs.Says.{Says, says_eq, says_le, says_and, says_or, says_not, says_within, says_one, says_list, says_else}
use Rattle.jpeg_rules.specs.declared.Said.{Said}
use Rattle.jpeg_rules.specs.declared.Class.{Class}
use Rattle.jpeg_rules.specs.declared.Class.TheVariants.{Alone, Frame, Scan, End, Wrong, Segment}
use Rattle.jpeg_rules.specs.declared.Marker.{Marker}
use Rattle.jpeg_rules.specs.declared.Marker.TheVariants.{Code, Missing, Cut}
use Rattle.std.specs.Prelude.{Option, Some, None, Result, Ok, Err}
use Rattle.jpeg_rules.specs.declared.Fault.{Fault}
use Rattle.jpeg_rules.specs.declared.Reach.{Reach}
use Rattle.jpeg_rules.specs.Walk.{Turn, seg_of, scan_of, tag_of, passed, on_body, on_found, components_ok, frame_body_of, frame_of, scan_step_of, segment_of, end_of, mark_of, on_marker, turn_of, on_turn, walk_from, begun, walk_of}
use Rattle.std.specs.declared.ops.ControlFlow.TheVariants.{Continue, Break}
use Rattle.jpeg_rules.specs.Marker.{class_of, code_from, marker_of}
use Rattle.jpeg_rules.specs.Grammar.{DataRun}
use Rattle.jpeg_rules.proofs.Codes.{coded_class, class_low, class_restart, class_rest}
use Rattle.jpeg_rules.proofs.Scans.{scan_over, plain_next, run_over, run_next, run_here}
use Rattle.jpeg_padding.specs.Frozen.{frozen_class_of, frozen_marker_of, frozen_seg_of, frozen_stops_of, frozen_scan_from, frozen_scan_of, frozen_tag_of, frozen_on_body, frozen_on_found, frozen_frame_body_of, frozen_frame_of, frozen_scan_step_of, frozen_segment_of, frozen_end_of, frozen_mark_of, frozen_on_marker, frozen_turn_of, frozen_on_turn, frozen_walk_from, frozen_walk_of}

-- ---- what is as it was

-- a test that fails: what it says does not hold
test_fails : {a : Bool} {P : Type 0} → Says a P → a ≡ false → P → ⊥
test_fails s n p = false≢true (sym n ∙ s.shown p)

-- a class, by the tests that were made then
module _ (c : ℕ) where
  segments : Says (among (0xC4 ∷ 0xC8 ∷ 0xCC ∷ []) c) ((c ≡ 0xC4) ⊎ (c ≡ 0xC8) ⊎ (c ≡ 0xCC))
  segments = says_list c 0xC4 (0xC8 ∷ 0xCC ∷ []) (says_list c 0xC8 (0xCC ∷ []) (says_one c 0xCC))

  faults : Says (among (0x00 ∷ 0xFF ∷ []) c) ((c ≡ 0x00) ⊎ (c ≡ 0xFF))
  faults = says_list c 0x00 (0xFF ∷ []) (says_one c 0xFF)

  abbrev Same : Class → Type 0
  Same x = x ≡ class_of c

  pub class_same : frozen_class_of c ≡ class_of c
  unfolding frozen_class_of class_of
  class_same =
      cond_with Same (eqb c 0x01) (λ t. ap class_of (sym (eqb-true c 0x01 t))) λ n1.
      cond_with Same (among (0xC4 ∷ 0xC8 ∷ 0xCC ∷ []) c)
      (λ t. ⊎_elim (λ e. ap class_of (sym e)) (⊎_elim (λ e. ap class_of (sym e)) (λ e. ap class_of (sym e))) (segments.told t)) λ n2.
      let no = test_fails segments n2 in
      cond_with Same (within 0xC0 0xCF c)
      (λ t.
      let h = (says_within 0xC0 0xCF c).told t in
      sym (coded_class c Frame (h.0, h.1, λ e. no (inl e), λ e. no (inr (inl e)), λ e. no (inr (inr e))))) λ n3.
      cond_with Same (eqb c 0xDA) (λ t. ap class_of (sym (eqb-true c 0xDA t))) λ n4.
      cond_with Same (eqb c 0xD9) (λ t. ap class_of (sym (eqb-true c 0xD9 t))) λ n5.
      cond_with Same (among (0x00 ∷ 0xFF ∷ []) c) (λ t. ⊎_elim (λ e. ap class_of (sym e)) (λ e. ap class_of (sym e)) (faults.told t)) λ n6.
      cond_with Same (leb c 0xBF) (λ t. sym (class_low c (eqb-false c 0x01 n1) (leb-true c 0xBF t))) λ n7.
      cond_with Same (within 0xD0 0xD8 c) (λ t. let h = (says_within 0xD0 0xD8 c).told t in sym (class_restart c h.0 h.1)) λ n8.
      sym (class_rest c (beyond (leb-false c 0xBF n7) (test_fails (says_within 0xC0 0xCF c) n3) (test_fails (says_within 0xD0 0xD8 c) n8))
      (eqb-false c 0xD9 n5) (eqb-false c 0xDA n4) (λ e. test_fails faults n6 (inr e)))
    where
      beyond : 0xBF < c → ((0xC0 ≤ c) × (c ≤ 0xCF) → ⊥) → ((0xD0 ≤ c) × (c ≤ 0xD8) → ⊥) → 0xD8 < c
      beyond l f g =
          ⊎_elim
          (λ (h : c ≤ 0xD8). absurd (⊎_elim (λ (k : c ≤ 0xCF). f (l, k)) (λ (k : c ≤ 0xCF → ⊥). g (omega arith, h)) (says_else (says_le c 0xCF))))
          (λ (h : c ≤ 0xD8 → ⊥). omega arith)
          (says_else (says_le c 0xD8))

pub seg_same : (s : List ℕ) (n least : ℕ) → frozen_seg_of s n least ≡ seg_of s n least
unfolding frozen_seg_of seg_of
seg_same s n least = refl

pub tag_same : (s : List ℕ) (st : Reach) (c n : ℕ) → frozen_tag_of s st c n ≡ tag_of s st c n
unfolding frozen_tag_of tag_of
tag_same s st c n = refl

pub frame_same : (s : List ℕ) (st : Reach) (n : ℕ) → frozen_frame_of components_ok s st n ≡ frame_of s st n
unfolding frozen_frame_of frame_of frozen_frame_body_of frame_body_of frozen_seg_of seg_of
frame_same s st n = refl

pub segment_same : (s : List ℕ) (main : ℕ) (st : Reach) (c n : ℕ) → frozen_segment_of s main st c n ≡ segment_of s main st c n
unfolding frozen_segment_of segment_of frozen_seg_of seg_of frozen_tag_of tag_of
segment_same s main st c n = refl

pub end_same : (st : Reach) (n : ℕ) → frozen_end_of st n ≡ end_of st n
unfolding frozen_end_of end_of
end_same st n = refl

-- ---- scan data

-- an FF there has no FF behind it
abbrev LoneAt : List ℕ → ℕ → Type 0
LoneAt s i = get_or s i 0 ≡ 0xFF → get_or s (i + 1) 0 ≢ 0xFF

-- 00 and D0 to D7
abbrev DataCode : ℕ → Type 0
DataCode c = (c ≡ 0x00) ⊎ ((0xD0 ≤ c) × (c ≤ 0xD7))

says_code : (c : ℕ) → Says (eqb c 0x00 || within 0xD0 0xD7 c) (DataCode c)
says_code c = says_or (says_eq c 0x00) (says_within 0xD0 0xD7 c)

says_stops : (a b : ℕ) → Says (frozen_stops_of a b) ((a ≡ 0xFF) × (DataCode b → ⊥))
unfolding frozen_stops_of
says_stops a b = says_and (says_eq a 0xFF) (says_not (says_code b))

code_other : (c : ℕ) → DataCode c → c ≢ 0xFF
code_other c (inl k) q = omega arith
code_other c (inr k) q = omega arith

-- the octets at i and i + 1
module _ (s : List ℕ) (i : ℕ) (h : i + 1 < length s) where
  code_run : DataCode (get_or s (i + 1) 0) → DataRun (i + 1 - (i + 1)) (get_or s (i + 1) 0)
  code_run (inl k) = inl (k, omega arith)
  code_run (inr k) = inr k

  run_code : DataRun (i + 1 - (i + 1)) (get_or s (i + 1) 0) → DataCode (get_or s (i + 1) 0)
  run_code (inl k) = inl k.0
  run_code (inr k) = inr k

  -- where they did not end scan data, the search of today passes the first of them too
  pair_next : frozen_stops_of (get_or s i 0) (get_or s (i + 1) 0) ≡ false → scan_of s i ≡ scan_of s (i + 1)
  pair_next e =
      ⊎_elim
      (λ (ff : get_or s i 0 ≡ 0xFF).
      ⊎_elim
      (λ (k : DataCode (get_or s (i + 1) 0)).
      let d = code_other (get_or s (i + 1) 0) k in
      run_next s i (i + 1) ff (end_here 0xFF s (i + 1) h d) h (code_run k) ∙ sym (plain_next s (i + 1) d))
      (λ (k : DataCode (get_or s (i + 1) 0) → ⊥). absurd (false≢true (sym e ∙ (says_stops (get_or s i 0) (get_or s (i + 1) 0)).shown (ff, k))))
      (says_else (says_code (get_or s (i + 1) 0))))
      (λ (d : get_or s i 0 ≢ 0xFF). plain_next s i d)
      (says_else (says_eq (get_or s i 0) 0xFF))

  -- where they ended it and are not both FF, it ends today
  pair_here : frozen_stops_of (get_or s i 0) (get_or s (i + 1) 0) ≡ true → LoneAt s i → scan_of s i ≡ Some i
  pair_here e d =
      let k = (says_stops (get_or s i 0) (get_or s (i + 1) 0)).told e in
      run_here s i (i + 1) k.0 (end_here 0xFF s (i + 1) h (d k.0)) h (λ q. k.1 (run_code q))

-- from the last octet on nothing is found
past_last : (s : List ℕ) (i : ℕ) → length s ≤ i + 1 → scan_of s i ≡ None
past_last s i h =
    ⊎_elim (λ (ff : get_or s i 0 ≡ 0xFF). run_over s i (i + 1) ff (end_over 0xFF s (i + 1) h) h)
    (λ (d : get_or s i 0 ≢ 0xFF). plain_next s i d ∙ scan_over s (i + 1) h)
    (says_else (says_eq (get_or s i 0) 0xFF))

-- what the frozen search found, unless it is an FF with an FF behind it, the search of today finds
module _ (s : List ℕ) where
  scan_from_same : (k i : ℕ) → length s - (i + 1) ≡ k → ((p : ℕ) → frozen_scan_from k s i ≡ Some p → LoneAt s p) → scan_of s i ≡ frozen_scan_from k s i
  unfolding frozen_scan_from
  scan_from_same zero i h = λ g. past_last s i (omega arith)
  scan_from_same (suc k) i h =
      cond_with (λ x. ((p : ℕ) → x ≡ Some p → LoneAt s p) → scan_of s i ≡ x) (frozen_stops_of (get_or s i 0) (get_or s (i + 1) 0))
      (λ t g. pair_here s i (omega arith) t (g i refl))
      (λ t g. pair_next s i (omega arith) t ∙ scan_from_same k (i + 1) (omega arith) g)

  scan_same : (i : ℕ) → ((p : ℕ) → frozen_scan_of s i ≡ Some p → LoneAt s p) → scan_of s i ≡ frozen_scan_of s i
  unfolding frozen_scan_of
  scan_same i = scan_from_same (length s - (i + 1)) i refl

-- ---- one marker

-- an octet other than FF is the code at once
code_there : (s : List ℕ) (i : ℕ) → i < length s → get_or s i 0 ≢ 0xFF → code_from (drop i s) i ≡ Code (get_or s i 0) (i + 1)
unfolding code_from
code_there s i h d =
    ap (λ (l : List ℕ). code_from l i) (drop_octet s i h)
    ∙ ap (λ (b : Bool). cond b (code_from (drop (i + 1) s) (i + 1)) (Code (get_or s i 0) (i + 1))) (ne_eqb (get_or s i 0) 0xFF d)

marker_same : (s : List ℕ) (at : ℕ) → LoneAt s at → marker_of s at ≡ frozen_marker_of s at
unfolding marker_of frozen_marker_of
marker_same s at d =
    cond_both (λ u x. u ≡ x) (ltb (length s) (at + 2)) (λ t. refl) λ t.
    cond_both (λ u x. u ≡ x) (eqb (get_or s at 0) 0xFF)
    (λ f.
    let h = ltb-false (length s) (at + 2) t in
    let z : at + 1 + 1 ≡ at + 2 = omega arith in
    code_there s (at + 1) (omega arith) (d (eqb-true (get_or s at 0) 0xFF f)) ∙ ap (Code (get_or s (at + 1) 0)) z)
    (λ f. refl)

module _ (s : List ℕ) (main : ℕ) where
  -- a turn that goes on to no FF with an FF behind it
  abbrev Lone : Turn → Type 0
  Lone x = (t : Reach) → x ≡ Continue t → LoneAt s t.at

  scan_step_same : (st : Reach) (n : ℕ) → Lone (frozen_scan_step_of s st n) → scan_step_of s st n ≡ frozen_scan_step_of s st n
  unfolding frozen_scan_step_of scan_step_of frozen_seg_of seg_of
  scan_step_same st n = cond_both (λ u x. Lone x → u ≡ x) st.framed (λ f. body (seg_of s n 2)) (λ f g. refl)
    where
      after : ℕ → Option ℕ → Turn
      after next x = on_found x next (λ (p : ℕ). Continue (passed st p))

      body : (x : Result ℕ Fault) → Lone (frozen_on_body x (λ (next : ℕ). frozen_on_found (frozen_scan_of s next) next (λ (p : ℕ). Continue (passed st p))))
          → on_body x (λ (next : ℕ). on_found (scan_of s next) next (λ (p : ℕ). Continue (passed st p)))
          ≡ frozen_on_body x (λ (next : ℕ). frozen_on_found (frozen_scan_of s next) next (λ (p : ℕ). Continue (passed st p)))
      body (Ok next) g = ap (after next) (scan_same s next (λ p q. g (passed st p) (ap (after next) q)))
      body (Err f) g = refl

  mark_same : (st : Reach) (c n : ℕ) (k : Class) → Lone (frozen_mark_of components_ok s main st c n k) → mark_of s main st c n k ≡ frozen_mark_of components_ok s main st c n k
  unfolding frozen_mark_of mark_of
  mark_same st c n Alone g = refl
  mark_same st c n Frame g = sym (frame_same s st n)
  mark_same st c n Scan g = scan_step_same st n g
  mark_same st c n End g = sym (end_same st n)
  mark_same st c n Wrong g = refl
  mark_same st c n Segment g = sym (segment_same s main st c n)

  turn_same : (st : Reach) → LoneAt s st.at → Lone (frozen_turn_of components_ok s main st) → turn_of s main st ≡ frozen_turn_of components_ok s main st
  unfolding frozen_turn_of turn_of
  turn_same st d g = ap today (marker_same s st.at d) ∙ by (frozen_marker_of s st.at) g
    where
      today : Marker → Turn
      today x = on_marker x st.at (λ (c n : ℕ). mark_of s main st c n (class_of c))

      before : Marker → Turn
      before x = frozen_on_marker x st.at (λ (c n : ℕ). frozen_mark_of components_ok s main st c n (frozen_class_of c))

      by : (x : Marker) → Lone (before x) → today x ≡ before x
      by (Code c n) g = ap (mark_of s main st c n) (sym (class_same c)) ∙ mark_same st c n (frozen_class_of c) g
      by Missing g = refl
      by Cut g = refl

  -- ---- the walk, with the same count of markers

  step_same : (k : ℕ) (st : Reach) → LoneAt s st.at
      → ((t : Reach) → frozen_turn_of components_ok s main st ≡ Continue t → LoneAt s t.at × (walk_from k s main t ≡ frozen_walk_from components_ok k s main t))
      → walk_from (suc k) s main st ≡ frozen_walk_from components_ok (suc k) s main st
  unfolding walk_from frozen_walk_from
  step_same k st d more =
      ap (λ (x : Turn). on_turn x (walk_from k s main)) (turn_same st d (λ t q. (more t q).0)) ∙ by (frozen_turn_of components_ok s main st) refl
    where
      by : (x : Turn) → frozen_turn_of components_ok s main st ≡ x → on_turn x (walk_from k s main) ≡ frozen_on_turn x (frozen_walk_from components_ok k s main)
      by (Continue t) q = (more t q).1
      by (Break w) q = refl

  lone_same : ((i : ℕ) → LoneAt s i) → (k : ℕ) (st : Reach) → walk_from k s main st ≡ frozen_walk_from components_ok k s main st
  unfolding walk_from frozen_walk_from
  lone_same d zero st = refl
  lone_same d (suc k) st = step_same k st (d st.at) (λ t q. (d t.at, lone_same d k t))

  module _ (e : ℕ) (said : Said) where
    -- where an FF stood behind an FF, the frozen walk was refused
    ends_lone : (k : ℕ) (st : Reach) → frozen_walk_from components_ok k s main st ≡ Ok (e, said) → LoneAt s st.at
    unfolding frozen_walk_from frozen_marker_of frozen_class_of
    ends_lone zero st z f q = clash cc
    ends_lone (suc k) st z f q =
        let y : onward (cond (ltb (length s) (st.at + 2)) Cut (Code 0xFF (st.at + 2))) ≡ Ok (e, said) =
        ap₂ (λ (b : Bool) (c : ℕ). onward (cond (ltb (length s) (st.at + 2)) Cut (cond b (Code c (st.at + 2)) Missing)))
        (sym (eq-eqb (get_or s st.at 0) 0xFF f)) (sym q)
        ∙ z in
        refuses (ltb (length s) (st.at + 2)) y
      where
        onward : Marker → Result (ℕ × Said) Fault
        onward x = frozen_on_turn (frozen_on_marker x st.at (λ (c n : ℕ). frozen_mark_of components_ok s main st c n (frozen_class_of c))) (frozen_walk_from components_ok k s main)

        refuses : (b : Bool) → onward (cond b Cut (Code 0xFF (st.at + 2))) ≡ Ok (e, said) → ⊥
        refuses true y = clash cc
        refuses false y = clash cc

    ends_same : (k : ℕ) (st : Reach) → frozen_walk_from components_ok k s main st ≡ Ok (e, said) → walk_from k s main st ≡ frozen_walk_from components_ok k s main st
    unfolding walk_from frozen_walk_from
    ends_same zero st z = refl
    ends_same (suc k) st z =
        step_same k st (ends_lone (suc k) st z)
        (λ t q.
        let y : frozen_walk_from components_ok k s main t ≡ Ok (e, said) = sym (ap (λ (x : Turn). frozen_on_turn x (frozen_walk_from components_ok k s main)) q) ∙ z in
        (ends_lone k t y, ends_same k t y))

module _ (s : List ℕ) (start main : ℕ) where
  pub walk_ends_same : (e : ℕ) (said : Said) → frozen_walk_of components_ok s start main ≡ Ok (e, said) → walk_of s start main ≡ Ok (e, said)
  unfolding frozen_walk_of walk_of
  walk_ends_same e said =
      cond_both (λ u x. x ≡ Ok (e, said) → u ≡ Ok (e, said)) (ltb (length s) (start + 2)) (λ t z. z) λ t.
      cond_both (λ u x. x ≡ Ok (e, said) → u ≡ Ok (e, said)) (eqb (get_or s start 0) 0xFF && eqb (get_or s (start + 1) 0) 0xD8)
      (λ f z. ends_same s main e said (length s) (begun (start + 2)) z ∙ z) (λ f z. z)

  pub walk_lone_same : ((i : ℕ) → LoneAt s i) → walk_of s start main ≡ frozen_walk_of components_ok s start main
  unfolding frozen_walk_of walk_of
  walk_lone_same d =
      cond_both (λ u x. u ≡ x) (ltb (length s) (start + 2)) (λ t. refl) λ t.
      cond_both (λ u x. u ≡ x) (eqb (get_or s start 0) 0xFF && eqb (get_or s (start + 1) 0) 0xD8)
      (λ f. lone_same s main d (length s) (begun (start + 2))) (λ f. refl)
