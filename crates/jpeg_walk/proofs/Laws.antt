-- One law for each way out of the walk's functions: its premises are what is known there.
-- Assumes nothing.
use Prim.Native.Nat.{ℕ, zero, suc, ◌+◌, ◌-◌, ◌≤◌, ◌<◌}
use mathlib.Core.List.{List}
use mathlib.Core.Path.{◌≡◌, refl, sym, ap, subst, ◌∙◌}
use native.Mathlib.Omega.{arith}
use lib.ListN.{length, get_or}
use borrow.Author.Tests.{eq-eqb, ne_eqb, lt-ltb, le-ltb}
use Rattle.jpeg_rules.specs.declared.Class.{Class}
use Rattle.jpeg_rules.specs.declared.Class.TheVariants.{Alone, Frame, Scan, End, Wrong, Segment}
use Rattle.jpeg_rules.specs.declared.Fault.TheVariants.{Short, BadLayer}
use Rattle.jpeg_rules.specs.declared.Marker.{Marker}
use Rattle.jpeg_rules.specs.declared.Marker.TheVariants.{Code, Missing, Cut}
use Rattle.jpeg_rules.specs.declared.Reach.{Reach}
use Rattle.jpeg_rules.specs.Walk.{Turn, moved, frame_of, scan_step_of, segment_of, end_of, mark_of, on_marker, turn_of, walk_from, begun, walk_of}
use Rattle.std.specs.declared.ops.ControlFlow.TheVariants.{Continue, Break}
use Rattle.std.specs.Prelude.{Result, Err}
use Rattle.jpeg_rules.specs.declared.Fault.{Fault}
use Rattle.jpeg_rules.specs.declared.Said.{Said}
use Rattle.jpeg_rules.specs.Marker.{class_of, marker_of}
use Rattle.jpeg_marks.specs.declared.Due.{Due}
use Rattle.jpeg_marks.specs.Step.{Step, Answered, Leads}
use Rattle.jpeg_marks.proofs.Laws.{led_stop}
use Rattle.laws.proofs.Cases.{clash}
use Rattle.jpeg_walk.proofs.Ahead.{ahead, behind}

-- a marker that is due
abbrev due : Reach → ℕ → ℕ → Due
due st c n = record { st = st; code = c; next = n }

-- ---- after
module _ (s : List ℕ) {t : Turn} where
  pub after_stop : {w : Result (ℕ × Said) Fault} → t ≡ Break w → (main : ℕ) → Leads s main (Break w) t
  after_stop e = led_stop s e

  pub after_over : {w : Result (ℕ × Said) Fault} {x : Step} → t ≡ Break w → x ≡ Break w → (main : ℕ) → Leads s main x t
  after_over e b main = subst (λ (y : Step). Leads s main y t) (sym b) (after_stop e main)

  module _ {st : Reach} (e : t ≡ Continue st) {m : Marker} (q : m ≡ marker_of s st.at) where
    pub after_go : {c n : ℕ} → m ≡ Code c n → (main : ℕ) → Leads s main (Continue (due st c n)) t
    unfolding Leads
    after_go a main = (e, sym q ∙ a)

    bare : (main : ℕ) (w : Result (ℕ × Said) Fault) → turn_of s main st ≡ Break w → Leads s main (Break w) t
    unfolding Leads Answered
    bare main w h = subst (λ (x : Turn). Answered s main x w) (sym e) h

    pub after_missing : m ≡ Missing → (main : ℕ) → Leads s main (Break (Err (BadLayer st.at))) t
    unfolding turn_of
    after_missing a main =
        bare main (Err (BadLayer st.at))
        (ap (λ (x : Marker). on_marker x st.at (λ (c n : ℕ). mark_of s main st c n (class_of c))) (sym q ∙ a))

    pub after_cut : m ≡ Cut → (main : ℕ) → Leads s main (Break (Err (Short st.at))) t
    unfolding turn_of
    after_cut a main =
        bare main (Err (Short st.at))
        (ap (λ (x : Marker). on_marker x st.at (λ (c n : ℕ). mark_of s main st c n (class_of c))) (sym q ∙ a))

-- ---- mark_step
module _ (s : List ℕ) (main : ℕ) (st : Reach) (c n : ℕ) {k : Class} (e : k ≡ class_of c) where
  classed : {j : Class} → k ≡ j → mark_of s main st c n j ≡ mark_of s main st c n (class_of c)
  classed a = ap (mark_of s main st c n) (sym a ∙ e)

  -- a step for a turn in other words
  said : (x : Step) {t u : Turn} → t ≡ u → Leads s main x t → Leads s main x u
  said x q h = subst (Leads s main x) q h

  pub mark_alone : {u : Reach} (x : Step) → k ≡ Alone → u ≡ moved st n st.said.res → ((m : ℕ) → Leads s m x (Continue u))
      → Leads s main x (mark_of s main st c n (class_of c))
  unfolding mark_of
  mark_alone x a y h = said x (ap Continue y ∙ classed a) (h main)

  pub mark_frame : {t : Turn} (x : Step) → k ≡ Frame → t ≡ frame_of s st n → ((m : ℕ) → Leads s m x t) → Leads s main x (mark_of s main st c n (class_of c))
  unfolding mark_of
  mark_frame x a y h = said x (y ∙ classed a) (h main)

  pub mark_scan : (x : Step) → k ≡ Scan → ((m : ℕ) → Leads s m x (scan_step_of s st n)) → Leads s main x (mark_of s main st c n (class_of c))
  unfolding mark_of
  mark_scan x a h = said x (classed a) (h main)

  pub mark_end_lem : {t : Turn} (x : Step) → k ≡ End → t ≡ end_of st n → ((m : ℕ) → Leads s m x t) → Leads s main x (mark_of s main st c n (class_of c))
  unfolding mark_of
  mark_end_lem x a y h = said x (y ∙ classed a) (h main)

  pub mark_wrong : k ≡ Wrong → Leads s main (Break (Err (BadLayer st.at))) (mark_of s main st c n (class_of c))
  unfolding mark_of
  mark_wrong a = said (Break (Err (BadLayer st.at))) (classed a) (after_stop s refl main)

  pub mark_segment : {t : Turn} (x : Step) → k ≡ Segment → t ≡ segment_of s main st c n → ((m : ℕ) → Leads s m x t)
      → Leads s main x (mark_of s main st c n (class_of c))
  unfolding mark_of
  mark_segment x a y h = said x (y ∙ classed a) (h main)

pub ruleset mark_laws = (mark_alone, mark_frame, mark_scan, mark_end_lem, mark_wrong, mark_segment)

-- ---- the walk: before the loop
module _ (s : List ℕ) (start main : ℕ) where
  pub walk_past : length s ≤ start → Err (Short start) ≡ walk_of s start main
  unfolding walk_of
  walk_past h = simp (lt-ltb (length s) (start + 2) (omega arith))

  pub walk_short : length s - start < 2 → Err (Short start) ≡ walk_of s start main
  unfolding walk_of
  walk_short h = simp (lt-ltb (length s) (start + 2) (omega arith))

  pub walk_stray : 2 ≤ length s - start → (get_or s start 0 ≡ 0xFF → ⊥) → Err (BadLayer start) ≡ walk_of s start main
  unfolding walk_of
  walk_stray l n = simp (le-ltb (length s) (start + 2) (omega arith), ne_eqb (get_or s start 0) 0xFF n)

  pub walk_other : 2 ≤ length s - start → get_or s start 0 ≡ 0xFF → (get_or s (start + 1) 0 ≡ 0xD8 → ⊥)
      → Err (BadLayer start) ≡ walk_of s start main
  unfolding walk_of
  walk_other l e n =
      simp (
        le-ltb (length s) (start + 2) (omega arith),
        eq-eqb (get_or s start 0) 0xFF e,
        ne_eqb (get_or s (start + 1) 0) 0xD8 n,
      )

-- ---- the loop: with some fuel, and enough of it, the walk from here is the whole walk
pub record Going (s : List ℕ) (start main : ℕ) (st : Reach) : Type 0 where
  pub fuel : ℕ
  pub enough : length s < fuel + st.at
  pub fits : st.at ≤ length s
  pub same : walk_of s start main ≡ walk_from fuel s main st

-- a step is on the way, or it has the answer
unfoldable pub Ready : List ℕ → ℕ → ℕ → Step → Type 0
Ready s start main (Continue d) = Going s start main d.st × (marker_of s d.st.at ≡ Code d.code d.next)
Ready s start main (Break w) = w ≡ walk_of s start main

-- and how much is left
unfoldable pub left : List ℕ → Step → ℕ
left s (Continue d) = suc (length s - d.st.at)
left s (Break w) = 0

module _ (s : List ℕ) (start main : ℕ) where
  module _ (st : Reach) (g : Going s start main st) where
    on : {t : Reach} (k : ℕ) → length s < k + st.at → st.at ≤ length s → walk_of s start main ≡ walk_from k s main st → turn_of s main st ≡ Continue t
        → Going s start main t
    unfolding walk_from
    on zero l f e b = absurd (omega arith)
    on (suc k) l f e b =
        let a = rw b at (ahead s main st) in
        record { fuel = k; enough = omega arith; fits = a.1; same = e ∙ simp b }

    ends : {w : Result (ℕ × Said) Fault} (k : ℕ) → length s < k + st.at → st.at ≤ length s → walk_of s start main ≡ walk_from k s main st → turn_of s main st ≡ Break w
        → w ≡ walk_of s start main
    unfolding walk_from
    ends zero l f e b = absurd (omega arith)
    ends (suc k) l f e b = sym (e ∙ simp b)

    going_on : {t : Reach} → turn_of s main st ≡ Continue t → Going s start main t
    going_on b = on g.fuel g.enough g.fits g.same b

    going_ends : {w : Result (ℕ × Said) Fault} → turn_of s main st ≡ Break w → w ≡ walk_of s start main
    going_ends b = ends g.fuel g.enough g.fits g.same b

    -- from where the walk stands
    ready_from : (r : Step) → Leads s main r (Continue st) → Ready s start main r
    unfolding Ready Leads Answered
    ready_from (Continue d) h = let z : st ≡ d.st = cc in (subst (Going s start main) z g, h.1)
    ready_from (Break w) h = going_ends h

  -- and one turn on
  ready_on : (st : Reach) (g : Going s start main st) (r : Step) → Leads s main r (turn_of s main st) → Ready s start main r
  unfolding Ready Leads Answered
  ready_on st g r h = by (turn_of s main st) refl r h
    where
      stopped : {v : Result (ℕ × Said) Fault} (y : Step) → v ≡ walk_of s start main → Leads s main y (Break v) → Ready s start main y
      stopped (Continue d) e k = clash cc
      stopped (Break w) e k = sym k ∙ e

      by : (x : Turn) → turn_of s main st ≡ x → (y : Step) → Leads s main y x → Ready s start main y
      by (Continue t) e y k = ready_from t (going_on st g e) y k
      by (Break v) e y k = stopped y (going_ends st g e) k

  pub walk_begun : (r : Step) → 2 ≤ length s - start → get_or s start 0 ≡ 0xFF → get_or s (start + 1) 0 ≡ 0xD8
      → ((m : ℕ) → Leads s m r (Continue (begun (start + 2)))) → Ready s start main r
  unfolding walk_of
  walk_begun r l e d h =
      ready_from (begun (start + 2))
      (record {
        fuel = length s;
        enough = omega arith;
        fits = omega arith;
        same =
            simp (
              le-ltb (length s) (start + 2) (omega arith),
              eq-eqb (get_or s start 0) 0xFF e,
              eq-eqb (get_or s (start + 1) 0) 0xD8 d,
            );
      })
      r (h main)

  module _ (x : Step) (g : Ready s start main x) where
    pub walk_ends : {w : Result (ℕ × Said) Fault} → x ≡ Break w → w ≡ walk_of s start main
    unfolding Ready
    walk_ends e = subst (Ready s start main) e g

    module _ {d : Due} (e : x ≡ Continue d) where
      stands : Going s start main d.st × (marker_of s d.st.at ≡ Code d.code d.next)
      unfolding Ready
      stands = subst (Ready s start main) e g

      turned : turn_of s main d.st ≡ mark_of s main d.st d.code d.next (class_of d.code)
      unfolding turn_of
      turned = ap (λ (m : Marker). on_marker m d.st.at (λ (c n : ℕ). mark_of s main d.st c n (class_of c))) stands.1

      pub walk_inside_list : d.next ≤ length s
      walk_inside_list = behind s d.st.at d.code d.next refl stands.1

      module _ (r : Step) (h : Leads s main r (mark_of s main d.st d.code d.next (class_of d.code))) where
        led : Leads s main r (turn_of s main d.st)
        led = subst (Leads s main r) (sym turned) h

        pub walk_on : Ready s start main r
        walk_on = ready_on d.st stands.0 r led

        pub walk_less : left s r < left s x
        unfolding left Leads
        walk_less = subst (λ (y : Step). left s r < left s y) (sym e) (by r led)
          where
            by : (y : Step) → Leads s main y (turn_of s main d.st) → left s y < left s (Continue d)
            by (Continue t) k = let a = rw k.0 at (ahead s main d.st) in omega arith
            by (Break w) k = omega arith

pub ruleset walk_laws = (walk_past, walk_short, walk_stray, walk_other, walk_begun, walk_inside_list, walk_on, walk_less, walk_ends)
