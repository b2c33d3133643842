-- One law for each way out of a frame's, a scan's and the end's step: its premises are what is known there.
-- Assumes nothing.
use Prim.Native.Nat.{ℕ, ◌+◌}
use mathlib.Core.Bool.{Bool, true, false}
use mathlib.Core.List.{List}
use mathlib.Core.Path.{◌≡◌, refl, sym, ap, subst, ◌∙◌}
use lib.ListN.{get_or}
use borrow.Author.Rules.{rules}
use borrow.Author.Tests.{eq-eqb, ne_eqb}
use Rattle.octets.specs.Octets.{be16_at}
use Rattle.jpeg_rules.specs.declared.Fault.{Fault}
use Rattle.jpeg_rules.specs.declared.Fault.TheVariants.{Short, BadLayer}
use Rattle.std.specs.Prelude.{Option, Some, None, Result, Ok, Err}
use Rattle.jpeg_rules.specs.declared.Said.{Said}
use Rattle.jpeg_rules.specs.declared.Marker.TheVariants.{Code}
use Rattle.jpeg_rules.specs.declared.Reach.{Reach}
use Rattle.jpeg_rules.specs.Walk.{Turn, seg_of, scan_of, framed, refused, components_ok, frame_body_of, frame_of, scan_step_of, end_of}
use Rattle.std.specs.declared.ops.ControlFlow.TheVariants.{Continue, Break}
use Rattle.jpeg_rules.specs.Marker.{marker_of}
use Rattle.jpeg_scan.specs.declared.Next.{Next}
use Rattle.jpeg_scan.specs.Search.{Shows}
use Rattle.jpeg_segment.proofs.Whole.{room}
use Rattle.jpeg_marks.specs.Step.{Answered, Leads}

-- ---- frame_body and frame_step
module _ (s : List ℕ) (st : Reach) (n next : ℕ) {h : ℕ} (e : h ≡ be16_at s (n + 3)) where
  pub no_height : h ≡ 0 → refused (BadLayer (n + 3)) ≡ frame_body_of s st n next
  unfolding frame_body_of
  no_height z = simp (eq-eqb (be16_at s (n + 3)) 0 (sym e ∙ z))

  module _ (d : h ≡ 0 → ⊥) {w : ℕ} (f : w ≡ be16_at s (n + 5)) where
    pub no_width : w ≡ 0 → refused (BadLayer (n + 5)) ≡ frame_body_of s st n next
    unfolding frame_body_of
    no_width z = simp (ne_eqb (be16_at s (n + 3)) 0 (rw e at d), eq-eqb (be16_at s (n + 5)) 0 (sym f ∙ z))

    module _ (m : w ≡ 0 → ⊥) {v : ℕ} (q : v ≡ get_or s (n + 7) 0) {b : Bool} (g : b ≡ components_ok v) where
      taken : b ≡ components_ok (get_or s (n + 7) 0)
      taken = g ∙ ap components_ok q

      pub other_count : b ≡ false → refused (BadLayer (n + 7)) ≡ frame_body_of s st n next
      unfolding frame_body_of
      other_count z = simp (ne_eqb (be16_at s (n + 3)) 0 (rw e at d), ne_eqb (be16_at s (n + 5)) 0 (rw f at m), sym taken ∙ z)

      pub whole_frame : b ≡ true → Continue (framed st next (record { width = w; height = h; res = st.said.res; components = v })) ≡ frame_body_of s st n next
      unfolding frame_body_of
      whole_frame z = rw (e, f, q) (simp (ne_eqb (be16_at s (n + 3)) 0 (rw e at d), ne_eqb (be16_at s (n + 5)) 0 (rw f at m), sym taken ∙ z))

pub ruleset frame_body_laws = (rules, no_height, no_width, other_count, whole_frame)

module _ (s : List ℕ) (st : Reach) (n : ℕ) where
  pub frame_again : st.framed ≡ true → refused (BadLayer st.at) ≡ frame_of s st n
  unfolding frame_of
  frame_again f = simp f

  module _ (f : st.framed ≡ false) where
    pub frame_early : st.said.res ≡ 0 → refused (BadLayer st.at) ≡ frame_of s st n
    unfolding frame_of
    frame_early z = simp (f, eq-eqb st.said.res 0 z)

    module _ (z : st.said.res ≡ 0 → ⊥) {g : Result ℕ Fault} (y : g ≡ seg_of s n 8) where
      pub frame_bad : {x : Fault} → g ≡ Err x → refused x ≡ frame_of s st n
      unfolding frame_of
      frame_bad b = simp (f, ne_eqb st.said.res 0 z, sym y ∙ b)

      pub frame_whole : {next : ℕ} {r : Turn} → g ≡ Ok next → r ≡ frame_body_of s st n next → r ≡ frame_of s st n
      unfolding frame_of
      frame_whole b h = h ∙ simp (f, ne_eqb st.said.res 0 z, sym y ∙ b)

pub ruleset frame_laws = (room, frame_again, frame_early, frame_bad, frame_whole)

-- ---- scan_step

-- a turn that stops has its answer
pub led_stop : (s : List ℕ) {t : Turn} {w : Result (ℕ × Said) Fault} → t ≡ Break w → (main : ℕ) → Leads s main (Break w) t
unfolding Leads Answered
led_stop s {w = w} e main = subst (λ (x : Turn). Answered s main x w) (sym e) refl

module _ (s : List ℕ) (st : Reach) (n : ℕ) where
  pub scan_early : st.framed ≡ false → (main : ℕ) → Leads s main (Break (Err (BadLayer st.at))) (scan_step_of s st n)
  unfolding scan_step_of
  scan_early f = led_stop s (simp f)

  module _ (f : st.framed ≡ true) {g : Result ℕ Fault} (z : g ≡ seg_of s n 2) where
    pub scan_bad : {x : Fault} → g ≡ Err x → (main : ℕ) → Leads s main (Break (Err x)) (scan_step_of s st n)
    unfolding scan_step_of
    scan_bad b = led_stop s (simp (f, sym z ∙ b))

    module _ {from : ℕ} (b : g ≡ Ok from) {r : Option Next} (y : Shows s r (scan_of s from)) where
      pub scan_open : r ≡ None → (main : ℕ) → Leads s main (Break (Err (Short from))) (scan_step_of s st n)
      unfolding scan_step_of Shows
      scan_open e = let w : scan_of s from ≡ None = subst (λ (x : Option Next). Shows s x (scan_of s from)) e y in led_stop s (simp (f, sym z ∙ b, w))

      pub scan_whole : {d : Next} → r ≡ Some d → (main : ℕ) → Leads s main (Continue (record { st = record { at = d.place; framed = st.framed; scanned = true; said = st.said }; code = d.code; next = d.next })) (scan_step_of s st n)
      unfolding scan_step_of Leads Shows
      scan_whole {d} e main =
          let w : (scan_of s from ≡ Some d.place) × (marker_of s d.place ≡ Code d.code d.next) = subst (λ (x : Option Next). Shows s x (scan_of s from)) e y in
          (simp (f, sym z ∙ b, w.0), w.1)

pub ruleset scan_laws = (scan_early, scan_bad, scan_open, scan_whole)

-- ---- end_step
module _ (st : Reach) (n : ℕ) where
  pub end_whole : st.scanned ≡ true → Break (Ok (n, st.said)) ≡ end_of st n
  unfolding end_of
  end_whole f = simp f

  pub end_bare : st.scanned ≡ false → refused (BadLayer st.at) ≡ end_of st n
  unfolding end_of
  end_bare f = simp f

pub ruleset end_laws = (end_whole, end_bare)
