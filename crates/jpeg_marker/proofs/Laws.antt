-- One law for each way out of the functions: its premises are what is known there.
-- Assumes nothing.
use mathlib.Core.Path.{◌≡◌, sym, ◌∙◌, ap}
use mathlib.Core.Bool.{Bool, cond}
use mathlib.Core.Logic.{inl, inr}
use mathlib.Core.List.{List, [], ◌∷◌}
use Prim.Native.Nat.{ℕ, ◌+◌, ◌-◌, ◌≤◌, ◌<◌}
use native.Mathlib.Omega.{arith}
use lib.ListN.{length, get_or, drop}
use lib.Dec.{eqb}
use types.Run.{OneOf}
use borrow.Author.Tests.{eq-eqb, ne_eqb, lt-ltb, le-ltb}
use borrow.Author.Rules.{rules}
use Rattle.octets.proofs.Laws.{drop_octet}
use Rattle.jpeg_rules.specs.declared.Class.TheVariants.{Frame, Wrong, Segment}
use Rattle.jpeg_rules.specs.declared.Marker.{Marker}
use Rattle.jpeg_rules.specs.declared.Marker.TheVariants.{Code, Missing, Cut}
use Rattle.jpeg_rules.specs.Marker.{class_of, code_from, marker_of}
use Rattle.jpeg_rules.proofs.Codes.{coded_class, class_low, class_restart, class_rest}
use Rattle.jpeg_rules.proofs.Runs.{fill_end, code_at, code_opens}

-- ---- class_of: ranges, after the single codes of all arms

module _ (c : ℕ) (alone : c ≡ 0x01 → ⊥) (segments : OneOf (0xC4 ∷ 0xC8 ∷ 0xCC ∷ []) c → ⊥) (scan : c ≡ 0xDA → ⊥) (end : c ≡ 0xD9 → ⊥)
    (wrong : OneOf (0x00 ∷ 0xFF ∷ []) c → ⊥) where
  pub range_low : c < 0xC0 → Wrong ≡ class_of c
  range_low h = sym (class_low c alone (omega arith))

  pub range_frame : 0xC0 ≤ c → c < 0xD0 → Frame ≡ class_of c
  range_frame l h = sym (coded_class c Frame (l, omega arith, λ e. segments (inl e), λ e. segments (inr (inl e)), λ e. segments (inr (inr e))))

  pub range_restart : 0xD0 ≤ c → c < 0xD9 → Wrong ≡ class_of c
  range_restart l h = sym (class_restart c l (omega arith))

  pub range_rest : 0xD9 ≤ c → Segment ≡ class_of c
  range_rest l = sym (class_rest c l end scan (λ e. wrong (inr e)))

pub ruleset ranges = (range_low, range_frame, range_restart, range_rest)

-- ---- marker_behind

module _ (s : List ℕ) (i : ℕ) {e : ℕ} (q : e ≡ fill_end s i) where
  pub behind_code : e < length s → Code (get_or s e 0) (e + 1) ≡ code_from (drop i s) i
  behind_code l =
      sym
      (code_opens s i ∙ ap (code_at s) (sym q) ∙ ap (λ (b : Bool). cond b (Code (get_or s e 0) (e + 1)) Cut) (lt-ltb e (length s) l))

  pub behind_cut : length s ≤ e → Cut ≡ code_from (drop i s) i
  behind_cut l =
      sym (code_opens s i ∙ ap (code_at s) (sym q) ∙ ap (λ (b : Bool). cond b (Code (get_or s e 0) (e + 1)) Cut) (le-ltb e (length s) l))

pub ruleset behind = (rules, behind_code, behind_cut)

-- ---- marker_at

module _ (s : List ℕ) (at : ℕ) where
  pub mark_past : length s ≤ at → Cut ≡ marker_of s at
  unfolding marker_of
  mark_past h = simp (lt-ltb (length s) (at + 2) (omega arith))

  pub mark_cut : length s - at < 2 → Cut ≡ marker_of s at
  unfolding marker_of
  mark_cut h = simp (lt-ltb (length s) (at + 2) (omega arith))

  module _ (l : 2 ≤ length s - at) where
    pub mark_missing : (get_or s at 0 ≡ 0xFF → ⊥) → Missing ≡ marker_of s at
    unfolding marker_of
    mark_missing h = simp (le-ltb (length s) (at + 2) (omega arith), ne_eqb (get_or s at 0) 0xFF h)

    module _ (h : get_or s at 0 ≡ 0xFF) where
      mark_run : marker_of s at ≡ code_from (drop (at + 1) s) (at + 1)
      unfolding marker_of
      mark_run = simp (le-ltb (length s) (at + 2) (omega arith), eq-eqb (get_or s at 0) 0xFF h)

      mark_next : marker_of s at ≡ cond (eqb (get_or s (at + 1) 0) 0xFF) (code_from (drop (at + 2) s) (at + 2)) (Code (get_or s (at + 1) 0) (at + 2))
      unfolding code_from
      mark_next =
          let z : at + 1 + 1 ≡ at + 2 = omega arith in
          mark_run
          ∙ ap (λ (r : List ℕ). code_from r (at + 1)) (drop_octet s (at + 1) (omega arith))
          ∙ ap (λ (k : ℕ). cond (eqb (get_or s (at + 1) 0) 0xFF) (code_from (drop k s) k) (Code (get_or s (at + 1) 0) k)) z

      pub mark_code : (get_or s (at + 1) 0 ≡ 0xFF → ⊥) → Code (get_or s (at + 1) 0) (at + 2) ≡ marker_of s at
      mark_code n =
          sym
          (mark_next
          ∙ ap (λ (b : Bool). cond b (code_from (drop (at + 2) s) (at + 2)) (Code (get_or s (at + 1) 0) (at + 2))) (ne_eqb (get_or s (at + 1) 0) 0xFF n))

      pub mark_behind : {r : Marker} → get_or s (at + 1) 0 ≡ 0xFF → r ≡ code_from (drop (at + 2) s) (at + 2) → r ≡ marker_of s at
      mark_behind e q =
          q
          ∙ sym
          (mark_next
          ∙ ap (λ (b : Bool). cond b (code_from (drop (at + 2) s) (at + 2)) (Code (get_or s (at + 1) 0) (at + 2))) (eq-eqb (get_or s (at + 1) 0) 0xFF e))

pub ruleset marking = (rules, mark_past, mark_cut, mark_missing, mark_code, mark_behind)
