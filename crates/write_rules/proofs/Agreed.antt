-- The tests of one record and the sentences about it say the same.
-- Assumes nothing.
use Prim.Native.Nat.{ℕ, ◌+◌, ◌-◌, ◌≤◌, ◌<◌}
use native.Mathlib.Omega.{arith}
use mathlib.Core.Path.{◌≡◌, refl, sym, ap, ap₂, subst, ◌∙◌}
use mathlib.Core.Logic.{◌⊎◌}
use mathlib.Core.Bool.{Bool, true, false, cond, false≢true}
use mathlib.Core.List.{List, [], append-nil}
use lib.ListN.{length, drop, length-drop}
use lib.Seq.{length-take-le, take_all}
use lib.Dec.{ltb}
use borrow.Author.Tests.{ltb-true, ltb-false}
use Rattle.octets.specs.Octets.{Octets}
use Rattle.octets.proofs.Laws.{octets_take, octets_drop}
use Rattle.laws.proofs.Cases.{cond_with, clash}
use Rattle.laws.proofs.Says.{Says, says_eq, says_true, says_false, says_and, says_or, says_as}
use Rattle.answers.specs.declared.Refusal.TheVariants.{Short, Mismatch}
use Rattle.field_rules.specs.Field.{Res, ok, no}
use Rattle.segment_rules.specs.declared.Mode.{Mode}
use Rattle.sheet_rules.specs.declared.Record.{Record}
use Rattle.sheet_rules.specs.Sentences.{Coded}
use Rattle.sheet_rules.proofs.New.{says_coded}
use Rattle.jpeg_rules.specs.Said.{record_said}
use Rattle.jpeg_rules.specs.declared.Said.{Said}
use Rattle.std.specs.Prelude.{Result, Ok, Err}
use Rattle.jpeg_rules.specs.declared.Fault.{Fault}
use Rattle.jpeg_rules.specs.Grammar.{Layer}
use Rattle.jpeg_rules.specs.Walk.{walk_of}
use Rattle.jpeg_rules.proofs.There.{layer_walk}
use Rattle.jpeg_rules.proofs.Theorems.{walk_exactly}
use Rattle.write_rules.specs.declared.Tally.{Tally}
use Rattle.write_rules.specs.Layer.{layer_octets, ends_as, agrees}
use Rattle.write_rules.specs.Writing.{counted, matches, record_step}

-- a choice between two tests
says_cond : {a b c : Bool} {P Q R : Type 0} → Says a P → Says b Q → Says c R → Says (cond a b c) ((P → Q) × ((P → ⊥) → R))
says_cond {a = true} p q r = record { told = λ e. (λ x. q.told e, λ x. absurd (x (p.told refl))); shown = λ k. q.shown (k.0 (p.told refl)) }
says_cond {a = false} p q r =
    record { told = λ e. (λ x. absurd (false≢true (p.shown x)), λ x. r.told e); shown = λ k. r.shown (k.1 (λ x. false≢true (p.shown x))) }

-- ---- agreement

ends_said : (n m : ℕ) (a b : Said) → ◌≡◌ {A = Result (ℕ × Said) Fault} (Ok (n, a)) (Ok (m, b)) → (n ≡ m) × (a ≡ b)
ends_said n m a b e =
    let p : (n, a) ≡ (m, b) = cc in (ap (λ (w : ℕ × Said). w.0) p, ap (λ (w : ℕ × Said). w.1) p)

says_ends : (x : Result (ℕ × Said) Fault) (r : Record) → Says (ends_as x r) (x ≡ Ok (r.len, record_said r))
says_ends (Ok (n, said)) r =
    says_as
    (says_and (says_and (says_and (says_and (says_eq n r.len) (says_eq said.width r.width)) (says_eq said.height r.height)) (says_eq said.res r.res))
    (says_eq said.components (record_said r).components))
    (λ k. ap₂ (λ (n : ℕ) (a : Said). Ok (n, a)) k.0.0.0.0 (λ i. record { width = k.0.0.0.1 i; height = k.0.0.1 i; res = k.0.1 i; components = k.1 i }))
    (λ e.
    let k = ends_said n r.len said (record_said r) e in
    ((((k.0, ap (λ (x : Said). x.width) k.1), ap (λ (x : Said). x.height) k.1), ap (λ (x : Said). x.res) k.1), ap (λ (x : Said). x.components) k.1))
says_ends (Err f) r = says_as says_false (λ k. absurd k) (λ e. clash cc)

module _ (d : List ℕ) (o : Octets d) (r : Record) (h : r.start + r.len ≤ length d) where
  pub length_data : length (layer_octets d r) ≡ r.len
  length_data = length-take-le r.len (drop r.start d) (let l = length-drop r.start d in omega arith)

  -- the walk of a record's data ends as the record says exactly if they are such a layer
  pub says_agrees : (main : ℕ) → Says (agrees d main r) (Layer main (layer_octets d r) (record_said r))
  unfolding agrees
  says_agrees main = says_as (says_ends (walk_of (layer_octets d r) 0 main) r) to back
    where
      to : walk_of (layer_octets d r) 0 main ≡ Ok (r.len, record_said r) → Layer main (layer_octets d r) (record_said r)
      to e =
          let y = (walk_exactly (layer_octets d r) (octets_take r.len (drop r.start d) (octets_drop r.start d o)) 0 main r.len (record_said r)).0 e in
          let n = length_data in
          subst (λ (l : List ℕ). Layer main l (record_said r)) (take_all (r.len - 0) (layer_octets d r) (omega arith)) y.layer

      back : Layer main (layer_octets d r) (record_said r) → walk_of (layer_octets d r) 0 main ≡ Ok (r.len, record_said r)
      back y =
          let n = length_data in
          let z : 0 + length (layer_octets d r) ≡ r.len = omega arith in
          layer_walk (layer_octets d r) 0 main (layer_octets d r) [] (record_said r) y (sym (append-nil (layer_octets d r)))
          ∙ ap (λ (k : ℕ). Ok (k, record_said r)) z

  -- what is asked of a record
  abbrev pub Meets : ℕ → Tally → Type 0
  Meets main t =
      Coded r → (r.layer ≡ 2 → (t.mask ≡ 0) ⊎ (t.mask ≡ r.coder)) × ((r.layer ≡ 2 → ⊥) → Layer main (layer_octets d r) (record_said r))

  pub says_matches : (main : ℕ) (t : Tally) → Says (matches d main t r) (Meets main t)
  unfolding matches
  says_matches main t =
      says_as
      (says_cond (says_coded r) (says_cond (says_eq r.layer 2) (says_or (says_eq t.mask 0) (says_eq t.mask r.coder)) (says_agrees main)) (says_true true))
      (λ k. k.0) (λ k. (k, λ x. refl))

-- ---- one record

pub step_cases : (P : Res Tally → Type 0) (mode : Mode) (d : List ℕ) (main : ℕ) (t : Tally) (i : ℕ) (r : Record) → (length d < r.start + r.len → P (no (Short i)))
    → (r.start + r.len ≤ length d → matches d main t r ≡ true → P (ok (counted mode t r) (i + 1)))
    → (r.start + r.len ≤ length d → matches d main t r ≡ false → P (no (Mismatch i))) → P (record_step mode d main t i r)
unfolding record_step
step_cases P mode d main t i r short on off =
    cond_with P (ltb (length d) (r.start + r.len)) (λ e. short (ltb-true (length d) (r.start + r.len) e)) λ e.
    cond_with P (matches d main t r) (λ m. on (ltb-false (length d) (r.start + r.len) e) m) (λ m. off (ltb-false (length d) (r.start + r.len) e) m)

-- a record that passes is counted
pub step_next : (mode : Mode) (d : List ℕ) (main : ℕ) (t : Tally) (i : ℕ) (r : Record) (v : Tally) (n : ℕ) → record_step mode d main t i r ≡ ok v n → n ≡ i + 1
step_next mode d main t i r v n =
    step_cases (λ x. x ≡ ok v n → n ≡ i + 1) mode d main t i r (λ h q. clash cc) (λ h m q. let z : i + 1 ≡ n = cc in sym z) (λ h m q. clash cc)
