-- A table is refused exactly as `Faulted` says.
-- Assumes nothing.
use Prim.Native.Nat.{ℕ, ◌+◌, ◌-◌, ◌≤◌, ◌<◌}
use native.Mathlib.Omega.{arith}
use mathlib.Core.Path.{◌≡◌, refl, sym, ap, ap₂, subst, ◌∙◌}
use mathlib.Core.Logic.{◌↔◌, ⊎_elim, ◌≢◌}
use mathlib.Core.Bool.{true, false, false≢true}
use mathlib.Core.List.{List, [], ◌∷◌, ◌++◌}
use lib.ListN.{length, take, drop, length-append, length-drop, take-append-drop}
use lib.Seq.{length-take-le}
use lib.Dec.{ltb}
use borrow.Author.Tests.{le-ltb, ltb-false, ltb-true, lt-ltb}
use Rattle.answers.specs.declared.Refusal.{Refusal}
use Rattle.answers.specs.declared.Refusal.TheVariants.{Short}
use Rattle.laws.proofs.Cases.{cond_with, clash, bool_else}
use Rattle.octets.specs.Octets.{Octets, stands_at}
use Rattle.octets.proofs.Laws.{drop_next, stands_there, stands_split}
use Rattle.field_rules.specs.Field.{Res, no, widths, numbers, Field, mark, val, again, fields, put}
use Rattle.field_rules.proofs.Laws.{length_put, numbers_there, numbers_stand, fields_past}
use Rattle.field_rules.proofs.Faults.{fault_here, past_mark, past_val, past_again}
use Rattle.field_rules.specs.Fault.{size_of, Broken, cut, other, wrong, late, Faulted}

-- ---- a broken row in front is refused

length_rest : (s l r : List ℕ) (at : ℕ) → at ≤ length s → drop at s ≡ l ++ r → at + length l ≤ length s
length_rest s l r at h e =
    let n : length s - at ≡ length l + length r = sym (length-drop at s) ∙ ap length e ∙ length-append l r in omega arith

pub same_front : (a b c d : List ℕ) → length a ≡ length b → a ++ c ≡ b ++ d → a ≡ b
same_front [] [] c d h e = refl
same_front [] (y ∷ b) c d h e = absurd (omega arith)
same_front (x ∷ a) [] c d h e = absurd (omega arith)
same_front (x ∷ a) (y ∷ b) c d h e =
    let p : x ≡ y = cc in
    let q : a ++ c ≡ b ++ d = cc in
    ap₂ (λ (u : ℕ) (v : List ℕ). u ∷ v) p (same_front a b c d (omega arith) q)

-- a mark that stands there is the one that is there
pub mark_other : (s : List ℕ) (at : ℕ) (m x rest : List ℕ) → drop at s ≡ x ++ rest → length x ≡ length m → x ≢ m → stands_at s at m ≡ false
mark_other s at m x rest e h d =
    ⊎_elim (λ (t : stands_at s at m ≡ true). absurd (d (same_front x m rest (drop (at + length m) s) h (sym e ∙ (stands_split s at m t).1)))) (λ (f : stands_at s at m ≡ false). f)
    (bool_else (stands_at s at m))

module _ (rows : List Field) (s : List ℕ) where
  pub broken_refused : {row : Field} {known l : List ℕ} {p : ℕ} {x : Refusal} → Broken row known p l x → p ≤ length s → drop p s ≡ l → fields (row ∷ rows) known s p ≡ no x
  unfolding fields
  broken_refused {row = mark m refusal} {p = p} (cut c) h e =
      let n = length-drop p s in let q = ap length e in simp (lt-ltb (length s) (p + length m) (omega arith)) refl
  broken_refused {row = val ws good refusal} {p = p} (cut c) h e =
      let n = length-drop p s in let q = ap length e in simp (lt-ltb (length s) (p + widths ws) (omega arith)) refl
  broken_refused {row = again back good refusal} (cut c) h e = absurd (omega arith)
  broken_refused {p = p} (other {m = m} x rest z d) h e =
      let a = length_rest s x rest p h e in
      simp (le-ltb (length s) (p + length m) (omega arith), mark_other s p m x rest e z d)
  broken_refused {known = known} {p = p} (wrong {ws = ws} vs rest z g) h e =
      let a = length_rest s (put ws vs) rest p h e in
      let k = length_put ws vs z in
      simp (le-ltb (length s) (p + widths ws) (omega arith), numbers_there ws vs z s rest p e, g)
  broken_refused (late g) h e = simp g

pub faulted_refused : {rows : List Field} {before : List ℕ} {at : ℕ} {x : Refusal} (s : List ℕ) → at ≤ length s → Faulted rows before at (drop at s) x → fields rows before s at ≡ no x
faulted_refused {before = before} {at = at} s h f =
    ap (λ (r : List Field). fields r before s at) f.table
    ∙ fields_past f.stands (f.row ∷ f.later) s f.rest at h f.split
    ∙ broken_refused f.later s f.broken (length_rest s f.octets f.rest at h f.split) (drop_next s f.octets f.rest at f.split)

-- ---- and a refused table has a broken row behind rows that stand

module _ (s : List ℕ) (o : Octets s) (x : Refusal) where
  placed : {rows : List Field} {before l : List ℕ} {at : ℕ} → drop at s ≡ l → Faulted rows before at l x → Faulted rows before at (drop at s) x
  placed {rows} {before} {at = at} d f = subst (λ (k : List ℕ). Faulted rows before at k x) (sym d) f

  cut_here : {row : Field} {before : List ℕ} {at : ℕ} → at ≤ length s → length s < at + size_of row → ◌≡◌ {A = Res (List ℕ)} (no (Short at)) (no x) → Broken row before at (drop at s) x
  cut_here {row} {before} {at} h c e =
      let n = length-drop at s in
      let z : Short at ≡ x = cc in
      subst (Broken row before at (drop at s)) z (cut (omega arith))

  pub refused_faulted : (rows : List Field) (before : List ℕ) (at : ℕ) → at ≤ length s → fields rows before s at ≡ no x → Faulted rows before at (drop at s) x
  unfolding fields
  refused_faulted [] before at h = λ e. clash cc
  refused_faulted (mark m refusal ∷ rows) before at h =
      cond_with (λ y. y ≡ no x → Faulted (mark m refusal ∷ rows) before at (drop at s) x) (ltb (length s) (at + length m))
      (λ t e. fault_here (cut_here h (ltb-true (length s) (at + length m) t) e)) λ t.
      let g = ltb-false (length s) (at + length m) t in
      let len : length (take (length m) (drop at s)) ≡ length m = length-take-le (length m) (drop at s) (let u = length-drop at s in omega arith) in
      cond_with (λ y. y ≡ no x → Faulted (mark m refusal ∷ rows) before at (drop at s) x) (stands_at s at m)
      (λ u e. placed (stands_split s at m u).1 (past_mark (refused_faulted rows before (at + length m) g e)))
      (λ u e.
      let z : refusal at ≡ x = cc in
      fault_here (subst (Broken (mark m refusal) before at (drop at s)) z
      (subst (λ (l : List ℕ). Broken (mark m refusal) before at l (refusal at)) (take-append-drop (length m) (drop at s))
      (other (take (length m) (drop at s)) (drop (length m) (drop at s)) len
      (λ q. false≢true (sym u ∙ stands_there s at m (drop (length m) (drop at s)) h (sym (take-append-drop (length m) (drop at s)) ∙ ap (λ (l : List ℕ). l ++ drop (length m) (drop at s)) q)))))))
  refused_faulted (val ws good refusal ∷ rows) before at h =
      cond_with (λ y. y ≡ no x → Faulted (val ws good refusal ∷ rows) before at (drop at s) x) (ltb (length s) (at + widths ws))
      (λ t e. fault_here (cut_here h (ltb-true (length s) (at + widths ws) t) e)) λ t.
      let g = ltb-false (length s) (at + widths ws) t in
      let d = numbers_stand ws s at o g in
      let k = length_put ws (numbers ws s at) d.1 in
      cond_with (λ y. y ≡ no x → Faulted (val ws good refusal ∷ rows) before at (drop at s) x) (good before (numbers ws s at))
      (λ u e. placed d.0 (past_val (numbers ws s at) d.1 u (refused_faulted rows (before ++ numbers ws s at) (at + widths ws) g e)))
      (λ u e.
      let z : refusal at ≡ x = cc in
      fault_here (subst (Broken (val ws good refusal) before at (drop at s)) z
      (subst (λ (l : List ℕ). Broken (val ws good refusal) before at l (refusal at)) (sym d.0)
      (wrong (numbers ws s at) (drop (at + widths ws) s) d.1 u))))
  refused_faulted (again back good refusal ∷ rows) before at h =
      cond_with (λ y. y ≡ no x → Faulted (again back good refusal ∷ rows) before at (drop at s) x) (good before)
      (λ u e. past_again u (refused_faulted rows before at h e))
      (λ u e. let z : refusal (at - back) ≡ x = cc in fault_here (subst (Broken (again back good refusal) before at (drop at s)) z (late u)))

-- ---- the theorem

pub fields_refused_exactly : (rows : List Field) (before s : List ℕ) (at : ℕ) (x : Refusal) → Octets s → at ≤ length s
    → fields rows before s at ≡ no x ↔ Faulted rows before at (drop at s) x
fields_refused_exactly rows before s at x o h = (refused_faulted s o x rows before at h, faulted_refused s h)
