-- A run of FF and the marker that it makes with the code after it: what the octets say of it, and what it says of the octets.
-- Assumes nothing.
use Prim.Native.Nat.{ℕ, zero, suc, ◌+◌, ◌-◌, ◌≤◌, ◌<◌}
use native.Mathlib.Omega.{arith}
use mathlib.Core.Path.{◌≡◌, refl, sym, ap, ap₂, subst, ◌∙◌}
use mathlib.Core.Logic.{◌≢◌, ⊎_elim}
use mathlib.Core.Bool.{Bool, cond}
use mathlib.Core.List.{List, [], ◌∷◌, ◌++◌, append_assoc, append-nil}
use lib.ListN.{length, get_or, drop, replicate, length-append, length-drop, length-replicate, drop_of_length-le, get_or-eq_default}
use lib.Dec.{eqb, ltb}
use borrow.Author.Tests.{eq-eqb, ne_eqb, eqb-true, eqb-false, le-ltb, lt-ltb, ltb-true, ltb-false}
use Rattle.laws.proofs.Cases.{cond_with, clash}
use Rattle.octets.specs.Octets.{Octets}
use Rattle.octets.proofs.Laws.{drop_octet}
use Rattle.octets.proofs.Runs.{run_from, run_end, end_over, end_here, end_next, Run, run_back}
use Rattle.laws.proofs.Says.{says_lt, says_else}
use Rattle.jpeg_rules.specs.declared.Marker.{Marker}
use Rattle.jpeg_rules.specs.declared.Marker.TheVariants.{Code, Missing, Cut}
use Rattle.jpeg_rules.specs.Marker.{code_from, marker_of}
use Rattle.jpeg_rules.specs.Grammar.{marker}
use Rattle.jpeg_rules.proofs.Leaves.{one_there}

-- ---- a run of FF

-- the first place from i on where another octet stands, or the end of the list
abbrev pub fill_end : List ℕ → ℕ → ℕ
fill_end s i = run_end 0xFF s i

pub marker_open : (fill c : ℕ) (r : List ℕ) → marker fill c ++ r ≡ 0xFF ∷ replicate fill 0xFF ++ (c ∷ r)
unfolding marker
marker_open fill c r = ap (λ (l : List ℕ). 0xFF ∷ l) (append_assoc (replicate fill 0xFF) (c ∷ []) r)

pub length_marker : (fill c : ℕ) → length (marker fill c) ≡ fill + 2
unfolding marker
length_marker fill c =
    let a = length-append (replicate fill 0xFF) (c ∷ []) in let b = length-replicate {A = ℕ} fill 0xFF in omega arith

-- octets FF up to another one: that is where they end
pub fill_there : (s : List ℕ) (i f c : ℕ) (r : List ℕ) → c ≢ 0xFF → drop i s ≡ replicate f 0xFF ++ (c ∷ r)
    → (fill_end s i ≡ i + f) × (i + f < length s) × (get_or s (i + f) 0 ≡ c) × (drop (i + f + 1) s ≡ r)
fill_there s i zero c r d e =
    let t = one_there s i c r e in
    let z : i + 0 ≡ i = omega arith in
    let h = t.0 in (
      end_here 0xFF s i (omega arith) (λ q. d (sym t.1 ∙ q)) ∙ sym z,
      omega arith,
      ap (λ (k : ℕ). get_or s k 0) z ∙ t.1,
      ap (λ (k : ℕ). drop (k + 1) s) z ∙ t.2,
    )
fill_there s i (suc f) c r d e =
    let t = one_there s i 0xFF (replicate f 0xFF ++ (c ∷ r)) e in
    let m = fill_there s (i + 1) f c r d t.2 in
    let z : i + 1 + f ≡ i + suc f = omega arith in
    let h = m.1 in (
      end_next 0xFF s i (omega arith) t.1 ∙ m.0 ∙ z,
      omega arith,
      ap (λ (k : ℕ). get_or s k 0) (sym z) ∙ m.2,
      ap (λ (k : ℕ). drop (k + 1) s) (sym z) ∙ m.3,
    )

-- octets FF up to the end of the list
pub fill_cut : (s : List ℕ) (i f : ℕ) → i ≤ length s → drop i s ≡ replicate f 0xFF → fill_end s i ≡ length s
fill_cut s i zero h e =
    let l = sym (length-drop i s) ∙ ap length e in
    end_over 0xFF s i (omega arith) ∙ omega arith
fill_cut s i (suc f) h e =
    let t = one_there s i 0xFF (replicate f 0xFF) e in
    let l = t.0 in
    end_next 0xFF s i (omega arith) t.1 ∙ fill_cut s (i + 1) f l t.2

-- ---- a marker

pub ff_inside : (s : List ℕ) (i : ℕ) → get_or s i 0 ≡ 0xFF → i < length s
ff_inside s i e =
    ⊎_elim (λ (h : i < length s). h)
    (λ (h : i < length s → ⊥). let z : get_or s i 0 ≡ 0 = get_or-eq_default s 0 (omega arith) in let y : 0 ≡ 0xFF = sym z ∙ e in clash cc)
    (says_else (says_lt i (length s)))

pub none_left : (s : List ℕ) (i : ℕ) → length s ≤ i → drop i s ≡ []
none_left s i h = drop_of_length-le s h

-- the code that ends a run stands at e, unless the list ends there
abbrev pub code_at : List ℕ → ℕ → Marker
code_at s e = cond (ltb e (length s)) (Code (get_or s e 0) (e + 1)) Cut

code_from_lem : (s : List ℕ) (n i : ℕ) → length s ≤ i + n → code_from (drop i s) i ≡ code_at s (run_from 0xFF n s i)
unfolding code_from run_from
code_from_lem s zero i h =
    ap (λ (l : List ℕ). code_from l i) (none_left s i (omega arith)) ∙ sym (ap (λ (b : Bool). cond b (Code (get_or s i 0) (i + 1)) Cut) (le-ltb i (length s) (omega arith)))
code_from_lem s (suc n) i h =
    ⊎_elim
    (λ (l : i < length s).
    ap (λ (l : List ℕ). code_from l i) (drop_octet s i l)
    ∙ cond_with (λ x. cond (eqb (get_or s i 0) 0xFF) (code_from (drop (i + 1) s) (i + 1)) (Code (get_or s i 0) (i + 1)) ≡ code_at s x) (eqb (get_or s i 0) 0xFF)
    (λ t. ap (λ (b : Bool). cond b (code_from (drop (i + 1) s) (i + 1)) (Code (get_or s i 0) (i + 1))) t ∙ code_from_lem s n (i + 1) (omega arith))
    (λ t.
    ap (λ (b : Bool). cond b (code_from (drop (i + 1) s) (i + 1)) (Code (get_or s i 0) (i + 1))) t
    ∙ sym (ap (λ (b : Bool). cond b (Code (get_or s i 0) (i + 1)) Cut) (lt-ltb i (length s) l))))
    (λ (l : i < length s → ⊥).
    ap (λ (l : List ℕ). code_from l i) (none_left s i (omega arith))
    ∙ sym
    (ap (λ (b : Bool). code_at s (cond b (run_from 0xFF n s (i + 1)) i)) (ne_eqb (get_or s i 0) 0xFF (λ q. let m = ff_inside s i q in absurd (l m)))
    ∙ ap (λ (b : Bool). cond b (Code (get_or s i 0) (i + 1)) Cut) (le-ltb i (length s) (omega arith))))
    (says_else (says_lt i (length s)))

pub code_opens : (s : List ℕ) (i : ℕ) → code_from (drop i s) i ≡ code_at s (fill_end s i)
unfolding run_end
code_opens s i = code_from_lem s (length s - i) i (omega arith)

-- a marker by where its run ends
pub marker_opens : (s : List ℕ) (at : ℕ)
    → marker_of s at ≡ cond (ltb (length s) (at + 2)) Cut (cond (eqb (get_or s at 0) 0xFF) (code_at s (fill_end s (at + 1))) Missing)
unfolding marker_of
marker_opens s at =
    ap (λ (m : Marker). cond (ltb (length s) (at + 2)) Cut (cond (eqb (get_or s at 0) 0xFF) m Missing)) (code_opens s (at + 1))

-- where one begins it ends after its code
pub record Begun (s : List ℕ) (at fill c : ℕ) (r : List ℕ) : Type 0 where
  pub first : get_or s at 0 ≡ 0xFF
  pub run : fill_end s (at + 1) ≡ at + 1 + fill
  pub inside : at + fill + 2 ≤ length s
  pub code : get_or s (at + 1 + fill) 0 ≡ c
  pub rest : drop (at + fill + 2) s ≡ r

pub begins_there : (s : List ℕ) (at fill c : ℕ) (r : List ℕ) → c ≢ 0xFF → drop at s ≡ marker fill c ++ r → Begun s at fill c r
begins_there s at fill c r d e =
    let t = one_there s at 0xFF (replicate fill 0xFF ++ (c ∷ r)) (e ∙ marker_open fill c r) in
    let u = fill_there s (at + 1) fill c r d t.2 in
    let l = u.1 in
    let z : at + 1 + fill + 1 ≡ at + fill + 2 = omega arith in
    record {
      first = t.1;
      run = u.0;
      inside = omega arith;
      code = u.2;
      rest = ap (λ (k : ℕ). drop k s) (sym z) ∙ u.3;
    }

pub marker_there : (s : List ℕ) (at fill c : ℕ) (r : List ℕ) → c ≢ 0xFF → drop at s ≡ marker fill c ++ r → marker_of s at ≡ Code c (at + fill + 2)
marker_there s at fill c r d e =
    let t = begins_there s at fill c r d e in
    let l = t.inside in
    let z : at + 1 + fill + 1 ≡ at + fill + 2 = omega arith in
    marker_opens s at
    ∙ simp (le-ltb (length s) (at + 2) (omega arith), eq-eqb (get_or s at 0) 0xFF t.first, t.run, lt-ltb (at + 1 + fill) (length s) (omega arith), t.code, z) refl

-- a run that the list cuts
pub marker_cut : (s : List ℕ) (at fill : ℕ) → drop at s ≡ 0xFF ∷ replicate fill 0xFF → marker_of s at ≡ Cut
marker_cut s at fill e =
    let t = one_there s at 0xFF (replicate fill 0xFF) e in
    let h = t.0 in
    marker_opens s at
    ∙ cond_with (λ x. x ≡ Cut) (ltb (length s) (at + 2)) (λ l. refl) λ l.
    simp (eq-eqb (get_or s at 0) 0xFF t.1, fill_cut s (at + 1) fill h t.2, le-ltb (length s) (length s) (omega arith)) refl

pub record Marked (s : List ℕ) (at c n : ℕ) : Type 0 where
  pub fill : ℕ
  pub other : c ≢ 0xFF
  pub ends : n ≡ at + fill + 2
  pub inside : n ≤ length s
  pub stands : drop at s ≡ marker fill c ++ drop n s

module _ (s : List ℕ) (at : ℕ) (h : at < length s) (ff : get_or s at 0 ≡ 0xFF) where
  run_stands : drop at s ≡ 0xFF ∷ replicate (fill_end s (at + 1) - (at + 1)) 0xFF ++ drop (fill_end s (at + 1)) s
  run_stands =
      drop_octet s at (omega arith) ∙ ap₂ (λ (x : ℕ) (l : List ℕ). x ∷ l) ff (run_back 0xFF s (at + 1) (omega arith)).stands

  pub run_marked : (e : ℕ) → e ≡ fill_end s (at + 1) → e < length s → Marked s at (get_or s e 0) (e + 1)
  run_marked e q l =
      let b = subst (Run 0xFF s (at + 1)) (sym q) (run_back 0xFF s (at + 1) (omega arith)) in
      let a = b.after in
      let f : ℕ = e - (at + 1) in
      record {
        fill = f;
        other = b.other l;
        ends = omega arith;
        inside = omega arith;
        stands =
            run_stands ∙ ap (λ (k : ℕ). 0xFF ∷ replicate (k - (at + 1)) 0xFF ++ drop k s) (sym q)
            ∙ ap (λ (x : List ℕ). 0xFF ∷ replicate f 0xFF ++ x) (drop_octet s e l) ∙ sym (marker_open f (get_or s e 0) (drop (e + 1) s));
      }

  pub run_cut : length s ≤ fill_end s (at + 1) → drop at s ≡ 0xFF ∷ replicate (fill_end s (at + 1) - (at + 1)) 0xFF
  run_cut l =
      run_stands
      ∙ ap (λ (x : List ℕ). 0xFF ∷ replicate (fill_end s (at + 1) - (at + 1)) 0xFF ++ x) (drop_of_length-le s l)
      ∙ ap (λ (x : List ℕ). 0xFF ∷ x) (append-nil (replicate (fill_end s (at + 1) - (at + 1)) 0xFF))

-- what stands where a marker is due, by cases: too few octets, no FF, a run that the list cuts, a run and its code
pub marker_by : (s : List ℕ) (at : ℕ) (P : Marker → Type 0) → (length s < at + 2 → P Cut) → (at + 2 ≤ length s → get_or s at 0 ≢ 0xFF → P Missing)
    → (at + 2 ≤ length s → get_or s at 0 ≡ 0xFF → length s ≤ fill_end s (at + 1) → P Cut)
    → (at + 2 ≤ length s → get_or s at 0 ≡ 0xFF → fill_end s (at + 1) < length s → P (Code (get_or s (fill_end s (at + 1)) 0) (fill_end s (at + 1) + 1)))
    → P (marker_of s at)
marker_by s at P few stray cut code =
    subst P (sym (marker_opens s at))
    (cond_with P (ltb (length s) (at + 2)) (λ l. few (ltb-true (length s) (at + 2) l)) λ l.
    let h = ltb-false (length s) (at + 2) l in
    cond_with P (eqb (get_or s at 0) 0xFF)
    (λ f.
    let ff = eqb-true (get_or s at 0) 0xFF f in
    cond_with P (ltb (fill_end s (at + 1)) (length s)) (λ g. code h ff (ltb-true (fill_end s (at + 1)) (length s) g))
    (λ g. cut h ff (ltb-false (fill_end s (at + 1)) (length s) g)))
    (λ f. stray h (eqb-false (get_or s at 0) 0xFF f)))

pub marker_back : (s : List ℕ) (at c n : ℕ) → marker_of s at ≡ Code c n → Marked s at c n
marker_back s at c n =
    marker_by s at (λ x. x ≡ Code c n → Marked s at c n) (λ l e. clash cc) (λ h f e. clash cc) (λ h f l e. clash cc)
    (λ h f l e.
    let a : get_or s (fill_end s (at + 1)) 0 ≡ c = cc in
    let b : fill_end s (at + 1) + 1 ≡ n = cc in
    subst (Marked s at c) b (subst (λ (x : ℕ). Marked s at x (fill_end s (at + 1) + 1)) a (run_marked s at (omega arith) f (fill_end s (at + 1)) refl l)))

-- its code is one of the octets
pub code_octet : (s : List ℕ) → Octets s → (at c n : ℕ) → marker_of s at ≡ Code c n → c < 256
code_octet s o at c n =
    marker_by s at (λ x. x ≡ Code c n → c < 256) (λ l e. clash cc) (λ h f e. clash cc) (λ h f l e. clash cc)
    (λ h f l e. let a : get_or s (fill_end s (at + 1)) 0 ≡ c = cc in subst (λ (x : ℕ). x < 256) a (o (fill_end s (at + 1))))

-- where the run ends, from its first FF on
pub fill_marked : (s : List ℕ) (at c n : ℕ) → Marked s at c n → fill_end s at + 1 ≡ n
fill_marked s at c n k =
    let t = fill_there s at (suc k.fill) c (drop n s) k.other (k.stands ∙ marker_open k.fill c (drop n s)) in
    let a = t.0 in
    let b = k.ends in
    omega arith

pub marker_is : (s : List ℕ) (at c n : ℕ) → Marked s at c n → marker_of s at ≡ Code c n
marker_is s at c n k = marker_there s at k.fill c (drop n s) k.other k.stands ∙ ap (Code c) (sym k.ends)
