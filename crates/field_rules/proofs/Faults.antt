-- A refused table taken apart, field by field: the first is at fault, or it stands there and the others are refused behind it. And a field at fault in
-- words.
-- Assumes nothing.
use Prim.Native.Nat.{ℕ, ◌+◌, ◌-◌, ◌<◌}
use native.Mathlib.Omega.{arith}
use native.Mathlib.Nat.{add-zero}
use mathlib.Core.Path.{◌≡◌, refl, sym, ap, subst, ◌∙◌}
use mathlib.Core.Bool.{Bool, true, false, false≢true}
use mathlib.Core.List.{List, [], ◌∷◌, ◌++◌, append_assoc}
use lib.ListN.{length, length-append}
use Rattle.answers.specs.declared.Refusal.{Refusal}
use Rattle.answers.specs.declared.Refusal.TheVariants.{Short}
use Rattle.laws.proofs.Cases.{clash}
use Rattle.laws.proofs.Says.{Says, says_fails}
use Rattle.field_rules.specs.Field.{Width, widths, Field, mark, val, again, bound, put, Sized, any}
use Rattle.field_rules.specs.Stands.{Stands, at_end, marked, valued, held}
use Rattle.field_rules.specs.Fault.{Broken, cut, other, wrong, late, Faulted, BadMarked, mark_cut, mark_other, BadNumbers, numbers_cut, numbers_wrong}
use Rattle.field_rules.proofs.Laws.{length_put, end_apart, mark_apart, val_apart, again_apart, sized_one, sized_more}

-- ---- the first field at fault, and one behind it

module _ {table : List Field} {before : List ℕ} {at : ℕ} {x : Refusal} where
  pub fault_here : {row : Field} {l : List ℕ} → Broken row before at l x → Faulted (row ∷ table) before at l x
  fault_here {row} {l} b =
      record {
        early = [];
        row = row;
        later = table;
        table = refl;
        known = before;
        octets = [];
        rest = l;
        split = refl;
        stands = at_end;
        broken = subst (λ (p : ℕ). Broken row before p l x) (sym (add-zero at)) b;
      }

  fault_behind : {row : Field} (m then l : List ℕ) (n : ℕ) → n ≡ at + length m
      → ((early : List Field) (known k : List ℕ) → Stands early then known k → Stands (row ∷ early) before known (m ++ k))
      → Faulted table then n l x → Faulted (row ∷ table) before at (m ++ l) x
  fault_behind {row} m then l n e step f =
      let a = length-append m f.octets in
      let z : n + length f.octets ≡ at + length (m ++ f.octets) = omega arith in
      record {
        early = row ∷ f.early;
        row = f.row;
        later = f.later;
        table = ap (λ (r : List Field). row ∷ r) f.table;
        known = f.known;
        octets = m ++ f.octets;
        rest = f.rest;
        split = ap (λ (k : List ℕ). m ++ k) f.split ∙ sym (append_assoc m f.octets f.rest);
        stands = step f.early f.known f.octets f.stands;
        broken = subst (λ (p : ℕ). Broken f.row f.known p f.rest x) z f.broken;
      }

  pub past_mark : {m l : List ℕ} {refusal : ℕ → Refusal} → Faulted table before (at + length m) l x → Faulted (mark m refusal ∷ table) before at (m ++ l) x
  past_mark {m} {l} f = fault_behind m before l (at + length m) refl (λ early known k st. marked st) f

  pub past_again : {back : ℕ} {good : List ℕ → Bool} {refusal : ℕ → Refusal} {l : List ℕ} → good before ≡ true → Faulted table before at l x → Faulted (again back good refusal ∷ table) before at l x
  past_again {l = l} g f = fault_behind [] before l at (sym (add-zero at)) (λ early known k st. held g st) f

pub past_val : {table : List Field} {before l : List ℕ} {at : ℕ} {x : Refusal} {ws : List Width} {good : List ℕ → List ℕ → Bool} {refusal : ℕ → Refusal} (vs : List ℕ) → Sized ws vs → good before vs ≡ true
    → Faulted table (before ++ vs) (at + widths ws) l x → Faulted (val ws good refusal ∷ table) before at (put ws vs ++ l) x
past_val {before = before} {l = l} {at = at} {ws = ws} vs z g f =
    let k = length_put ws vs z in fault_behind (put ws vs) (before ++ vs) l (at + widths ws) (omega arith) (λ early known k st. valued vs z g st) f

-- ---- taken apart

pub none_at_fault : {before l : List ℕ} {at : ℕ} {x : Refusal} → Faulted [] before at l x → ⊥
none_at_fault f = no_rows f.early f.row f.later f.table
  where
    no_rows : (early : List Field) (row : Field) (later : List Field) → [] ≡ early ++ (row ∷ later) → ⊥
    no_rows [] row later e = clash cc
    no_rows (r ∷ early) row later e = clash cc

-- the fields in front of the one at fault: none, or the first and others
apart : (P : List ℕ → Type 0) (row : Field) {table : List Field} {before l : List ℕ} {at : ℕ} {x : Refusal} → Faulted (row ∷ table) before at l x → (Broken row before at l x → P l)
    → ((early later : List Field) (bad : Field) (known octets rest : List ℕ) → table ≡ early ++ (bad ∷ later) → Stands (row ∷ early) before known octets
    → Broken bad known (at + length octets) rest x → P (octets ++ rest)) → P l
apart P row {table} {before} {l} {at} {x} f here there = by f.early f.table f.stands
  where
    by : (early : List Field) → row ∷ table ≡ early ++ (f.row ∷ f.later) → Stands early before f.known f.octets → P l
    by [] e st =
        let r : f.row ≡ row = cc in
        end_apart (λ (k o : List ℕ). Broken f.row k (at + length o) f.rest x → l ≡ o ++ f.rest → P l) st
        (λ b q.
        here (subst (λ (y : Field). Broken y before at l x) r
        (subst (λ (y : List ℕ). Broken f.row before at y x) (sym q) (subst (λ (p : ℕ). Broken f.row before p f.rest x) (add-zero at) b))))
        f.broken f.split
    by (r ∷ early) e st =
        let r1 : r ≡ row = cc in
        let t1 : table ≡ early ++ (f.row ∷ f.later) = cc in
        subst P (sym f.split) (there early f.later f.row f.known f.octets f.rest t1 (subst (λ (y : Field). Stands (y ∷ early) before f.known f.octets) r1 st) f.broken)

others : {table : List Field} {x : Refusal} (at : ℕ) (early later : List Field) (bad : Field) (known then m o rest : List ℕ) (n : ℕ) → table ≡ early ++ (bad ∷ later)
    → Stands early then known o → n ≡ at + length m → Broken bad known (at + length (m ++ o)) rest x → Faulted table then n (o ++ rest) x
others {x = x} at early later bad known then m o rest n t st e b =
    let a = length-append m o in
    let z : at + length (m ++ o) ≡ n + length o = omega arith in
    record {
      early = early;
      row = bad;
      later = later;
      table = t;
      known = known;
      octets = o;
      rest = rest;
      split = refl;
      stands = st;
      broken = subst (λ (p : ℕ). Broken bad known p rest x) z b;
    }

pub fault_mark : (P : List ℕ → Type 0) {m : List ℕ} {refusal : ℕ → Refusal} {table : List Field} {before l : List ℕ} {at : ℕ} {x : Refusal}
    → Faulted (mark m refusal ∷ table) before at l x → (Broken (mark m refusal) before at l x → P l)
    → ((more : List ℕ) → Faulted table before (at + length m) more x → P (m ++ more)) → P l
fault_mark P {m} {refusal} {before = before} {at = at} {x = x} f here there =
    apart P (mark m refusal) f here λ early later bad known octets rest t st b.
    mark_apart (λ (o : List ℕ). Broken bad known (at + length o) rest x → P (o ++ rest)) st
    (λ o st1 b1. subst P (sym (append_assoc m o rest)) (there (o ++ rest) (others at early later bad known before m o rest (at + length m) t st1 refl b1))) b

pub fault_again : (P : List ℕ → Type 0) {back : ℕ} {good : List ℕ → Bool} {refusal : ℕ → Refusal} {table : List Field} {before l : List ℕ} {at : ℕ} {x : Refusal}
    → Faulted (again back good refusal ∷ table) before at l x → (Broken (again back good refusal) before at l x → P l)
    → (good before ≡ true → (more : List ℕ) → Faulted table before at more x → P more) → P l
fault_again P {back} {good} {refusal} {before = before} {at = at} {x = x} f here there =
    apart P (again back good refusal) f here λ early later bad known octets rest t st b.
    again_apart (λ (o : List ℕ). Broken bad known (at + length o) rest x → P (o ++ rest)) st
    (λ g st1 b1. there g (octets ++ rest) (others at early later bad known before [] octets rest at t st1 (sym (add-zero at)) b1)) b

pub fault_val : (P : List ℕ → Type 0) {ws : List Width} {good : List ℕ → List ℕ → Bool} {refusal : ℕ → Refusal} {table : List Field} {before l : List ℕ} {at : ℕ} {x : Refusal}
    → Faulted (val ws good refusal ∷ table) before at l x → (Broken (val ws good refusal) before at l x → P l)
    → ((vs more : List ℕ) → Sized ws vs → good before vs ≡ true → Faulted table (before ++ vs) (at + widths ws) more x → P (put ws vs ++ more)) → P l
fault_val P {ws} {good} {refusal} {before = before} {at = at} {x = x} f here there =
    apart P (val ws good refusal) f here λ early later bad known octets rest t st b.
    val_apart (λ (o : List ℕ). Broken bad known (at + length o) rest x → P (o ++ rest)) st
    (λ vs o z g st1 b1.
    let k = length_put ws vs z in
    subst P (sym (append_assoc (put ws vs) o rest)) (there vs (o ++ rest) z g (others at early later bad known (before ++ vs) (put ws vs) o rest (at + widths ws) t st1 (omega arith) b1))) b

-- a field of one number, of two, three and four
pub fault_one : (P : List ℕ → Type 0) {w : Width} {good : List ℕ → List ℕ → Bool} {refusal : ℕ → Refusal} {table : List Field} {before l : List ℕ} {at : ℕ} {x : Refusal}
    → Faulted (val (w ∷ []) good refusal ∷ table) before at l x → (Broken (val (w ∷ []) good refusal) before at l x → P l)
    → ((v : ℕ) (more : List ℕ) → v < bound w → good before (v ∷ []) ≡ true → Faulted table (before ++ (v ∷ [])) (at + widths (w ∷ [])) more x → P (put (w ∷ []) (v ∷ []) ++ more)) → P l
fault_one P {w} {good} {table = table} {before = before} {at = at} {x = x} f here there =
    fault_val P f here λ vs more z.
    sized_one (λ (us : List ℕ). good before us ≡ true → Faulted table (before ++ us) (at + widths (w ∷ [])) more x → P (put (w ∷ []) us ++ more)) w vs z λ v b. there v more b

pub fault_two : (P : List ℕ → Type 0) {a b : Width} {good : List ℕ → List ℕ → Bool} {refusal : ℕ → Refusal} {table : List Field} {before l : List ℕ} {at : ℕ} {x : Refusal}
    → Faulted (val (a ∷ b ∷ []) good refusal ∷ table) before at l x → (Broken (val (a ∷ b ∷ []) good refusal) before at l x → P l)
    → ((y z : ℕ) (more : List ℕ) → y < bound a → z < bound b → good before (y ∷ z ∷ []) ≡ true
    → Faulted table (before ++ (y ∷ z ∷ [])) (at + widths (a ∷ b ∷ [])) more x → P (put (a ∷ b ∷ []) (y ∷ z ∷ []) ++ more)) → P l
fault_two P {a} {b} {good} {table = table} {before = before} {at = at} {x = x} f here there =
    fault_val P f here λ vs more z0.
    sized_more (Q more) a (b ∷ []) vs z0 λ y us by z1.
    sized_one (λ (us : List ℕ). Q more (y ∷ us)) b us z1 λ z bz. there y z more by bz
  where
    Q : List ℕ → List ℕ → Type 0
    Q more us = good before us ≡ true → Faulted table (before ++ us) (at + widths (a ∷ b ∷ [])) more x → P (put (a ∷ b ∷ []) us ++ more)

pub fault_three : (P : List ℕ → Type 0) {a b c : Width} {good : List ℕ → List ℕ → Bool} {refusal : ℕ → Refusal} {table : List Field} {before l : List ℕ} {at : ℕ} {x : Refusal}
    → Faulted (val (a ∷ b ∷ c ∷ []) good refusal ∷ table) before at l x → (Broken (val (a ∷ b ∷ c ∷ []) good refusal) before at l x → P l)
    → ((y z w : ℕ) (more : List ℕ) → y < bound a → z < bound b → w < bound c → good before (y ∷ z ∷ w ∷ []) ≡ true
    → Faulted table (before ++ (y ∷ z ∷ w ∷ [])) (at + widths (a ∷ b ∷ c ∷ [])) more x → P (put (a ∷ b ∷ c ∷ []) (y ∷ z ∷ w ∷ []) ++ more)) → P l
fault_three P {a} {b} {c} {good} {table = table} {before = before} {at = at} {x = x} f here there =
    fault_val P f here λ vs more z0.
    sized_more (Q more) a (b ∷ c ∷ []) vs z0 λ y us by z1.
    sized_more (λ (us : List ℕ). Q more (y ∷ us)) b (c ∷ []) us z1 λ z ws bz z2.
    sized_one (λ (us : List ℕ). Q more (y ∷ z ∷ us)) c ws z2 λ w bw. there y z w more by bz bw
  where
    Q : List ℕ → List ℕ → Type 0
    Q more us = good before us ≡ true → Faulted table (before ++ us) (at + widths (a ∷ b ∷ c ∷ [])) more x → P (put (a ∷ b ∷ c ∷ []) us ++ more)

pub fault_four : (P : List ℕ → Type 0) {a b c d : Width} {good : List ℕ → List ℕ → Bool} {refusal : ℕ → Refusal} {table : List Field} {before l : List ℕ} {at : ℕ} {x : Refusal}
    → Faulted (val (a ∷ b ∷ c ∷ d ∷ []) good refusal ∷ table) before at l x → (Broken (val (a ∷ b ∷ c ∷ d ∷ []) good refusal) before at l x → P l)
    → ((y z w v : ℕ) (more : List ℕ) → y < bound a → z < bound b → w < bound c → v < bound d → good before (y ∷ z ∷ w ∷ v ∷ []) ≡ true
    → Faulted table (before ++ (y ∷ z ∷ w ∷ v ∷ [])) (at + widths (a ∷ b ∷ c ∷ d ∷ [])) more x → P (put (a ∷ b ∷ c ∷ d ∷ []) (y ∷ z ∷ w ∷ v ∷ []) ++ more)) → P l
fault_four P {a} {b} {c} {d} {good} {table = table} {before = before} {at = at} {x = x} f here there =
    fault_val P f here λ vs more z0.
    sized_more (Q more) a (b ∷ c ∷ d ∷ []) vs z0 λ y us by z1.
    sized_more (λ (us : List ℕ). Q more (y ∷ us)) b (c ∷ d ∷ []) us z1 λ z ws bz z2.
    sized_more (λ (us : List ℕ). Q more (y ∷ z ∷ us)) c (d ∷ []) ws z2 λ w ts bw z3.
    sized_one (λ (us : List ℕ). Q more (y ∷ z ∷ w ∷ us)) d ts z3 λ v bv. there y z w v more by bz bw bv
  where
    Q : List ℕ → List ℕ → Type 0
    Q more us = good before us ≡ true → Faulted table (before ++ us) (at + widths (a ∷ b ∷ c ∷ d ∷ [])) more x → P (put (a ∷ b ∷ c ∷ d ∷ []) us ++ more)

-- ---- a field at fault, in words

pub broken_mark : {m known l : List ℕ} {refusal : ℕ → Refusal} {p : ℕ} {x : Refusal} → Broken (mark m refusal) known p l x → BadMarked m refusal p l x
broken_mark (cut c) = mark_cut c
broken_mark (other y rest z d) = mark_other y rest z d

pub mark_broken : {m known l : List ℕ} {refusal : ℕ → Refusal} {p : ℕ} {x : Refusal} → BadMarked m refusal p l x → Broken (mark m refusal) known p l x
mark_broken (mark_cut c) = cut c
mark_broken (mark_other y rest z d) = other y rest z d

pub broken_numbers : {ws : List Width} {known l : List ℕ} {good : List ℕ → List ℕ → Bool} {refusal : ℕ → Refusal} {p : ℕ} {x : Refusal} (Good : List ℕ → Type 0)
    → ((vs : List ℕ) → Sized ws vs → Says (good known vs) (Good vs)) → Broken (val ws good refusal) known p l x → BadNumbers ws Good refusal p l x
broken_numbers Good says (cut c) = numbers_cut c
broken_numbers Good says (wrong vs rest z g) = numbers_wrong vs rest z (λ k. false≢true (sym g ∙ (says vs z).shown k))

pub numbers_broken : {ws : List Width} {known l : List ℕ} {good : List ℕ → List ℕ → Bool} {refusal : ℕ → Refusal} {p : ℕ} {x : Refusal} (Good : List ℕ → Type 0)
    → ((vs : List ℕ) → Sized ws vs → Says (good known vs) (Good vs)) → BadNumbers ws Good refusal p l x → Broken (val ws good refusal) known p l x
numbers_broken Good says (numbers_cut c) = cut c
numbers_broken Good says (numbers_wrong vs rest z n) = wrong vs rest z (says_fails (says vs z) n)

pub broken_again : {back : ℕ} {good : List ℕ → Bool} {refusal : ℕ → Refusal} {known l : List ℕ} {p : ℕ} {x : Refusal} → Broken (again back good refusal) known p l x
    → (good known ≡ false) × (x ≡ refusal (p - back))
broken_again (cut c) = absurd (omega arith)
broken_again (late g) = (g, refl)

-- a field without a rule can only be cut short
pub broken_any : {ws : List Width} {known l : List ℕ} {refusal : ℕ → Refusal} {p : ℕ} {x : Refusal} → Broken (val ws any refusal) known p l x → (length l < widths ws) × (x ≡ Short p)
broken_any (cut c) = (c, refl)
broken_any (wrong vs rest z g) = absurd (false≢true (sym g))
