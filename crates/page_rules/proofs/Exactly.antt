-- A page is read with these records exactly if it is a page of the grammar, and refused with an answer exactly if its octets are bad so.
-- Assumes nothing.
use Prim.Native.Nat.{ℕ, zero, suc, ◌+◌, ◌≤◌, ◌<◌}
use native.Mathlib.Omega.{arith}
use native.Mathlib.Nat.{add-zero}
use mathlib.Core.Path.{◌≡◌, refl, sym, ap, ap₂, subst, ◌∙◌}
use mathlib.Core.Logic.{◌≢◌}
use mathlib.Core.List.{List, [], ◌∷◌, ◌++◌, append_assoc, append-nil}
use lib.ListN.{length, drop, length-append, length-drop, replicate, length-replicate}
use lib.Dec.{eqb}
use borrow.Author.Tests.{eqb-true, eqb-false, ne_eqb}
use Rattle.octets.specs.Octets.{Octets}
use Rattle.laws.proofs.Cases.{cond_with, clash}
use Rattle.answers.specs.declared.Refusal.{Refusal}
use Rattle.answers.specs.declared.Refusal.TheVariants.{BadMark, Trailing}
use Rattle.sheet_rules.specs.declared.Record.{Record}
use Rattle.field_rules.specs.Field.{ok, no, bind, fields}
use Rattle.field_rules.specs.Stands.{Stands, at_end, marked}
use Rattle.field_rules.specs.Fault.{BadMarked}
use Rattle.field_rules.specs.Part.{Exact, Both, BadThen, bad_first, bad_later}
use Rattle.field_rules.proofs.Laws.{mark_apart, end_apart}
use Rattle.field_rules.proofs.Parts.{exact_as, exact_then, exact_ok, exact_fields, Nothing, nothing}
use Rattle.field_rules.proofs.Faults.{fault_here, fault_mark, none_at_fault, broken_mark, mark_broken}
use Rattle.start_rules.specs.declared.Head.{Head}
use Rattle.start_rules.specs.Grammar.{start_of, GoodHead, Start, start}
use Rattle.start_rules.specs.Reading.{start_read}
use Rattle.start_rules.specs.Faults.{BadStart}
use Rattle.start_rules.proofs.Start.{length_start}
use Rattle.start_rules.proofs.Exactly.{start_exact}
use Rattle.body_rules.specs.Body.{end_mark, BadBody, body_from}
use Rattle.body_rules.proofs.Body.{body_turns, turns_body, After, after, body_exact}
use Rattle.page_rules.specs.Grammar.{Optional, Stripe, Page}
use Rattle.page_rules.specs.Reading.{item_of, zeros_of, end_table, page_of}
use Rattle.page_rules.specs.Faults.{BadItem, BodyOf, BadPage, in_start, in_body, in_end, trailing}
use Rattle.page_rules.proofs.Items.{item_exact, item_opens}

-- ---- zeros to the end

-- so many, up to a place
pub data Zeros (size at : ℕ) : List ℕ → ℕ → Type 0 where
  zeros : (n : ℕ) → at + n ≡ size → Zeros size at (replicate n 0) 0

pub data NoZeros (at : ℕ) : List ℕ → Refusal → Type 0 where
  no_zero : (n y : ℕ) (rest : List ℕ) → y ≢ 0 → NoZeros at (replicate n 0 ++ (y ∷ rest)) (Trailing (at + n))

zeros_there : (n at : ℕ) → zeros_of (replicate n 0) at ≡ ok 0 (at + n)
unfolding zeros_of
zeros_there zero at = ap (ok 0) (sym (add-zero at))
zeros_there (suc n) at = let z : suc at + n ≡ at + suc n = omega arith in zeros_there n (suc at) ∙ ap (ok 0) z

no_zero_there : (n y : ℕ) (rest : List ℕ) (at : ℕ) → y ≢ 0 → zeros_of (replicate n 0 ++ (y ∷ rest)) at ≡ no (Trailing (at + n))
unfolding zeros_of
no_zero_there zero y rest at d = simp (ne_eqb y 0 d) (ap (λ (p : ℕ). no (Trailing p)) (sym (add-zero at)))
no_zero_there (suc n) y rest at d = let z : suc at + n ≡ at + suc n = omega arith in no_zero_there n y rest (suc at) d ∙ ap (λ (p : ℕ). no (Trailing p)) z

zeros_back : (l : List ℕ) (at z n : ℕ) → zeros_of l at ≡ ok z n → (l ≡ replicate (length l) 0) × (n ≡ at + length l) × (z ≡ 0)
unfolding zeros_of
zeros_back [] at z n = λ e. let p : at ≡ n = cc in let q : 0 ≡ z = cc in (refl, omega arith, sym q)
zeros_back (x ∷ l) at z n =
    cond_with (λ y. y ≡ ok z n → (x ∷ l ≡ 0 ∷ replicate (length l) 0) × (n ≡ at + suc (length l)) × (z ≡ 0)) (eqb x 0)
    (λ t e. let k = zeros_back l (suc at) z n e in let k1 = k.1 in (ap₂ (λ (a : ℕ) (b : List ℕ). a ∷ b) (eqb-true x 0 t) k.0, omega arith, k.2))
    (λ t e. clash cc)

no_zeros_back : (l : List ℕ) (at : ℕ) (x : Refusal) → zeros_of l at ≡ no x → NoZeros at l x
unfolding zeros_of
no_zeros_back [] at x = λ e. clash cc
no_zeros_back (y ∷ l) at x =
    cond_with (λ r. r ≡ no x → NoZeros at (y ∷ l) x) (eqb y 0)
    (λ t e. subst (λ (v : ℕ). NoZeros at (v ∷ l) x) (sym (eqb-true y 0 t)) (by (no_zeros_back l (suc at) x e)))
    (λ t e. let z : Trailing at ≡ x = cc in subst (NoZeros at (y ∷ l)) (ap Trailing (add-zero at) ∙ z) (no_zero 0 y l (eqb-false y 0 t)))
  where
    by : {m : List ℕ} {w : Refusal} → NoZeros (suc at) m w → NoZeros at (0 ∷ m) w
    by (no_zero n v rest d) =
        let z : at + suc n ≡ suc at + n = omega arith in subst (NoZeros at (0 ∷ replicate n 0 ++ (v ∷ rest))) (ap Trailing z) (no_zero (suc n) v rest d)

pub exact_zeros : (s : List ℕ) (at : ℕ) → at ≤ length s → Exact (zeros_of (drop at s) at) (Zeros (length s) at) (NoZeros at) s at
exact_zeros s at h =
    record {
      there = λ l rest a e z. there l rest a e z;
      back = λ o a n e.
          let k = zeros_back (drop at s) at a n e in
          let d = length-drop at s in
          let k1 = k.1 in
          let full : n ≡ length s = omega arith in
          record {
            octets = replicate (length (drop at s)) 0;
            is = subst (Zeros (length s) at (replicate (length (drop at s)) 0)) (sym k.2) (zeros (length (drop at s)) (omega arith));
            split = k.0 ∙ sym (append-nil (replicate (length (drop at s)) 0)) ∙ ap (λ (x : List ℕ). replicate (length (drop at s)) 0 ++ x) (sym (none n (omega arith)));
            ends = let u = length-replicate {A = ℕ} (length (drop at s)) 0 in omega arith;
            inside = omega arith;
          };
      refuses = λ x f. refuse (drop at s) x f;
      refused = λ o x e. no_zeros_back (drop at s) at x e;
    }
  where
    empty : (l : List ℕ) → length l ≡ 0 → l ≡ []
    empty [] e = refl
    empty (x ∷ l) e = absurd (omega arith)

    none : (n : ℕ) → length s ≤ n → drop n s ≡ []
    none n g = empty (drop n s) (let u = length-drop n s in omega arith)

    there : (l rest : List ℕ) (a : ℕ) → drop at s ≡ l ++ rest → Zeros (length s) at l a → zeros_of (drop at s) at ≡ ok a (at + length l)
    there l rest a e (zeros n z) =
        let u = length-replicate {A = ℕ} n 0 in
        let d = length-drop at s in
        let q = ap length e ∙ length-append (replicate n 0) rest in
        let r : rest ≡ [] = empty rest (omega arith) in
        let v : at + n ≡ at + length (replicate {A = ℕ} n 0) = omega arith in
        ap (λ (x : List ℕ). zeros_of x at) (e ∙ ap (λ (x : List ℕ). replicate n 0 ++ x) r ∙ append-nil (replicate n 0)) ∙ zeros_there n at ∙ ap (ok 0) v

    refuse : (l : List ℕ) (x : Refusal) → NoZeros at l x → zeros_of l at ≡ no x
    refuse l x (no_zero n y rest d) = no_zero_there n y rest at d

-- ---- the page, part by part

-- behind the second FF D9
data Tail (rs : List Record) (size e : ℕ) : List ℕ → List Record → Type 0 where
  tail : (n : ℕ) → e + n ≡ size → Tail rs size e (replicate n 0) rs

exact_tail : (rs : List Record) (s : List ℕ) (e : ℕ) → e ≤ length s → Exact (bind (zeros_of (drop e s) e) (λ (z end : ℕ). ok rs end)) (Tail rs (length s) e) (NoZeros e) s e
exact_tail rs s e h =
    exact_as
    (exact_then (zeros_of (drop e s) e) (λ (z end : ℕ). ok rs end) (Zeros (length s) e) (NoZeros e) (λ (z end : ℕ). Nothing rs) (λ (z end : ℕ) (l : List ℕ) (x : Refusal). ⊥) s e h
    (exact_zeros s e h) (λ a l z g. exact_ok rs s (e + length l) g))
    (λ l a b. subst (λ (x : List ℕ). Tail rs (length s) e x a) (sym b.octets) (to b.first b.second))
    (λ l a b. fro b)
    (λ l x b. bad b) (λ l x b. bad_first b)
  where
    to : {f r : List ℕ} {z : ℕ} {a : List Record} → Zeros (length s) e f z → Nothing rs r a → Tail rs (length s) e (f ++ r) a
    to (zeros n q) nothing = subst (λ (x : List ℕ). Tail rs (length s) e x rs) (sym (append-nil (replicate n 0))) (tail n q)

    fro : {l : List ℕ} {a : List Record} → Tail rs (length s) e l a → Both (Zeros (length s) e) (λ (z end : ℕ). Nothing rs) e l a
    fro (tail n q) = record { front = replicate n 0; rest = []; value = 0; octets = sym (append-nil (replicate n 0)); first = zeros n q; second = nothing }

    bad : {l : List ℕ} {x : Refusal} → BadThen (Zeros (length s) e) (NoZeros e) (λ (z end : ℕ) (l : List ℕ) (x : Refusal). ⊥) e l x → NoZeros e l x
    bad (bad_first b) = b
    bad (bad_later f r a z w) = absurd w

-- the second FF D9
data Ends : List ℕ → List ℕ → Type 0 where
  ends : Ends end_mark []

exact_end : (s : List ℕ) (at : ℕ) → at ≤ length s → Exact (fields end_table [] s at) Ends (BadMarked end_mark BadMark at) s at
unfolding end_table
exact_end s at h =
    exact_as (exact_fields end_table [] s at h)
    (λ l es st. mark_apart (λ (m : List ℕ). Ends m es) st (λ more st1. end_apart (λ (o m : List ℕ). Ends (end_mark ++ m) o) st1 ends))
    (λ l es z. fro z)
    (λ l x f. fault_mark (λ (l : List ℕ). BadMarked end_mark BadMark at l x) f (λ b. broken_mark b) (λ more f1. absurd (none_at_fault f1)))
    (λ l x b. fault_here (mark_broken b))
  where
    fro : {l es : List ℕ} → Ends l es → Stands end_table [] es l
    fro ends = marked at_end

abbrev Behind : Head → ℕ → List ℕ → List Record → Type 0
Behind hd = After (Optional hd.rules.version) (Stripe hd) 0 65535 []

abbrev BadBehind : Head → ℕ → List ℕ → Refusal → Type 0
BadBehind hd = BadBody (Optional hd.rules.version) (Stripe hd) (BadItem hd) 0 65535

abbrev End : ℕ → List Record → ℕ → List ℕ → List Record → Type 0
End size rs m = Both Ends (λ (es : List ℕ) (e : ℕ). Tail rs size e) m

abbrev BadEnd : List Record → ℕ → List ℕ → Refusal → Type 0
BadEnd rs m = BadThen Ends (BadMarked end_mark BadMark m) (λ (es : List ℕ) (e : ℕ). NoZeros e) m

abbrev Inner : ℕ → Head → ℕ → List ℕ → List Record → Type 0
Inner size hd n = Both (Behind hd n) (End size) n

abbrev BadInner : Head → ℕ → List ℕ → Refusal → Type 0
BadInner hd n = BadThen (Behind hd n) (BadBehind hd n) BadEnd n

start_some : (l : List ℕ) (hd : Head) → Start l hd → 0 < length l
start_some l hd (start h g) = let n = length_start hd in omega arith

exact_body : (hd : Head) (s : List ℕ) (at : ℕ) → 0 < at → at ≤ length s → Exact (body_from (item_of hd) (length s) 0 65535 [] s at) (Behind hd at) (BadBehind hd at) s at
exact_body hd s at p g =
    body_exact (Optional hd.rules.version) (Stripe hd) (item_of hd) (BadItem hd) (λ k left t e h low few. item_exact hd k left t e h low few) (item_opens hd)
    (length s) 0 65535 [] s at (omega arith) g (omega arith) (omega arith)

-- a body that was read behind a start ends within the page
pub body_inside : (hd : Head) (s : List ℕ) → Octets s → (at : ℕ) (rs : List Record) (m : ℕ) {f : List ℕ} → Start f hd → at ≡ 0 + length f → at ≤ length s
    → body_from (item_of hd) (length s) 0 65535 [] s at ≡ ok rs m → m ≤ length s
body_inside hd s o at rs m {f} z e h q = let p = start_some f hd z in ((exact_body hd s at (omega arith) h).back o rs m q).inside

exact_page : (s : List ℕ) → Exact (page_of s) (Both Start (Inner (length s)) 0) (BadThen Start BadStart BadInner 0) s 0
unfolding page_of
exact_page s =
    exact_then (start_read s 0) _ Start BadStart (Inner (length s)) BadInner s 0 (omega arith) (start_exact s) λ hd f z g.
    let p = start_some f hd z in
    exact_then (body_from (item_of hd) (length s) 0 65535 [] s (0 + length f)) _ (Behind hd (0 + length f)) (BadBehind hd (0 + length f)) (End (length s)) BadEnd s (0 + length f) g
    (exact_body hd s (0 + length f) (omega arith) g) λ rs l b i.
    exact_then (fields end_table [] s (0 + length f + length l)) _ Ends (BadMarked end_mark BadMark (0 + length f + length l))
    (λ (es : List ℕ) (e : ℕ). Tail rs (length s) e) (λ (es : List ℕ) (e : ℕ). NoZeros e) s (0 + length f + length l) i
    (exact_end s (0 + length f + length l) i) λ es m st j.
    exact_tail rs s (0 + length f + length l + length m) j

-- ---- in the words of the grammar

to_body : (hd : Head) (n : ℕ) (l : List ℕ) (rs : List Record) → Behind hd n l rs → BodyOf hd n l rs
to_body hd n l rs (after r t) = turns_body (Optional hd.rules.version) (Stripe hd) t

from_body : (hd : Head) (n : ℕ) (l : List ℕ) (rs : List Record) → BodyOf hd n l rs → Behind hd n l rs
from_body hd n l rs b = after rs (body_turns (Optional hd.rules.version) (Stripe hd) b)

to_page : (size : ℕ) (l : List ℕ) (rs : List Record) → Both Start (Inner size) 0 l rs → Page l rs
to_page size l rs b = by_start b.front b.value b.first b.rest b.octets b.second
  where
    made : (hd : Head) (m : List ℕ) (sr : List Record) → GoodHead hd → BodyOf hd (length (start_of hd)) m sr → (n : ℕ) → l ≡ start_of hd ++ (m ++ (end_mark ++ replicate n 0)) → Page l sr
    made hd m sr g y n e =
        record {
          head = hd;
          optionals = y.optionals;
          stripes = y.stripes;
          zeros = n;
          octets =
              e ∙ ap (λ (x : List ℕ). start_of hd ++ x)
              (ap (λ (x : List ℕ). x ++ (end_mark ++ replicate n 0)) y.octets ∙ append_assoc y.optionals (y.stripes ++ end_mark) (end_mark ++ replicate n 0)
              ∙ ap (λ (x : List ℕ). y.optionals ++ x) (append_assoc y.stripes end_mark (end_mark ++ replicate n 0)));
          good = g;
          optional = y.optional;
          striped = y.striped;
        }

    by_tail : (hd : Head) → GoodHead hd → (m : List ℕ) (sr : List Record) → Behind hd (0 + length (start_of hd)) m sr → {e : ℕ} {rs : List Record} (r : List ℕ) → Tail sr size e r rs
        → l ≡ start_of hd ++ (m ++ (end_mark ++ r)) → Page l rs
    by_tail hd g m sr a r (tail n q) o =
        let z : 0 + length (start_of hd) ≡ length (start_of hd) = omega arith in
        made hd m sr g (to_body hd (length (start_of hd)) m sr (subst (λ (j : ℕ). Behind hd j m sr) z a)) n o

    by_end : (hd : Head) → GoodHead hd → (m : List ℕ) (sr : List Record) → Behind hd (0 + length (start_of hd)) m sr → {es f : List ℕ} {e : ℕ} → Ends f es → (r : List ℕ) → Tail sr size e r rs
        → l ≡ start_of hd ++ (m ++ (f ++ r)) → Page l rs
    by_end hd g m sr a ends r t o = by_tail hd g m sr a r t o

    by_start : (f : List ℕ) (hd : Head) → Start f hd → (r : List ℕ) → l ≡ f ++ r → Inner size hd (0 + length f) r rs → Page l rs
    by_start f hd (start h g) r o c =
        let d = c.second in
        by_end hd g c.front c.value c.first d.first d.rest d.second
        (o ∙ ap (λ (x : List ℕ). start_of hd ++ x) (c.octets ∙ ap (λ (x : List ℕ). c.front ++ x) d.octets))

from_page : (s : List ℕ) (rs : List Record) → Page s rs → Both Start (Inner (length s)) 0 s rs
from_page s rs p =
    let hd = p.head in
    let body : List ℕ = p.optionals ++ (p.stripes ++ end_mark) in
    let o : s ≡ start_of hd ++ (body ++ (end_mark ++ replicate p.zeros 0)) =
    p.octets ∙ ap (λ (x : List ℕ). start_of hd ++ x)
    (ap (λ (x : List ℕ). p.optionals ++ x) (sym (append_assoc p.stripes end_mark (end_mark ++ replicate p.zeros 0)))
    ∙ sym (append_assoc p.optionals (p.stripes ++ end_mark) (end_mark ++ replicate p.zeros 0))) in
    let a = ap length o ∙ length-append (start_of hd) (body ++ (end_mark ++ replicate p.zeros 0)) in
    let b = length-append body (end_mark ++ replicate p.zeros 0) in
    let c = length-replicate {A = ℕ} p.zeros 0 in
    let d : length (end_mark ++ replicate p.zeros 0) ≡ 2 + p.zeros = omega arith in
    let z : 0 + length (start_of hd) + length body + 2 + p.zeros ≡ length s = omega arith in
    let y : length (start_of hd) ≡ 0 + length (start_of hd) = omega arith in
    record {
      front = start_of hd;
      rest = body ++ (end_mark ++ replicate p.zeros 0);
      value = hd;
      octets = o;
      first = start hd p.good;
      second =
          record {
            front = body;
            rest = end_mark ++ replicate p.zeros 0;
            value = rs;
            octets = refl;
            first =
                subst (λ (j : ℕ). Behind hd j body rs) y
                (from_body hd (length (start_of hd)) body rs (record { optionals = p.optionals; stripes = p.stripes; octets = refl; optional = p.optional; striped = p.striped }));
            second = record { front = end_mark; rest = replicate p.zeros 0; value = []; octets = refl; first = ends; second = tail p.zeros z };
          };
    }

-- ---- the theorem

empty_drop : (s : List ℕ) → drop (length s) s ≡ []
empty_drop [] = refl
empty_drop (x ∷ s) = empty_drop s

pub page_there : (s : List ℕ) (rs : List Record) → Page s rs → page_of s ≡ ok rs (length s)
page_there s rs p =
    let z : 0 + length s ≡ length s = omega arith in (exact_page s).there s [] rs (sym (append-nil s)) (from_page s rs p) ∙ ap (ok rs) z

-- a page ends where its octets do
both_length : (size : ℕ) (l : List ℕ) (rs : List Record) → Both Start (Inner size) 0 l rs → length l ≡ size
both_length size l rs b =
    let c = b.second in
    let d = c.second in
    let x = ap length b.octets ∙ length-append b.front b.rest in
    let y = ap length c.octets ∙ length-append c.front c.rest in
    let z = ap length d.octets ∙ length-append d.front d.rest in
    let w = by d.second in
    omega arith
  where
    by : {sr : List Record} {e : ℕ} {r : List ℕ} {out : List Record} → Tail sr size e r out → e + length r ≡ size
    by (tail n q) = let u = length-replicate {A = ℕ} n 0 in omega arith

pub page_back : (s : List ℕ) → Octets s → (rs : List Record) (n : ℕ) → page_of s ≡ ok rs n → Page s rs × (n ≡ length s)
page_back s o rs n e =
    let k = (exact_page s).back o rs n e in
    let u = both_length (length s) k.octets rs k.is in
    let v = k.ends in
    let w : n ≡ length s = omega arith in
    let q : s ≡ k.octets = k.split ∙ ap (λ (x : List ℕ). k.octets ++ x) (ap (λ (j : ℕ). drop j s) w ∙ empty_drop s) ∙ append-nil k.octets in
    (to_page (length s) s rs (subst (λ (l : List ℕ). Both Start (Inner (length s)) 0 l rs) (sym q) k.is), w)

-- ---- refusals

to_bad : (s : List ℕ) (x : Refusal) → BadThen Start BadStart BadInner 0 s x → BadPage s x
to_bad s x (bad_first b) = in_start b
to_bad s x (bad_later f r hd st (bad_first b)) =
    in_body f r hd st (subst (λ (j : ℕ). BadBehind hd j r x) (let z : 0 + length f ≡ length f = omega arith in z) b)
to_bad s x (bad_later f r hd st (bad_later m t rs a b)) = at_end_of b
  where
    z : 0 + length f ≡ length f
    z = omega arith

    bodied : BodyOf hd (length f) m rs
    bodied = to_body hd (length f) m rs (subst (λ (j : ℕ). Behind hd j m rs) z a)

    trails : {u : List ℕ} {e : ℕ} {x : Refusal} → e ≡ length f + length m + 2 → NoZeros e u x → BadPage (f ++ (m ++ (end_mark ++ u))) x
    trails e (no_zero n y rest d) =
        subst (BadPage (f ++ (m ++ (end_mark ++ (replicate n 0 ++ (y ∷ rest)))))) (ap (λ (j : ℕ). Trailing (j + n)) (sym e)) (trailing f m rest hd rs n y st bodied d)

    behind : {g es u : List ℕ} {x : Refusal} → Ends g es → NoZeros (0 + length f + length m + length g) u x → BadPage (f ++ (m ++ (g ++ u))) x
    behind ends b = trails (let w : 0 + length f + length m + 2 ≡ length f + length m + 2 = omega arith in w) b

    at_end_of : {t : List ℕ} {x : Refusal} → BadEnd rs (0 + length f + length m) t x → BadPage (f ++ (m ++ t)) x
    at_end_of {t} {x} (bad_first b) = in_end f m t hd rs st bodied (subst (λ (j : ℕ). BadMarked end_mark BadMark (j + length m) t x) z b)
    at_end_of {t} {x} (bad_later g u es e b) = behind e b

from_bad : (s : List ℕ) (x : Refusal) → BadPage s x → BadThen Start BadStart BadInner 0 s x
from_bad s x (in_start b) = bad_first b
from_bad s x (in_body f r hd st b) = bad_later f r hd st (bad_first (subst (λ (j : ℕ). BadBehind hd j r x) (let z : length f ≡ 0 + length f = omega arith in z) b))
from_bad s x (in_end f m r hd rs st b w) =
    let z : length f ≡ 0 + length f = omega arith in
    bad_later f (m ++ r) hd st
    (bad_later m r rs (subst (λ (j : ℕ). Behind hd j m rs) z (from_body hd (length f) m rs b)) (bad_first (subst (λ (j : ℕ). BadMarked end_mark BadMark (j + length m) r x) z w)))
from_bad s x (trailing f m r hd rs n y st b d) =
    let z : length f ≡ 0 + length f = omega arith in
    let v : 0 + length f + length m + 2 + n ≡ length f + length m + 2 + n = omega arith in
    bad_later f (m ++ (end_mark ++ (replicate n 0 ++ (y ∷ r)))) hd st
    (bad_later m (end_mark ++ (replicate n 0 ++ (y ∷ r))) rs (subst (λ (j : ℕ). Behind hd j m rs) z (from_body hd (length f) m rs b))
    (bad_later end_mark (replicate n 0 ++ (y ∷ r)) [] ends (subst (NoZeros (0 + length f + length m + 2) (replicate n 0 ++ (y ∷ r))) (ap Trailing v) (no_zero n y r d))))

pub page_blamed : (s : List ℕ) → Octets s → (x : Refusal) → page_of s ≡ no x → BadPage s x
page_blamed s o x e = to_bad s x ((exact_page s).refused o x e)

pub page_bad : (s : List ℕ) (x : Refusal) → BadPage s x → page_of s ≡ no x
page_bad s x b = (exact_page s).refuses x (from_bad s x b)
