-- Laws of exact parts: a table, so many octets, a part behind a part, a part in other words, nothing, a refusal, a test.
-- Assumes nothing.
use Prim.Native.Nat.{ℕ, ◌+◌, ◌-◌, ◌≤◌}
use native.Mathlib.Omega.{arith}
use native.Mathlib.Nat.{add-zero}
use mathlib.Core.Path.{◌≡◌, refl, sym, ap, subst, ◌∙◌}
use mathlib.Core.Bool.{Bool, true, false, cond, false≢true}
use mathlib.Core.List.{List, [], ◌++◌, append_assoc, append-nil}
use lib.ListN.{length, take, drop, length-append, length-drop, take-append-drop}
use lib.Seq.{length-take-le, drop-drop}
use lib.Dec.{ltb}
use borrow.Author.Tests.{le-ltb, ltb-false, ltb-true, lt-ltb}
use Rattle.answers.specs.declared.Refusal.{Refusal}
use Rattle.answers.specs.declared.Refusal.TheVariants.{Short}
use Rattle.laws.proofs.Cases.{cond_with, clash}
use Rattle.octets.specs.Octets.{Octets, stands_at}
use Rattle.octets.proofs.Laws.{drop_next, stands_there, stands_split}
use Rattle.field_rules.specs.Field.{Res, ok, no, bind, Field, fields}
use Rattle.field_rules.specs.Stands.{Stands}
use Rattle.field_rules.proofs.Laws.{fields_there, fields_back}
use Rattle.field_rules.specs.Fault.{Faulted}
use Rattle.field_rules.specs.Part.{Stood, Exact, Both, BadThen, bad_first, bad_later, Apart, Due, due_mark, due_else, BadDue, bad_cut, bad_mark, bad_else, span_of, Span, span, BadSpan, cut_span, Mapped, mapped, Passed, passed, Failed, failed, bad_passed, BadRoom, cut_room, in_room}
use Rattle.field_rules.proofs.Tables.{faulted_refused, refused_faulted, mark_other}

pub room : (s l r : List ℕ) (at : ℕ) → at ≤ length s → drop at s ≡ l ++ r → at + length l ≤ length s
room s l r at h e = let n : length s - at ≡ length l + length r = sym (length-drop at s) ∙ ap length e ∙ length-append l r in omega arith

-- ---- a table of fields

pub exact_fields : (rows : List Field) (before s : List ℕ) (at : ℕ) → at ≤ length s
    → Exact (fields rows before s at) (λ (l out : List ℕ). Stands rows before out l) (Faulted rows before at) s at
exact_fields rows before s at h =
    record {
      there = λ l rest a e st. fields_there st s rest at h e;
      back = λ o a n e. let k = fields_back rows before a s at n o h e in record { octets = k.octets; is = k.stands; split = k.split; ends = k.ends; inside = k.inside };
      refuses = λ x f. faulted_refused s h f;
      refused = λ o x e. refused_faulted s o x rows before at h e;
    }

-- ---- in other words

pub exact_as : {A : Type 0} {r : Res A} {Is Other : List ℕ → A → Type 0} {Bad Else : List ℕ → Refusal → Type 0} {s : List ℕ} {at : ℕ} → Exact r Is Bad s at
    → ((l : List ℕ) (a : A) → Is l a → Other l a) → ((l : List ℕ) (a : A) → Other l a → Is l a)
    → ((l : List ℕ) (x : Refusal) → Bad l x → Else l x) → ((l : List ℕ) (x : Refusal) → Else l x → Bad l x) → Exact r Other Else s at
exact_as {s = s} {at = at} k to fro bad worse =
    record {
      there = λ l rest a e z. k.there l rest a e (fro l a z);
      back = λ o a n e. let q = k.back o a n e in record { octets = q.octets; is = to q.octets a q.is; split = q.split; ends = q.ends; inside = q.inside };
      refuses = λ x f. k.refuses x (worse (drop at s) x f);
      refused = λ o x e. bad (drop at s) x (k.refused o x e);
    }

-- ---- a part behind a part

bind_no : {A B : Type 0} (P : Type 0) (r : Res A) (go : A → ℕ → Res B) (x : Refusal) → bind r go ≡ no x → (r ≡ no x → P) → ((a : A) (m : ℕ) → r ≡ ok a m → go a m ≡ no x → P) → P
unfolding bind
bind_no P (ok a m) go x e f k = k a m refl e
bind_no P (no y) go x e f k = let z : y ≡ x = cc in f (ap no z)

bind_ok : {A B : Type 0} (P : Type 0) (r : Res A) (go : A → ℕ → Res B) (b : B) (n : ℕ) → bind r go ≡ ok b n → ((a : A) (m : ℕ) → r ≡ ok a m → go a m ≡ ok b n → P) → P
unfolding bind
bind_ok P (ok a m) go b n e k = k a m refl e
bind_ok P (no y) go b n e k = clash cc

module _ {A B : Type 0} (r : Res A) (go : A → ℕ → Res B) (First : List ℕ → A → Type 0) (Bad : List ℕ → Refusal → Type 0)
    (Second : A → ℕ → List ℕ → B → Type 0) (Worse : A → ℕ → List ℕ → Refusal → Type 0) (s : List ℕ) (at : ℕ) (h : at ≤ length s) where
  pub exact_then : Exact r First Bad s at
      → ((a : A) (l : List ℕ) → First l a → at + length l ≤ length s → Exact (go a (at + length l)) (Second a (at + length l)) (Worse a (at + length l)) s (at + length l))
      → Exact (bind r go) (Both First Second at) (BadThen First Bad Worse at) s at
  unfolding bind
  exact_then k next =
      record {
        there = λ l rest b e z. there l rest b e z;
        back = λ o b n e.
            bind_ok (Stood (Both First Second at) s at b n) r go b n e λ a m q1 q2.
            let f = k.back o a m q1 in
            let i = f.inside in
            let fe = f.ends in
            let y = (next a f.octets f.is (omega arith)).back o b n (ap (go a) (sym f.ends) ∙ q2) in
            let ye = y.ends in
            let u = length-append f.octets y.octets in
            record {
              octets = f.octets ++ y.octets;
              is = record { front = f.octets; rest = y.octets; value = a; octets = refl; first = f.is; second = y.is };
              split =
                  f.split ∙ ap (λ (x : List ℕ). f.octets ++ x) (ap (λ (j : ℕ). drop j s) f.ends ∙ y.split) ∙ sym (append_assoc f.octets y.octets (drop n s));
              ends = omega arith;
              inside = y.inside;
            };
        refuses = λ x f. refuse (drop at s) x refl f;
        refused = λ o x e.
            bind_no (BadThen First Bad Worse at (drop at s) x) r go x e (λ q. bad_first (k.refused o x q)) λ a m q1 q2.
            let f = k.back o a m q1 in
            let i = f.inside in
            let fe = f.ends in
            let y = (next a f.octets f.is (omega arith)).refused o x (ap (go a) (sym f.ends) ∙ q2) in
            subst (λ (l : List ℕ). BadThen First Bad Worse at l x) (sym (f.split ∙ ap (λ (j : ℕ). f.octets ++ drop j s) f.ends))
            (bad_later f.octets (drop (at + length f.octets) s) a f.is y);
      }
    where
      there : (l rest : List ℕ) (b : B) → drop at s ≡ l ++ rest → Both First Second at l b → bind r go ≡ ok b (at + length l)
      there l rest b e z =
          let e1 : drop at s ≡ z.front ++ (z.rest ++ rest) = e ∙ ap (λ (x : List ℕ). x ++ rest) z.octets ∙ append_assoc z.front z.rest rest in
          let q1 = k.there z.front (z.rest ++ rest) z.value e1 z.first in
          let g = room s z.front (z.rest ++ rest) at h e1 in
          let q2 = (next z.value z.front z.first g).there z.rest rest b (drop_next s z.front (z.rest ++ rest) at e1) z.second in
          let u = ap length z.octets ∙ length-append z.front z.rest in
          let v : at + length z.front + length z.rest ≡ at + length l = omega arith in
          ap (λ (x : Res A). bind x go) q1 ∙ q2 ∙ ap (ok b) v

      refuse : (l : List ℕ) (x : Refusal) → drop at s ≡ l → BadThen First Bad Worse at l x → bind r go ≡ no x
      refuse l x e (bad_first f) = ap (λ (y : Res A). bind y go) (k.refuses x (subst (λ (l : List ℕ). Bad l x) (sym e) f))
      refuse l x e (bad_later front rest a f w) =
          let g = room s front rest at h e in
          ap (λ (y : Res A). bind y go) (k.there front rest a e f)
          ∙ (next a front f g).refuses x (subst (λ (l : List ℕ). Worse a (at + length front) l x) (sym (drop_next s front rest at e)) w)

-- ---- nothing, and a refusal

pub data Nothing {A : Type 0} (a : A) : List ℕ → A → Type 0 where
  nothing : Nothing a [] a

pub exact_ok : {A : Type 0} (a : A) (s : List ℕ) (at : ℕ) → at ≤ length s → Exact (ok a at) (Nothing a) (λ (l : List ℕ) (x : Refusal). ⊥) s at
exact_ok {A} a s at h =
    record {
      there = λ l rest b e z. there l b z;
      back = λ o b n e.
          let p : a ≡ b = cc in
          let q : at ≡ n = cc in
          record { octets = []; is = subst (Nothing a []) p nothing; split = ap (λ (j : ℕ). drop j s) q; ends = omega arith; inside = omega arith };
      refuses = λ x f. absurd f;
      refused = λ o x e. clash cc;
    }
  where
    there : (l : List ℕ) (b : A) → Nothing a l b → ok a at ≡ ok b (at + length l)
    there l b nothing = ap (ok a) (sym (add-zero at))

pub exact_no : {A : Type 0} (y : Refusal) (s : List ℕ) (at : ℕ) → Exact {A = A} (no y) (λ (l : List ℕ) (a : A). ⊥) (λ (l : List ℕ) (x : Refusal). x ≡ y) s at
exact_no y s at =
    record {
      there = λ l rest b e z. absurd z;
      back = λ o b n e. clash cc;
      refuses = λ x f. ap no (sym f);
      refused = λ o x e. let z : y ≡ x = cc in sym z;
    }

-- ---- a mark that chooses

pub apart_more : {m : List ℕ} (l r : List ℕ) → Apart m l → Apart m (l ++ r)
apart_more l r a =
    record { others = a.others; rest = a.rest ++ r; split = ap (λ (x : List ℕ). x ++ r) a.split ∙ append_assoc a.others a.rest r; size = a.size; differ = a.differ }

pub apart_length : {m : List ℕ} (l : List ℕ) → Apart m l → length m ≤ length l
apart_length l a = let j = ap length a.split ∙ length-append a.others a.rest in let k = a.size in omega arith

pub apart_there : (s : List ℕ) (at : ℕ) (m l r : List ℕ) → drop at s ≡ l ++ r → Apart m l → stands_at s at m ≡ false
apart_there s at m l r e a =
    mark_other s at m a.others (a.rest ++ r) (e ∙ ap (λ (x : List ℕ). x ++ r) a.split ∙ append_assoc a.others a.rest r) a.size a.differ

pub apart_back : (s : List ℕ) (at : ℕ) (m : List ℕ) → at + length m ≤ length s → stands_at s at m ≡ false → Apart m (drop at s)
apart_back s at m h f =
    record {
      others = take (length m) (drop at s);
      rest = drop (length m) (drop at s);
      split = sym (take-append-drop (length m) (drop at s));
      size = length-take-le (length m) (drop at s) (let u = length-drop at s in omega arith);
      differ = λ q.
          false≢true (sym f ∙ stands_there s at m (drop (length m) (drop at s)) (omega arith)
          (sym (take-append-drop (length m) (drop at s)) ∙ ap (λ (l : List ℕ). l ++ drop (length m) (drop at s)) q));
    }

module _ {A : Type 0} (m : List ℕ) (p q : Res A) (Behind Else : List ℕ → A → Type 0) (BadBehind BadElse : List ℕ → Refusal → Type 0) (s : List ℕ) (at : ℕ)
    (h : at ≤ length s) where
  abbrev due_of : Res A
  due_of = cond (ltb (length s) (at + length m)) (no (Short at)) (cond (stands_at s at m) p q)

  pub exact_due : (at + length m ≤ length s → Exact p Behind BadBehind s (at + length m)) → (at + length m ≤ length s → Exact q Else BadElse s at)
      → ((l : List ℕ) (a : A) → Else l a → Apart m l) → Exact due_of (Due m Behind Else) (BadDue m at BadBehind BadElse) s at
  exact_due x y other =
      record {
        there = λ l rest a e z. there l rest a e z;
        back = λ o a n.
            cond_with (λ (r : Res A). r ≡ ok a n → Stood (Due m Behind Else) s at a n) (ltb (length s) (at + length m)) (λ t e. clash cc) λ t.
            let g = ltb-false (length s) (at + length m) t in
            cond_with (λ (r : Res A). r ≡ ok a n → Stood (Due m Behind Else) s at a n) (stands_at s at m)
            (λ u e.
            let k = (x g).back o a n e in
            let i = length-append m k.octets in
            let j = k.ends in
            record {
              octets = m ++ k.octets;
              is = due_mark k.octets k.is;
              split = (stands_split s at m u).1 ∙ ap (λ (l : List ℕ). m ++ l) k.split ∙ sym (append_assoc m k.octets (drop n s));
              ends = omega arith;
              inside = k.inside;
            })
            (λ u e. let k = (y g).back o a n e in record { octets = k.octets; is = due_else k.is; split = k.split; ends = k.ends; inside = k.inside });
        refuses = λ z f. refuse (drop at s) z refl f;
        refused = λ o z.
            cond_with (λ (r : Res A). r ≡ no z → BadDue m at BadBehind BadElse (drop at s) z) (ltb (length s) (at + length m))
            (λ t e.
            let v : Short at ≡ z = cc in
            let i = ltb-true (length s) (at + length m) t in
            let j = length-drop at s in
            subst (BadDue m at BadBehind BadElse (drop at s)) v (bad_cut (omega arith)))
            λ t.
            let g = ltb-false (length s) (at + length m) t in
            cond_with (λ (r : Res A). r ≡ no z → BadDue m at BadBehind BadElse (drop at s) z) (stands_at s at m)
            (λ u e.
            subst (λ (l : List ℕ). BadDue m at BadBehind BadElse l z) (sym (stands_split s at m u).1) (bad_mark (drop (at + length m) s) ((x g).refused o z e)))
            (λ u e. bad_else (apart_back s at m g u) ((y g).refused o z e));
      }
    where
      there : (l rest : List ℕ) (a : A) → drop at s ≡ l ++ rest → Due m Behind Else l a → due_of ≡ ok a (at + length l)
      there l rest a e (due_mark l' z) =
          let e1 : drop at s ≡ m ++ (l' ++ rest) = e ∙ append_assoc m l' rest in
          let g = room s m (l' ++ rest) at h e1 in
          let u = length-append m l' in
          let v : at + length m + length l' ≡ at + length (m ++ l') = omega arith in
          simp (le-ltb (length s) (at + length m) g, stands_there s at m (l' ++ rest) h e1) ((x g).there l' rest a (drop_next s m (l' ++ rest) at e1) z ∙ ap (ok a) v)
      there l rest a e (due_else z) =
          let d = other l a z in
          let i = room s l rest at h e in
          let j = ap length d.split ∙ length-append d.others d.rest in
          let k = d.size in
          let g : at + length m ≤ length s = omega arith in
          simp (le-ltb (length s) (at + length m) g, apart_there s at m l rest e d) ((y g).there l rest a e z)

      refuse : (l : List ℕ) (z : Refusal) → drop at s ≡ l → BadDue m at BadBehind BadElse l z → due_of ≡ no z
      refuse l z e (bad_cut c) = let i = length-drop at s in let j = ap length e in simp (lt-ltb (length s) (at + length m) (omega arith))
      refuse l z e (bad_mark l' b) =
          let g = room s m l' at h e in
          simp (le-ltb (length s) (at + length m) g, stands_there s at m l' h e) ((x g).refuses z (subst (λ (k : List ℕ). BadBehind k z) (sym (drop_next s m l' at e)) b))
      refuse l z e (bad_else d b) =
          let i = length-drop at s in
          let i2 = ap length e in
          let j = ap length d.split ∙ length-append d.others d.rest in
          let k = d.size in
          let g : at + length m ≤ length s = omega arith in
          simp (le-ltb (length s) (at + length m) g, apart_there s at m l [] (e ∙ sym (append-nil l)) d) ((y g).refuses z (subst (λ (k : List ℕ). BadElse k z) (sym e) b))

-- ---- so many octets

pub exact_span : (n : ℕ) (s : List ℕ) (at : ℕ) → at ≤ length s → Exact (span_of s at n) (Span n) (BadSpan n at) s at
unfolding span_of
exact_span n s at h =
    record {
      there = λ l rest a e z. there l rest a e z;
      back = λ o a m.
          cond_with (λ (r : Res ℕ). r ≡ ok a m → Stood (Span n) s at a m) (ltb (length s) (at + n)) (λ t e. clash cc)
          (λ t e.
          let g = ltb-false (length s) (at + n) t in
          let p : n ≡ a = cc in
          let q : at + n ≡ m = cc in
          let u = length-drop at s in
          let len = length-take-le n (drop at s) (omega arith) in
          record {
            octets = take n (drop at s);
            is = subst (Span n (take n (drop at s))) p (span len);
            split = sym (take-append-drop n (drop at s)) ∙ ap (λ (l : List ℕ). take n (drop at s) ++ l) (drop-drop n at s ∙ ap (λ (j : ℕ). drop j s) q);
            ends = omega arith;
            inside = omega arith;
          });
      refuses = λ x f. refuse x f;
      refused = λ o x.
          cond_with (λ (r : Res ℕ). r ≡ no x → BadSpan n at (drop at s) x) (ltb (length s) (at + n))
          (λ t e.
          let v : Short at ≡ x = cc in
          let i = ltb-true (length s) (at + n) t in
          let j = length-drop at s in
          subst (BadSpan n at (drop at s)) v (cut_span (omega arith)))
          (λ t e. clash cc);
    }
  where
    there : (l rest : List ℕ) (a : ℕ) → drop at s ≡ l ++ rest → Span n l a → cond (ltb (length s) (at + n)) (no (Short at)) (ok n (at + n)) ≡ ok a (at + length l)
    there l rest a e (span z) = let g = room s l rest at h e in simp (le-ltb (length s) (at + n) (omega arith)) (ap (λ (j : ℕ). ok n (at + j)) (sym z))

    refuse : (x : Refusal) → BadSpan n at (drop at s) x → cond (ltb (length s) (at + n)) (no (Short at)) (ok n (at + n)) ≡ no x
    refuse x (cut_span c) = let j = length-drop at s in simp (lt-ltb (length s) (at + n) (omega arith))

-- ---- another value

pub exact_map : {A B : Type 0} (r : Res A) (f : A → B) (Is : List ℕ → A → Type 0) (Bad : List ℕ → Refusal → Type 0) (s : List ℕ) (at : ℕ) → at ≤ length s → Exact r Is Bad s at
    → Exact (bind r (λ (a : A) (e : ℕ). ok (f a) e)) (Mapped f Is) Bad s at
exact_map {A} {B} r f Is Bad s at h k =
    exact_as
    (exact_then r (λ (a : A) (e : ℕ). ok (f a) e) Is Bad (λ (a : A) (e : ℕ). Nothing (f a)) (λ (a : A) (e : ℕ) (l : List ℕ) (x : Refusal). ⊥) s at h k (λ a l st i. exact_ok (f a) s (at + length l) i))
    (λ l v b. subst (λ (x : List ℕ). Mapped f Is x v) (sym b.octets) (to b.front b.value b.first b.second)) (λ l v b. fro b) (λ l x b. bad b) (λ l x b. bad_first b)
  where
    to : (l : List ℕ) (a : A) → Is l a → {r : List ℕ} {v : B} → Nothing (f a) r v → Mapped f Is (l ++ r) v
    to l a z nothing = subst (λ (x : List ℕ). Mapped f Is x (f a)) (sym (append-nil l)) (mapped a z)

    fro : {l : List ℕ} {v : B} → Mapped f Is l v → Both Is (λ (a : A) (e : ℕ). Nothing (f a)) at l v
    fro {l} (mapped a z) = record { front = l; rest = []; value = a; octets = sym (append-nil l); first = z; second = nothing }

    bad : {l : List ℕ} {x : Refusal} → BadThen Is Bad (λ (a : A) (e : ℕ) (l : List ℕ) (x : Refusal). ⊥) at l x → Bad l x
    bad (bad_first b) = b
    bad (bad_later l r a z w) = absurd w

-- ---- a test

pub exact_test : {A : Type 0} (b : Bool) (y : Refusal) (r : Res A) (Is : List ℕ → A → Type 0) (Bad : List ℕ → Refusal → Type 0) (s : List ℕ) (at : ℕ) → (b ≡ true → Exact r Is Bad s at)
    → Exact (cond b r (no y)) (Passed b Is) (Failed b y Bad) s at
exact_test {A} true y r Is Bad s at k = exact_as (k refl) (λ l a z. passed refl z) (λ l a z. of z) (λ l x z. bad_passed refl z) (λ l x z. un z)
  where
    of : {l : List ℕ} {a : A} → Passed true Is l a → Is l a
    of (passed e z) = z

    un : {l : List ℕ} {x : Refusal} → Failed true y Bad l x → Bad l x
    un (failed e) = absurd (false≢true (sym e))
    un (bad_passed e z) = z
exact_test {A} false y r Is Bad s at k = exact_as (exact_no y s at) (λ l a z. absurd z) (λ l a z. never z) (λ l x z. subst (Failed false y Bad l) (sym z) (failed refl)) (λ l x z. is z)
  where
    never : {l : List ℕ} {a : A} → Passed false Is l a → ⊥
    never (passed e z) = false≢true e

    is : {l : List ℕ} {x : Refusal} → Failed false y Bad l x → x ≡ y
    is (failed e) = refl
    is (bad_passed e z) = absurd (false≢true e)

-- ---- room first

pub exact_room : {A : Type 0} (n : ℕ) (r : Res A) (Is : List ℕ → A → Type 0) (Bad : List ℕ → Refusal → Type 0) (s : List ℕ) (at : ℕ) → at ≤ length s
    → ((l : List ℕ) (a : A) → Is l a → n ≤ length l) → Exact r Is Bad s at → Exact (cond (ltb (length s) (at + n)) (no (Short at)) r) Is (BadRoom n at Bad) s at
exact_room {A} n r Is Bad s at h long k =
    record {
      there = λ l rest a e z. let g = room s l rest at h e in let w = long l a z in simp (le-ltb (length s) (at + n) (omega arith)) (k.there l rest a e z);
      back = λ o a m. cond_with (λ (y : Res A). y ≡ ok a m → Stood Is s at a m) (ltb (length s) (at + n)) (λ t e. clash cc) (λ t e. k.back o a m e);
      refuses = λ x f. refuse (drop at s) x refl f;
      refused = λ o x.
          cond_with (λ (y : Res A). y ≡ no x → BadRoom n at Bad (drop at s) x) (ltb (length s) (at + n))
          (λ t e.
          let v : Short at ≡ x = cc in
          let i = ltb-true (length s) (at + n) t in
          let j = length-drop at s in
          subst (BadRoom n at Bad (drop at s)) v (cut_room (omega arith)))
          (λ t e. let i = ltb-false (length s) (at + n) t in let j = length-drop at s in in_room (omega arith) (k.refused o x e));
    }
  where
    refuse : (l : List ℕ) (x : Refusal) → drop at s ≡ l → BadRoom n at Bad l x → cond (ltb (length s) (at + n)) (no (Short at)) r ≡ no x
    refuse l x e (cut_room c) = let j = length-drop at s in let q = ap length e in simp (lt-ltb (length s) (at + n) (omega arith))
    refuse l x e (in_room c b) = let j = length-drop at s in let q = ap length e in simp (le-ltb (length s) (at + n) (omega arith)) (k.refuses x (subst (λ (l : List ℕ). Bad l x) (sym e) b))

-- ---- two readings of the same octets are the same, where what the one takes and refuses the other takes and refuses so: one direction is enough

pub exact_same : {A : Type 0} {r q : Res A} {Is Other : List ℕ → A → Type 0} {Bad Else : List ℕ → Refusal → Type 0} (s : List ℕ) (at : ℕ) → Octets s → Exact r Is Bad s at → Exact q Other Else s at
    → ((l : List ℕ) (a : A) → Is l a → Other l a) → ((l : List ℕ) (x : Refusal) → Bad l x → Else l x) → r ≡ q
exact_same {A} {r} {q} {Is} {Other} {Bad} {Else} s at o j k is bad = by r refl
  where
    by : (t : Res A) → r ≡ t → r ≡ q
    by (ok a n) e =
        let z = j.back o a n e in
        e ∙ ap (ok a) z.ends ∙ sym (k.there z.octets (drop n s) a z.split (is z.octets a z.is))
    by (no x) e = e ∙ sym (k.refuses x (bad (drop at s) x (j.refused o x e)))
