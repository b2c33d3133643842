-- A test that says a fact: true exactly if the fact holds. One law for each way of joining tests.
-- Assumes nothing.
use Prim.Native.Nat.{ℕ, ◌≤◌, ◌<◌}
use mathlib.Core.Path.{◌≡◌, refl}
use mathlib.Core.Logic.{◌⊎◌, inl, inr}
use mathlib.Core.Bool.{Bool, true, false, ◌&&◌, ◌||◌, not, false≢true}
use mathlib.Core.List.Memᴰ
use mathlib.Core.List.{List, [], ◌∷◌, Memᴰ}
use lib.Dec.{eqb, leb, ltb}
use borrow.Author.Tests.{eqb-true, leb-true, ltb-true, eq-eqb, le-leb, lt-ltb}
use Rattle.laws.specs.Tests.{within, among}

pub record Says (b : Bool) (P : Type 0) : Type 0 where
  pub told : b ≡ true → P
  pub shown : P → b ≡ true

pub says_eq : (m n : ℕ) → Says (eqb m n) (m ≡ n)
says_eq m n = record { told = eqb-true m n; shown = eq-eqb m n }

pub says_le : (m n : ℕ) → Says (leb m n) (m ≤ n)
says_le m n = record { told = leb-true m n; shown = le-leb m n }

pub says_lt : (m n : ℕ) → Says (ltb m n) (m < n)
says_lt m n = record { told = ltb-true m n; shown = lt-ltb m n }

pub says_true : (b : Bool) → Says b (b ≡ true)
says_true b = record { told = λ e. e; shown = λ e. e }

pub says_false : Says false ⊥
says_false = record { told = λ e. false≢true e; shown = λ k. absurd k }

pub says_and : {a b : Bool} {P Q : Type 0} → Says a P → Says b Q → Says (a && b) (P × Q)
says_and {a = true} {b} p q = record { told = λ e. (p.told refl, q.told e); shown = λ k. q.shown k.1 }
says_and {a = false} {b} p q = record { told = λ e. absurd (false≢true e); shown = λ k. p.shown k.0 }

pub says_or : {a b : Bool} {P Q : Type 0} → Says a P → Says b Q → Says (a || b) (P ⊎ Q)
says_or {a = true} {b} {P} {Q} p q = record { told = λ e. inl (p.told refl); shown = λ k. refl }
says_or {a = false} {b} {P} {Q} p q = record { told = λ e. inr (q.told e); shown = either }
  where
    either : P ⊎ Q → b ≡ true
    either (inl k) = absurd (false≢true (p.shown k))
    either (inr k) = q.shown k

pub says_not : {a : Bool} {P : Type 0} → Says a P → Says (not a) (P → ⊥)
says_not {a = true} p = record { told = λ e. absurd (false≢true e); shown = λ k. absurd (k (p.told refl)) }
says_not {a = false} p = record { told = λ e k. absurd (false≢true (p.shown k)); shown = λ k. refl }

pub says_not_not : {a : Bool} {P : Type 0} → Says a P → Says (not (not a)) P
says_not_not {a = true} p = record { told = λ e. p.told refl; shown = λ k. refl }
says_not_not {a = false} p = record { told = λ e. absurd (false≢true e); shown = λ k. p.shown k }

-- what a test says may be put in other words
pub says_as : {a : Bool} {P Q : Type 0} → Says a P → (P → Q) → (Q → P) → Says a Q
says_as s to back = record { told = λ e. to (s.told e); shown = λ q. s.shown (back q) }

-- a test answers one way or the other
pub says_else : {a : Bool} {P : Type 0} → Says a P → P ⊎ (P → ⊥)
says_else {a = true} p = inl (p.told refl)
says_else {a = false} p = inr (λ k. false≢true (p.shown k))

-- a test whose fact does not hold is false
pub says_fails : {a : Bool} {P : Type 0} → Says a P → (P → ⊥) → a ≡ false
says_fails {a = true} p n = absurd (n (p.told refl))
says_fails {a = false} p n = refl

-- alternatives regrouped
pub says_group : {a : Bool} {P Q R : Type 0} → Says a ((P ⊎ Q) ⊎ R) → Says a (P ⊎ Q ⊎ R)
says_group {P} {Q} {R} s = says_as s to back
  where
    to : (P ⊎ Q) ⊎ R → P ⊎ Q ⊎ R
    to (inl (inl p)) = inl p
    to (inl (inr q)) = inr (inl q)
    to (inr r) = inr (inr r)

    back : P ⊎ Q ⊎ R → (P ⊎ Q) ⊎ R
    back (inl p) = inl (inl p)
    back (inr (inl q)) = inl (inr q)
    back (inr (inr r)) = inr r

-- ---- the tests that every floor uses

pub says_within : (lo hi x : ℕ) → Says (within lo hi x) ((lo ≤ x) × (x ≤ hi))
says_within lo hi x = says_and (says_le lo x) (says_le x hi)

pub says_among : (xs : List ℕ) (x : ℕ) → Says (among xs x) (Memᴰ x xs)
unfolding among
says_among [] x = says_as says_false (λ k. absurd k) (λ m. absurd (Memᴰ.not-nil m))
says_among (y ∷ ys) x = says_as (says_or (says_eq x y) (says_among ys x)) to (λ m. Memᴰ.cases_cons m)
  where
    to : (x ≡ y) ⊎ Memᴰ x ys → Memᴰ x (y ∷ ys)
    to (inl e) = Memᴰ.head e
    to (inr m) = Memᴰ.tail m

-- one of a list of numbers, the last of which ends it
pub says_one : (x k : ℕ) → Says (among (k ∷ []) x) (x ≡ k)
unfolding among
says_one x k = says_as (says_or (says_eq x k) says_false) to inl
  where
    to : (x ≡ k) ⊎ ⊥ → x ≡ k
    to (inl e) = e
    to (inr e) = absurd e

pub says_list : (x k : ℕ) (ks : List ℕ) {P : Type 0} → Says (among ks x) P → Says (among (k ∷ ks) x) ((x ≡ k) ⊎ P)
unfolding among
says_list x k ks p = says_or (says_eq x k) p

-- if one, then the other
pub says_if : {a b : Bool} {P Q : Type 0} → Says a P → Says b Q → Says (not a || b) (P → Q)
says_if {a = true} {b} p q = record { told = λ e k. q.told e; shown = λ k. q.shown (k (p.told refl)) }
says_if {a = false} {b} p q = record { told = λ e k. absurd (false≢true (p.shown k)); shown = λ k. refl }
