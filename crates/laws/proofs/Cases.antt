-- A choice by a test, taken apart; and what follows from two constructors that are held to be equal.
-- Assumes nothing.
use Prim.Native.Nat.{ℕ}
use native.Mathlib.Omega.{arith}
use mathlib.Core.Path.{◌≡◌, refl}
use mathlib.Core.Logic.{◌⊎◌, inl, inr}
use mathlib.Core.Bool.{Bool, true, false, cond}

pub cond_with : {A : Type 0} (P : A → Type 0) (b : Bool) {x y : A} → (b ≡ true → P x) → (b ≡ false → P y) → P (cond b x y)
cond_with P true f g = f refl
cond_with P false f g = g refl

-- two choices by one test
pub cond_both : {A B : Type 0} (P : A → B → Type 0) (b : Bool) {x y : A} {u v : B} → (b ≡ true → P x u) → (b ≡ false → P y v) → P (cond b x y) (cond b u v)
cond_both P true f g = f refl
cond_both P false f g = g refl

pub bool_else : (b : Bool) → (b ≡ true) ⊎ (b ≡ false)
bool_else true = inl refl
bool_else false = inr refl

-- written `clash cc` where two constructors clash
pub clash : {A : Type 0} → ◌≡◌ {A = ℕ} 0 1 → A
clash e = absurd (omega arith)
