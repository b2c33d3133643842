-- The quotient by k is the product with k's factor, divided by 2^48 (Granlund and Montgomery, 1994, theorem 4.2).
-- Assumes nothing.
use Prim.Native.Nat.{ℕ, suc, ◌+◌, ◌*◌, ◌/◌, ◌%◌, ◌≤◌, ◌<◌}
use native.Mathlib.Nat.{le_refl, le_trans, le_of_eq, lt_of_lt_of_le, lt_of_le_of_lt, lt-suc_self, add-lt-add_of_le_of_lt, mul_right_comm, mul_assoc, mul-add, suc-mul, mul-le-mul, mul-le-mul_left, mul-le-mul_right, lt_of_mul-lt-mul_right, div-mul-le_self, div-lt_iff_lt-mul, div-eq_of_lt-le, div-add-mod, mod-lt, mul_comm}
use native.Mathlib.Omega.{arith}
use mathlib.Core.Path.{◌≡◌, sym, ap, ◌∙◌}
use Rattle.line_sample.specs.Factor.{factor_of}

-- for any whole number of parts: m times k is the whole or up to k more, and n times k is less than the whole
module _ (k m whole n : ℕ) (some : 0 < k) where
  least : whole ≤ m * k → n / k * whole ≤ n * m
  least lo =
      le_trans (mul-le-mul_left (n / k) lo)
      (le_trans (le_of_eq (sym (mul_assoc (n / k) m k) ∙ mul_right_comm (n / k) m k)) (mul-le-mul_right m (div-mul-le_self n k)))

  -- n is below the next multiple of k
  next : n * whole + whole ≤ suc (n / k) * whole * k
  next =
      le_trans (le_of_eq (sym (suc-mul n whole)))
      (le_trans (mul-le-mul_right whole ((div-lt_iff_lt-mul some).0 (lt-suc_self (n / k)))) (le_of_eq (mul_right_comm (suc (n / k)) k whole)))

  most : m * k ≤ whole + k → n * k < whole → n * m < suc (n / k) * whole
  most hi small =
      let p : n * m * k ≤ n * whole + n * k = le_trans (le_of_eq (mul_assoc n m k)) (le_trans (mul-le-mul_left n hi) (le_of_eq (mul-add n whole k))) in
      lt_of_mul-lt-mul_right k (lt_of_lt_of_le (lt_of_le_of_lt p (add-lt-add_of_le_of_lt (le_refl (n * whole)) small)) next)

-- the factor, k times
module _ (k : ℕ) (some : 0 < k) where
  times : factor_of k * k + (281474976710655 + k) % k ≡ 281474976710655 + k
  unfolding factor_of
  times = ap (λ (i : ℕ). i + (281474976710655 + k) % k) (mul_comm ((281474976710655 + k) / k) k) ∙ div-add-mod (281474976710655 + k) k

  factor_least : 281474976710656 ≤ factor_of k * k
  factor_least = let t = times in let r = mod-lt (281474976710655 + k) some in omega arith

  factor_most : factor_of k * k ≤ 281474976710656 + k
  factor_most = let t = times in omega arith

-- a place up to 65,536 samples on
module _ (k n : ℕ) (some : 0 < k) (small : k < 65536) (near : n / k < 65536) where
  within : n * k < 281474976710656
  within =
      let a : n < suc (n / k) * k = (div-lt_iff_lt-mul some).0 (lt-suc_self (n / k)) in
      let q : suc (n / k) ≤ 65536 = omega arith in
      let l : k ≤ 65535 = omega arith in
      let b : suc (n / k) * k ≤ 65536 * 65535 = mul-le-mul {n₂ = 65536} {m₂ = 65535} q l in
      let c : n ≤ 4294901760 = omega arith in
      let d : n * k ≤ 4294901760 * 65535 = mul-le-mul {n₂ = 4294901760} {m₂ = 65535} c l in
      omega arith

  product : n * factor_of k < suc (n / k) * 281474976710656
  product = most k (factor_of k) 281474976710656 n some (factor_most k some) within

  pub factor_fits : n * factor_of k < 18446744073709551616
  factor_fits =
      let p = product in
      let q : suc (n / k) ≤ 65536 = omega arith in
      let h : suc (n / k) * 281474976710656 ≤ 65536 * 281474976710656 = mul-le-mul_right 281474976710656 q in
      omega arith

  pub factor_divides : n * factor_of k / 281474976710656 ≡ n / k
  factor_divides =
      let z : suc (n / k) ≡ n / k + 1 = omega arith in
      let p : n * factor_of k < (n / k + 1) * 281474976710656 = lt_of_lt_of_le product (le_of_eq (ap (λ (i : ℕ). i * 281474976710656) z)) in
      div-eq_of_lt-le 281474976710656 (least k (factor_of k) 281474976710656 n some (factor_least k some)) p
