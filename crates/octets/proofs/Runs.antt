-- A run of one octet: where it ends, and what stands up to there.
-- Assumes nothing.
use Prim.Native.Nat.{ℕ, zero, suc, ◌+◌, ◌-◌, ◌≤◌, ◌<◌}
use native.Mathlib.Omega.{arith}
use mathlib.Core.Path.{◌≡◌, ap, ap₂, sym, ◌∙◌}
use mathlib.Core.Logic.{◌≢◌}
use mathlib.Core.Bool.{Bool, cond}
use mathlib.Core.List.{List, ◌∷◌, ◌++◌}
use lib.ListN.{length, get_or, drop, replicate}
use lib.Dec.{eqb}
use borrow.Author.Tests.{eq-eqb, ne_eqb, eqb-true, eqb-false}
use Rattle.laws.proofs.Cases.{cond_with}
use Rattle.octets.proofs.Laws.{drop_octet}

-- past the octets v among n from i on
unfoldable pub run_from : ℕ → ℕ → List ℕ → ℕ → ℕ
run_from v zero s i = i
run_from v (suc n) s i = cond (eqb (get_or s i 0) v) (run_from v n s (i + 1)) i

-- the first place from i on where another octet stands, or the end of the list
unfoldable pub run_end : ℕ → List ℕ → ℕ → ℕ
unfolding run_from
run_end v s i = run_from v (length s - i) s i

module _ (v : ℕ) (s : List ℕ) where
  -- one octet
  pub end_over : (i : ℕ) → length s ≤ i → run_end v s i ≡ i
  unfolding run_end
  end_over i h = let z : length s - i ≡ 0 = omega arith in ap (λ (n : ℕ). run_from v n s i) z

  module _ (i : ℕ) (h : i < length s) where
    end_opens : run_end v s i ≡ cond (eqb (get_or s i 0) v) (run_end v s (i + 1)) i
    unfolding run_end
    end_opens = let z : length s - i ≡ suc (length s - (i + 1)) = omega arith in ap (λ (n : ℕ). run_from v n s i) z

    pub end_here : get_or s i 0 ≢ v → run_end v s i ≡ i
    end_here n = end_opens ∙ ap (λ (b : Bool). cond b (run_end v s (i + 1)) i) (ne_eqb (get_or s i 0) v n)

    pub end_next : get_or s i 0 ≡ v → run_end v s i ≡ run_end v s (i + 1)
    end_next e = end_opens ∙ ap (λ (b : Bool). cond b (run_end v s (i + 1)) i) (eq-eqb (get_or s i 0) v e)

  ahead_from : (n i : ℕ) → i ≤ run_from v n s i
  unfolding run_from
  ahead_from zero i = omega arith
  ahead_from (suc n) i =
      cond_with (λ x. i ≤ x) (eqb (get_or s i 0) v) (λ t. let m = ahead_from n (i + 1) in omega arith) (λ t. omega arith)

  pub end_ahead : (i : ℕ) → i ≤ run_end v s i
  unfolding run_end
  end_ahead i = ahead_from (length s - i) i

  -- the octets from i up to e are the run, and another one stands there
  pub record Run (i e : ℕ) : Type 0 where
    pub after : i ≤ e
    pub inside : e ≤ length s
    pub stands : drop i s ≡ replicate (e - i) v ++ drop e s
    pub other : e < length s → get_or s e 0 ≢ v

  run_none : (i : ℕ) → i ≤ length s → (i < length s → get_or s i 0 ≢ v) → Run i i
  run_none i h n =
      let z : i - i ≡ 0 = omega arith in
      record { after = omega arith; inside = h; stands = ap (λ (k : ℕ). replicate k v ++ drop i s) (sym z); other = n }

  run_from_lem : (n i : ℕ) → i + n ≡ length s → Run i (run_from v n s i)
  unfolding run_from
  run_from_lem zero i h = run_none i (omega arith) (λ l. absurd (omega arith))
  run_from_lem (suc n) i h =
      cond_with (Run i) (eqb (get_or s i 0) v)
      (λ t.
      let m = run_from_lem n (i + 1) (omega arith) in
      let a = m.after in
      let e : ℕ = run_from v n s (i + 1) in
      let z : suc (e - (i + 1)) ≡ e - i = omega arith in
      record {
        after = omega arith;
        inside = m.inside;
        stands =
            drop_octet s i (omega arith)
            ∙ ap₂ (λ (x : ℕ) (l : List ℕ). x ∷ l) (eqb-true (get_or s i 0) v t) m.stands
            ∙ ap (λ (k : ℕ). replicate k v ++ drop e s) z;
        other = m.other;
      })
      (λ t. run_none i (omega arith) (λ l. eqb-false (get_or s i 0) v t))

  pub run_back : (i : ℕ) → i ≤ length s → Run i (run_end v s i)
  unfolding run_end
  run_back i h = run_from_lem (length s - i) i (omega arith)
