-- One law for each way out of the functions: its premises are what is known there.
-- Assumes nothing.
use Prim.Native.Nat.{ℕ, zero, suc, ◌+◌, ◌≤◌, ◌<◌}
use native.Mathlib.Omega.{arith}
use mathlib.Core.Path.{◌≡◌, refl, sym, ap, ◌∙◌}
use mathlib.Core.Bool.{true}
use mathlib.Core.Logic.{⊎_elim}
use mathlib.Core.List.{List}
use lib.ListN.{length, get_or}
use lib.Dec.{eqb}
use borrow.Author.Rules.{rules}
use Rattle.laws.proofs.Says.{says_lt, says_eq, says_else}
use Rattle.octets.proofs.Runs.{run_end, end_over, end_here, end_next}
use Rattle.octets_run.specs.Runs.{RunsTo}

-- ---- run_to: the run from `from` on is the run from i on

module _ (v : ℕ) (s : List ℕ) (from to i : ℕ) where
  pub record Running : Type 0 where
    pub most : i ≤ to
    pub same : run_end v s from ≡ run_end v s i

module _ (v : ℕ) (s : List ℕ) (from to i : ℕ) (c : Running v s from to i) where
  module _ (l : i < to) (h : to ≤ length s) where
    pub run_stop : (get_or s i 0 ≡ v → ⊥) → RunsTo v s from to i
    run_stop n = record { most = c.most; same = c.same; stop = λ k. end_here v s i (omega arith) n }

    pub run_on : get_or s i 0 ≡ v → Running v s from to (i + 1)
    run_on e = record { most = omega arith; same = c.same ∙ end_next v s i (omega arith) e }

pub ruleset running = (rules, run_stop, run_on)

-- ---- all_same

pub same_by : (v : ℕ) (s : List ℕ) (i n : ℕ) → i + n ≤ length s → ((j : ℕ) → j < n → eqb (get_or s (i + j) 0) v ≡ true) → run_end v s i ≡ run_end v s (i + n)
same_by v s i zero h k = let z : i ≡ i + 0 = omega arith in ap (run_end v s) z
same_by v s i (suc n) h k =
    let z : i + n + 1 ≡ i + suc n = omega arith in
    same_by v s i n (omega arith) (λ j l. k j (omega arith))
    ∙ end_next v s (i + n) (omega arith) ((says_eq (get_or s (i + n) 0) v).told (k n (omega arith)))
    ∙ ap (run_end v s) z

-- ---- run_end

pub record Blocks (v : ℕ) (s : List ℕ) (from i : ℕ) : Type 0 where
  pub fits : i ≤ length s
  pub same : run_end v s from ≡ run_end v s i

module _ (v : ℕ) (s : List ℕ) (from : ℕ) where
  -- up to the end of the list
  end_by : {i r : ℕ} → run_end v s from ≡ run_end v s i → RunsTo v s i (length s) r → r ≡ run_end v s from
  end_by {i} {r} e k =
      sym
      (e ∙ k.same
      ∙ ⊎_elim (λ (l : r < length s). k.stop l) (λ (l : r < length s → ⊥). end_over v s r (omega arith)) (says_else (says_lt r (length s))))

  pub end_near : {r : ℕ} → RunsTo v s from (length s) r → r ≡ run_end v s from
  end_near k = end_by refl k

  module _ (i : ℕ) (c : Blocks v s from i) where
    pub blocks_end : {r : ℕ} → RunsTo v s i (length s) r → r ≡ run_end v s from
    blocks_end k = end_by c.same k

pub ruleset ending = (rules, end_near, blocks_end)
