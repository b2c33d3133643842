-- A sheet with octet 17 cleared is judged as it was, where it was accepted, and has the same stripes.
-- Assumes nothing.
use Prim.Native.Nat.{ℕ, zero, suc, ◌+◌, ◌*◌, ◌/◌, ◌%◌, ◌≤◌, ◌<◌}
use native.Mathlib.Nat.{add_assoc, add-zero}
use native.Mathlib.Omega.{arith}
use mathlib.Core.Path.{◌≡◌, refl, sym, ap, ap₂, subst, ◌∙◌}
use mathlib.Core.Logic.{◌⊎◌, inl, inr, ◌≢◌, ⊎_elim}
use mathlib.Core.Bool.{Bool, true, false, ◌&&◌, false≢true}
use mathlib.Core.List.{List, [], ◌∷◌}
use lib.ListN.{length, get_or}
use lib.Dec.{eqb, ltb, lit<}
use Rattle.laws.specs.Tests.{only}
use Rattle.laws.proofs.Cases.{clash}
use Rattle.laws.proofs.Says.{says_eq, says_lt, says_else}
use Rattle.octets.specs.Octets.{be16_at, be32_at}
use Rattle.octets.specs.Entries.{entries_from}
use Rattle.octets.proofs.Laws.{put_length, put_get_d, put_get_d_before, put_get_d_after}
use Rattle.sheet_rules.specs.declared.Record.{Record}
use Rattle.sheet_rules.specs.declared.State.{State}
use Rattle.std.specs.Prelude.{Option, Some, None, Result, Ok, Err}
use Rattle.sheet_rules.specs.declared.Counts.{Counts}
use Rattle.sheet_rules.specs.Record.{record_size, record_from, record_at, records_from, records, rest, marked, sum_of, height_in}
use Rattle.sheet_rules.specs.Judge.{zeros_ok, grey_ok, placed, data_ok, listed, base_ok, layer_ok, keeps, after, after1, after2, after3, step_of, on_step, walk, judge, judge_of, begin}
use Rattle.sheet_rules.specs.Sentences.{Accepted, stripe_count}
use Rattle.sheet_rules.specs.StripeTable.{extent_of}
use Rattle.sheet_rules.proofs.Cut.{record_entry}
use Rattle.sheet_rules.proofs.Theorems.{sheet_accepted}
use Rattle.grey_planes.specs.Spread.{Clears, cleared}

-- ---- one record

-- a record that is kept is kept with octet 17 cleared
and_cleared : (z g p d l b v : Bool) → z && g && p && d && l && b && v ≡ true → z && true && p && d && l && b && v ≡ true
and_cleared true true p d l b v e = e
and_cleared true false p d l b v e = absurd (false≢true e)
and_cleared false g p d l b v e = absurd (false≢true e)

module _ (st : State) (r : Record) where
  keeps_cleared : keeps st r ≡ true → keeps st (marked 0 r) ≡ true
  unfolding keeps
  keeps_cleared e = and_cleared (zeros_ok r) (grey_ok r) (placed st r) (data_ok r) (listed r.res) (base_ok r) (layer_ok st r) e

  after_cleared : after st (marked 0 r) ≡ after st r
  unfolding after after1 after2 after3
  after_cleared = refl

  step_kept : (q : Record) → keeps st q ≡ true → step_of st q ≡ Some (after st q)
  unfolding step_of
  step_kept q e = simp e

  step_stops : keeps st r ≡ false → step_of st r ≡ None
  unfolding step_of
  step_stops e = simp e

  step_cleared : (q : Record) → (q ≡ r) ⊎ (q ≡ marked 0 r) → keeps st r ≡ true → step_of st q ≡ Some (after st r)
  step_cleared q (inl e) k = ap (step_of st) e ∙ step_kept r k
  step_cleared q (inr e) k = ap (step_of st) e ∙ step_kept (marked 0 r) (keeps_cleared k) ∙ ap Some after_cleared

-- ---- a sheet

module _ (s t : List ℕ) (c : Clears s t) where
  -- what a step leads to, k records before the end of those of the sheet u
  abbrev goes : List ℕ → ℕ → ℕ → ℕ → ℕ → Option State → Result Counts ℕ
  goes u k i j part x = on_step x (Err j) (λ (q : State). walk q (j + 1) (records_from u k (i + 1)) part)

  walk_cleared : (k i : ℕ) (st : State) (j part n m : ℕ) → walk st j (records_from s k i) part ≡ Ok (record { records = n; stripes = m }) → walk st j (records_from t k i) part ≡ Ok (record { records = n; stripes = m })
  unfolding walk entries_from on_step
  walk_cleared zero i st j part n m e = e
  walk_cleared (suc k) i st j part n m e = by (keeps st (record_at s i)) refl (walk_cleared k (i + 1) (after st (record_at s i)) (j + 1) part n m)
    where
      by : (b : Bool) → keeps st (record_at s i) ≡ b
          → (walk (after st (record_at s i)) (j + 1) (records_from s k (i + 1)) part ≡ Ok (record { records = n; stripes = m }) → walk (after st (record_at s i)) (j + 1) (records_from t k (i + 1)) part ≡ Ok (record { records = n; stripes = m }))
          → walk st j (records_from t (suc k) i) part ≡ Ok (record { records = n; stripes = m })
      by true h go =
          ap (goes t k i j part) (step_cleared st (record_at s i) (record_at t i) (c.each i) h) ∙ go (sym (ap (goes s k i j part) (step_kept st (record_at s i) (record_at s i) h)) ∙ e)
      by false h go = let z : goes s k i j part None ≡ Ok (record { records = n; stripes = m }) = sym (ap (goes s k i j part) (step_stops st (record_at s i) h)) ∙ e in clash cc

  pub clears_judged : (n m : ℕ) → judge_of s ≡ Ok (record { records = n; stripes = m }) → judge_of t ≡ Ok (record { records = n; stripes = m })
  unfolding judge_of judge records
  clears_judged n m e =
      ap₂ (λ (k part : ℕ). walk begin 0 (records_from t k 0) part) (ap (λ (x : ℕ). x / record_size) c.long) (ap (λ (x : ℕ). x % record_size) c.long)
      ∙ walk_cleared (length s / record_size) 0 begin 0 (rest s) n m e

  -- clearing keeps the sheet accepted, with as many stripes
  pub clears_accepted : Accepted s → Accepted t × (stripe_count (records t) ≡ stripe_count (records s))
  clears_accepted a =
      let g = (sheet_accepted t (length (records s)) (stripe_count (records s))).0 (clears_judged _ _ ((sheet_accepted s _ _).1 (record { sheet = a.0; whole = a.1; count = refl; stripes = refl }))) in
      ((g.sheet, g.whole), sym g.stripes)

  -- a number of each record that does not hang on octet 17, added up
  sum_cleared : (f : Record → ℕ) → ((r : Record) → f (marked 0 r) ≡ f r) → (k i : ℕ) → sum_of f (records_from t k i) ≡ sum_of f (records_from s k i)
  unfolding sum_of entries_from
  sum_cleared f e zero i = refl
  sum_cleared f e (suc k) i =
      ap₂ (λ (a b : ℕ). a + b)
      (⊎_elim (λ (z : record_at t i ≡ record_at s i). ap f z) (λ (z : record_at t i ≡ marked 0 (record_at s i)). ap f z ∙ e (record_at s i)) (c.each i))
      (sum_cleared f e k (i + 1))

  sum_all : (f : Record → ℕ) → ((r : Record) → f (marked 0 r) ≡ f r) → sum_of f (records t) ≡ sum_of f (records s)
  unfolding records
  sum_all f e = ap (λ (k : ℕ). sum_of f (records_from t (k / record_size) 0)) c.long ∙ sum_cleared f e (length s / record_size) 0

  pub clears_extent : (k : ℕ) → extent_of k (records t) ≡ extent_of k (records s)
  unfolding extent_of
  clears_extent k =
      let first = sum_all (λ (r : Record). only (ltb r.stripe k) 1) (λ r. refl) in
      let layers = sum_all (λ (r : Record). only (eqb r.stripe k) 1) (λ r. refl) in
      let top = sum_all (λ (r : Record). only (ltb r.stripe k) (height_in r)) (λ r. refl) in
      let height = sum_all (λ (r : Record). only (eqb r.stripe k) (height_in r)) (λ r. refl) in
      λ i. record { first = first i; layers = layers i; top = top i; height = height i }

-- ---- octet 17 of one record, cleared

module _ (s : List ℕ) (i : ℕ) (h : i < length s / record_size) where
  octet_kept : (j : ℕ) → j ≢ i * record_size + 17 → get_or (cleared s i) j 0 ≡ get_or s j 0
  octet_kept j d =
      ⊎_elim (λ (b : j < i * record_size + 17). put_get_d_before s (i * record_size + 17) (0 ∷ []) j (omega arith) b)
      (λ (b : j < i * record_size + 17 → ⊥). put_get_d_after s (i * record_size + 17) (0 ∷ []) j (omega arith) (after_it b))
      (says_else (says_lt j (i * record_size + 17)))
    where
      after_it : (j < i * record_size + 17 → ⊥) → i * record_size + 17 + 1 ≤ j
      after_it b = omega arith

  octet_cleared : get_or (cleared s i) (i * record_size + 17) 0 ≡ 0
  octet_cleared =
      let z : i * record_size + 17 ≡ i * record_size + 17 + 0 = omega arith in
      ap (λ (j : ℕ). get_or (cleared s i) j 0) z ∙ put_get_d s (i * record_size + 17) (0 ∷ []) 0 (omega arith) (lit< tt)

  pub record_other : (j : ℕ) → j ≢ i → record_at (cleared s i) j ≡ record_at s j
  record_other j d = record_entry.own (cleared s i) s j j (λ m g. octet_kept (j * record_size + m) (λ z. apart m g z))
    where
      apart : (m : ℕ) → m < record_size → j * record_size + m ≡ i * record_size + 17 → ⊥
      apart m g z = d (omega arith)

  pub record_cleared : record_at (cleared s i) i ≡ marked 0 (record_at s i)
  unfolding record_at be16_at be32_at
  record_cleared =
      all (i * record_size) (λ m g. octet_kept (i * record_size + m) (λ z. omega arith)) octet_cleared
      (λ m. octet_kept (i * record_size + (18 + m)) (λ z. omega arith))
    where
      all : (at : ℕ) → ((m : ℕ) → m < 17 → get_or (cleared s i) (at + m) 0 ≡ get_or s (at + m) 0) → get_or (cleared s i) (at + 17) 0 ≡ 0
          → ((m : ℕ) → get_or (cleared s i) (at + (18 + m)) 0 ≡ get_or s (at + (18 + m)) 0) → record_from (cleared s i) at ≡ marked 0 (record_from s at)
      all at low z high =
          let o : get_or (cleared s i) at 0 ≡ get_or s at 0 = ap (λ (k : ℕ). get_or (cleared s i) k 0) (sym (add-zero at)) ∙ low 0 (lit< tt) ∙ ap (λ (k : ℕ). get_or s k 0) (add-zero at) in
          simp (add_assoc, o, z, low 1 (lit< tt), low 2 (lit< tt), low 3 (lit< tt), low 4 (lit< tt), low 5 (lit< tt), low 6 (lit< tt), low 7 (lit< tt), low 8 (lit< tt), low 9 (lit< tt), low 10 (lit< tt), low 11 (lit< tt), low 12 (lit< tt), low 13 (lit< tt), low 14 (lit< tt), low 15 (lit< tt), low 16 (lit< tt), high 0, high 1, high 2, high 3, high 4, high 5, high 6, high 7, high 8, high 9)

  pub cleared_clears : Clears s (cleared s i)
  cleared_clears =
      record {
        long = put_length s (i * record_size + 17) (0 ∷ []) (omega arith);
        each = λ j.
            ⊎_elim (λ (e : j ≡ i). inr (subst (λ (n : ℕ). record_at (cleared s i) n ≡ marked 0 (record_at s n)) (sym e) record_cleared)) (λ (e : j ≢ i). inl (record_other j e))
            (says_else (says_eq j i));
      }
