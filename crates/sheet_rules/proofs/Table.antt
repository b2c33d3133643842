-- The stripe table of a sheet: each extent names the records and lines of its stripe.
-- Assumes nothing.
use Prim.Native.Nat.{ℕ, ◌+◌, ◌-◌, ◌/◌, ◌≤◌, ◌<◌, min}
use native.Mathlib.Omega.{arith}
use mathlib.Core.Path.{◌≡◌, refl, sym, ap, ◌∙◌}
use mathlib.Core.Logic.{◌≢◌, ⊎_elim}
use mathlib.Core.Bool.{Bool, cond}
use mathlib.Core.List.{List, [], ◌∷◌, ◌++◌}
use lib.ListN.{length}
use lib.Dec.{eqb, ltb}
use borrow.Author.Tests.{eq-eqb, ne_eqb, le-leb}
use Rattle.sheet_rules.specs.declared.Record.{Record}
use Rattle.sheet_rules.specs.declared.State.{State}
use Rattle.std.specs.Prelude.{Some, None, Ok}
use Rattle.sheet_rules.specs.Record.{record_size, record_at, records_from, records, nth, height_in, most_records}
use Rattle.laws.specs.Tests.{only}
use Rattle.sheet_rules.specs.Judge.{judge_of}
use Rattle.sheet_rules.specs.Sentences.{Closing, Sheet, stripe_count}
use Rattle.sheet_rules.specs.StripeTable.{extent_of, with_record, few, found_extent, find_stripe, find_layer}
use Rattle.laws.proofs.Says.{says_eq, says_lt, says_else}
use Rattle.sheet_rules.proofs.Agrees.{Agrees}
use Rattle.sheet_rules.proofs.Fold.{begun_holds, unbroken_begun}
use Rattle.sheet_rules.proofs.Extents.{LayerCount, Extents, extents_begin, extents_more, first_next, top_next, first_none, top_none, first_mono}
use Rattle.sheet_rules.proofs.Among.{nth_among, sum_more}
use Rattle.sheet_rules.proofs.Cut.{records_count, record_nth}
use Rattle.sheet_rules.proofs.Theorems.{sheet_accepted, sheet_few}

-- rows are counted record by record
pub extent_none : (k : ℕ) → extent_of k [] ≡ record { first = 0; layers = 0; top = 0; height = 0 }
unfolding extent_of
extent_none k = refl

pub extent_more : (k : ℕ) (rs : List Record) (r : Record) → extent_of k (rs ++ (r ∷ [])) ≡ with_record k (extent_of k rs) r
unfolding extent_of with_record
extent_more k rs r =
    simp (sum_more rs r (λ x. only (ltb x.stripe k) 1), sum_more rs r (λ x. only (eqb x.stripe k) 1), sum_more rs r (λ x. only (ltb x.stripe k) (height_in x)), sum_more rs r (λ x. only (eqb x.stripe k) (height_in x)))

pub record Table (rs : List Record) : Type 0 where
  -- the first extent begins at record 0 and line 0, and each next where the one before it ends
  pub begins : ((extent_of 0 rs).first ≡ 0) × ((extent_of 0 rs).top ≡ 0)
  pub next : (k : ℕ) → ((extent_of (k + 1) rs).first ≡ (extent_of k rs).first + (extent_of k rs).layers) × ((extent_of (k + 1) rs).top ≡ (extent_of k rs).top + (extent_of k rs).height)
  -- the last ends at the last record
  pub ends : (extent_of (stripe_count rs) rs).first ≡ length rs
  -- a stripe of the sheet has layers 1 to N, N odd, 3 to 15; no other number has any
  pub layers : (k : ℕ) → k < stripe_count rs → LayerCount (extent_of k rs).layers
  pub none : (k : ℕ) → stripe_count rs ≤ k → (extent_of k rs).layers ≡ 0
  -- layer l of stripe k is the record first + (l - 1)
  pub found : (k l : ℕ) → 1 ≤ l → l ≤ (extent_of k rs).layers → ((nth rs ((extent_of k rs).first + (l - 1))).stripe ≡ k) × ((nth rs ((extent_of k rs).first + (l - 1))).layer ≡ l)
  -- and every record is found so
  pub index : (i : ℕ) → i < length rs → i + 1 ≡ (extent_of (nth rs i).stripe rs).first + (nth rs i).layer
  -- the height is layer 2's
  pub height : (k : ℕ) → k < stripe_count rs → (extent_of k rs).height ≡ (nth rs ((extent_of k rs).first + 1)).height

module _ (rs : List Record) (t : State) (z : Sheet rs) (g : Agrees rs t) (p : Extents rs t.stripe t.layer) where
  last : ((nth rs (length rs - 1)).stripe ≡ t.stripe) × ((nth rs (length rs - 1)).layer ≡ t.layer)
  last = let n = z.complete.count in g.last (length rs - 1) (omega arith)

  closing : Closing (nth rs (length rs - 1))
  closing = let n = z.complete.count in z.complete.closing (length rs - 1) (omega arith)

  layers' : (k : ℕ) → k < stripe_count rs → LayerCount (extent_of k rs).layers
  layers' k h =
      let l = last in
      ⊎_elim
      (λ (e : k ≡ t.stripe).
      let o = ap (λ (j : ℕ). (extent_of j rs).layers) e ∙ p.own in
      let c = closing in
      let b = g.bound in
      (omega arith, omega arith, omega arith))
      (λ (d : k ≢ t.stripe). p.closed k (omega arith))
      (says_else (says_eq k t.stripe))

  ends' : (extent_of (stripe_count rs) rs).first ≡ length rs
  ends' = ap (λ (j : ℕ). (extent_of (j + 1) rs).first) last.0 ∙ p.all

  none' : (k : ℕ) → stripe_count rs ≤ k → (extent_of k rs).layers ≡ 0
  none' k h = let l = last in p.beyond k (omega arith)

  within_count : (k l : ℕ) → 1 ≤ l → l ≤ (extent_of k rs).layers → k < stripe_count rs
  within_count k l a b =
      ⊎_elim (λ (h : k < stripe_count rs). h) (λ (h : k < stripe_count rs → ⊥). let e = none' k (omega arith) in absurd (omega arith))
      (says_else (says_lt k (stripe_count rs)))

  -- the record at a place between a stripe's first and the next one's is of that stripe
  stripe_at_lem : (k i : ℕ) → i < length rs → (extent_of k rs).first ≤ i → i < (extent_of (k + 1) rs).first → (nth rs i).stripe ≡ k
  stripe_at_lem k i h a b =
      let s : ℕ = (nth rs i).stripe in
      let x = p.index i h in
      let w = p.within (nth rs i) (nth_among rs i h) in
      let e = first_next s rs in
      ⊎_elim
      (λ (l : s < k). let m = first_mono rs (s + 1) k (omega arith) in absurd (omega arith))
      (λ (l : s < k → ⊥).
      ⊎_elim (λ (q : k < s).
      let m = first_mono rs (k + 1) s (omega arith) in
      let one = (g.passed (nth rs i) (nth_among rs i h)).0 in
      absurd (omega arith)) (λ (q : k < s → ⊥). omega arith) (says_else (says_lt k s)))
      (says_else (says_lt s k))

  found' : (k l : ℕ) → 1 ≤ l → l ≤ (extent_of k rs).layers → ((nth rs ((extent_of k rs).first + (l - 1))).stripe ≡ k) × ((nth rs ((extent_of k rs).first + (l - 1))).layer ≡ l)
  found' k l a b =
      let i : ℕ = (extent_of k rs).first + (l - 1) in
      let e = first_next k rs in
      let c = within_count k l a b in
      let m = first_mono rs (k + 1) (stripe_count rs) (omega arith) in
      let n = ends' in
      let h : i < length rs = omega arith in
      let s = stripe_at_lem k i h (omega arith) (omega arith) in
      let x = p.index i h in
      let y = ap (λ (j : ℕ). (extent_of j rs).first) s in
      (s, omega arith)

  height' : (k : ℕ) → k < stripe_count rs → (extent_of k rs).height ≡ (nth rs ((extent_of k rs).first + 1)).height
  height' k h =
      let c = layers' k h in
      let f = found' k 2 (omega arith) (omega arith) in
      let e = first_next k rs in
      let m = first_mono rs (k + 1) (stripe_count rs) (omega arith) in
      let n = ends' in
      let i : ℕ = (extent_of k rs).first + 1 in
      ap (λ (j : ℕ). (extent_of j rs).height) (sym f.0) ∙ p.high (nth rs i) (nth_among rs i (omega arith)) f.1

  table : Table rs
  table =
      record {
        begins = (first_none rs, top_none rs);
        next = λ k. (first_next k rs, top_next k rs);
        ends = ends';
        layers = layers';
        none = none';
        found = found';
        index = p.index;
        height = height';
      }

pub sheet_table : (rs : List Record) → Sheet rs → Table rs
sheet_table rs z =
    let b = unbroken_begun rs z.unbroken in
    let k = begun_holds (λ ps st. Extents ps st.stripe st.layer) (λ ps st r g n p. extents_more ps st r g n p) rs b.0 extents_begin b.1 in
    table rs b.0 z k.0 k.1

-- ---- what is found in a sheet that was judged good

few_all : (s : List ℕ) (n m : ℕ) → judge_of s ≡ Ok (record { records = n; stripes = m }) → few s ≡ records s
unfolding few records
few_all s n m e =
    let f = sheet_few s n m e in
    let z : min (length s / record_size) most_records ≡ length s / record_size = omega arith in
    ap (λ (k : ℕ). records_from s k 0) z

module _ (s : List ℕ) (n m : ℕ) (e : judge_of s ≡ Ok (record { records = n; stripes = m })) where
  tabled : Table (records s)
  tabled = sheet_table (records s) ((sheet_accepted s n m).0 e).sheet

  -- a stripe of the sheet is found with its extent, and no other is
  pub stripe_found_lem : (k : ℕ) → k < m → find_stripe s k ≡ Some (extent_of k (records s))
  unfolding find_stripe found_extent
  stripe_found_lem k h =
      let c = ((sheet_accepted s n m).0 e).stripes in
      let l = tabled.layers k (omega arith) in
      ap (λ (rs : List Record). found_extent (extent_of k rs)) (few_all s n m e)
      ∙ ap (λ (b : Bool). cond b None (Some (extent_of k (records s)))) (ne_eqb (extent_of k (records s)).layers 0 (λ q. omega arith))

  pub stripe_missing : (k : ℕ) → m ≤ k → find_stripe s k ≡ None
  unfolding find_stripe found_extent
  stripe_missing k h =
      let c = ((sheet_accepted s n m).0 e).stripes in
      let l = tabled.none k (omega arith) in
      ap (λ (rs : List Record). found_extent (extent_of k rs)) (few_all s n m e)
      ∙ ap (λ (b : Bool). cond b None (Some (extent_of k (records s)))) (eq-eqb (extent_of k (records s)).layers 0 l)

  -- layer l of stripe k is found at a record of the sheet with these numbers
  pub layer_found_lem : (k l : ℕ) → 1 ≤ l → l ≤ (extent_of k (records s)).layers
      → (find_layer (extent_of k (records s)) l ≡ Some ((extent_of k (records s)).first + (l - 1)))
      × ((record_at s ((extent_of k (records s)).first + (l - 1))).stripe ≡ k)
      × ((record_at s ((extent_of k (records s)).first + (l - 1))).layer ≡ l)
      × ((extent_of k (records s)).first + (l - 1) < n)
  unfolding find_layer
  layer_found_lem k l a b =
      let f = tabled.found k l a b in
      let i : ℕ = (extent_of k (records s)).first + (l - 1) in
      let c = within_count_of k l a b in
      let q = record_nth s i (omega (arith, c, records_count s)) in
      let cnt = ((sheet_accepted s n m).0 e).count in
      (simp (le-leb 1 l a, le-leb l (extent_of k (records s)).layers b), ap (λ (r : Record). r.stripe) (sym q) ∙ f.0, ap (λ (r : Record). r.layer) (sym q) ∙ f.1, omega arith)
    where
      within_count_of : (k l : ℕ) → 1 ≤ l → l ≤ (extent_of k (records s)).layers → (extent_of k (records s)).first + (l - 1) < length (records s)
      within_count_of k l a b =
          let x = (tabled.next k).0 in
          let y = tabled.ends in
          let h : k < stripe_count (records s) =
          ⊎_elim (λ (h : k < stripe_count (records s)). h) (λ (h : k < stripe_count (records s) → ⊥). let e = tabled.none k (omega arith) in absurd (omega arith))
          (says_else (says_lt k (stripe_count (records s)))) in
          let mo = first_mono (records s) (k + 1) (stripe_count (records s)) (omega arith) in
          omega arith
