-- What is proved of the rules of the sheet. The statements are for the reader; how each is shown stands in the files beside this one.
-- Assumes nothing.
use Prim.Native.Nat.{ℕ, ◌+◌, ◌-◌, ◌*◌, ◌/◌, ◌≤◌, ◌<◌}
use native.Mathlib.Omega.{arith}
use mathlib.Core.Path.{◌≡◌, refl, sym, ap, subst, ◌∙◌}
use mathlib.Core.Logic.{◌↔◌, inl, inr}
use mathlib.Core.List.{List, ◌++◌}
use lib.ListN.{length, take}
use lib.Seq.{length-take-le}
use Rattle.octets.proofs.Entries.{length_entries, entries_split, entries_take}
use Rattle.answers.specs.Answers.{Answer}
use Rattle.answers.specs.declared.Refusal.TheVariants.{BadSheet}
use Rattle.sheet_rules.specs.declared.Record.{Record}
use Rattle.std.specs.Prelude.{Option, Some, None, Result, Ok, Err}
use Rattle.sheet_rules.specs.declared.Counts.{Counts}
use Rattle.sheet_rules.specs.declared.State.{State}
use Rattle.sheet_rules.specs.Record.{record_size, record_at, records_from, records, rest, nth, decisive_size, most_records}
use Rattle.sheet_rules.specs.Judge.{begin, run, walk, judge, judge_of, answer_of, sheet_answer}
use Rattle.sheet_rules.specs.Sentences.{Unbroken, stripe_count, FaultAt, GoodSheet, BadSheetAt, Judges, good, no_sheet}
use Rattle.sheet_rules.specs.StripeTable.{few}
use Rattle.sheet_rules.proofs.Fold.{begun_unbroken, unbroken_begun, walk_stop}
use Rattle.sheet_rules.proofs.Judged.{judge_answers, fault_once, fault_no_sheet}
use Rattle.sheet_rules.proofs.Among.{nth_among}
use Rattle.sheet_rules.proofs.Cut.{record_entry, records_count}

good_bad : {A : Type 0} {c : Counts} {i : ℕ} → Ok c ≡ Err i → A
good_bad e = absurd (let z : ◌≡◌ {A = ℕ} 0 1 = cc in omega arith)

counts_same : {c d : Counts} → ◌≡◌ {A = Result Counts ℕ} (Ok c) (Ok d) → c ≡ d
counts_same e = cc

-- ---- the judge answers good exactly if the sentences hold, with the counts of records and stripes

pub sheet_accepted : (s : List ℕ) (n m : ℕ) → judge_of s ≡ Ok (record { records = n; stripes = m }) ↔ GoodSheet s n m
unfolding judge_of
sheet_accepted s n m = (
  judge_answers (records s) (rest s) (λ v. v ≡ Ok (record { records = n; stripes = m }) → GoodSheet s n m)
      (λ k z e. let q : record { records = n; stripes = m } ≡ record { records = length (records s); stripes = stripe_count (records s) } = counts_same (sym e) in
      record { sheet = k; whole = z; count = ap (λ (c : Counts). c.records) q; stripes = ap (λ (c : Counts). c.stripes) q })
      (λ i f e. good_bad (sym e)),
  λ g.
      judge_answers (records s) (rest s) (λ v. v ≡ Ok (record { records = n; stripes = m }))
      (λ k z. ap (λ (c : Counts). Ok c) (λ i. record { records = sym g.count i; stripes = sym g.stripes i }))
      (λ i f. absurd (fault_no_sheet (records s) (rest s) i f g.sheet g.whole)),
)

-- ---- and otherwise the record at fault: the first that, with those before it, breaks a rule, or the one that was due

pub sheet_refused : (s : List ℕ) (i : ℕ) → judge_of s ≡ Err i ↔ BadSheetAt s i
unfolding judge_of
sheet_refused s i = (
  judge_answers (records s) (rest s) (λ v. v ≡ Err i → BadSheetAt s i)
      (λ k z e. good_bad e)
      (λ j f e. let z : j ≡ i = cc in subst (BadSheetAt s) z f),
  λ f.
      judge_answers (records s) (rest s) (λ v. v ≡ Err i)
      (λ k z. absurd (fault_no_sheet (records s) (rest s) i f k z))
      (λ j d. ap Err (fault_once (records s) (rest s) j i d f)),
)

-- ---- so each answer of the judge is given exactly when the sentences have it

pub sheet_exactly : (s : List ℕ) (a : Answer) → sheet_answer s ≡ a ↔ Judges s a
unfolding sheet_answer answer_of
sheet_exactly s a = (λ e. subst (Judges s) e (by (judge_of s) refl), back a)
  where
    by : (v : Result Counts ℕ) → judge_of s ≡ v → Judges s (answer_of v)
    by (Ok c) e = let g = (sheet_accepted s c.records c.stripes).0 e in good (g.sheet, g.whole) g.count
    by (Err i) e = no_sheet ((sheet_refused s i).0 e)

    back : (a : Answer) → Judges s a → answer_of (judge_of s) ≡ a
    back (Ok n) (good ok c) =
        ap answer_of ((sheet_accepted s n (stripe_count (records s))).1 (record { sheet = ok.0; whole = ok.1; count = c; stripes = refl }))
    back (Err (BadSheet i)) (no_sheet f) = ap answer_of ((sheet_refused s i).1 f)
    back (Err (Rattle.answers.specs.declared.Refusal.TheVariants.Short _)) x'' = elim x'' [ ]
    back (Err (Rattle.answers.specs.declared.Refusal.TheVariants.BadMark _)) x3 = elim x3 [ ]
    back (Err (Rattle.answers.specs.declared.Refusal.TheVariants.BadLength _)) x4 = elim x4 [ ]
    back (Err (Rattle.answers.specs.declared.Refusal.TheVariants.BadVersion _)) x5 = elim x5 [ ]
    back (Err (Rattle.answers.specs.declared.Refusal.TheVariants.BadMode _)) x6 = elim x6 [ ]
    back (Err (Rattle.answers.specs.declared.Refusal.TheVariants.BadCoder _)) x7 = elim x7 [ ]
    back (Err (Rattle.answers.specs.declared.Refusal.TheVariants.BadRes _)) x8 = elim x8 [ ]
    back (Err (Rattle.answers.specs.declared.Refusal.TheVariants.BadWidth _)) x9 = elim x9 [ ]
    back (Err (Rattle.answers.specs.declared.Refusal.TheVariants.BadType _)) x10 = elim x10 [ ]
    back (Err (Rattle.answers.specs.declared.Refusal.TheVariants.BadStripe _)) x11 = elim x11 [ ]
    back (Err (Rattle.answers.specs.declared.Refusal.TheVariants.BadLayer _)) x12 = elim x12 [ ]
    back (Err (Rattle.answers.specs.declared.Refusal.TheVariants.Trailing _)) x13 = elim x13 [ ]
    back (Err Rattle.answers.specs.declared.Refusal.TheVariants.NoRoom) x13 = elim x13 [ ]
    back (Err (Rattle.answers.specs.declared.Refusal.TheVariants.BadPlane _)) x15 = elim x15 [ ]
    back (Err (Rattle.answers.specs.declared.Refusal.TheVariants.Mismatch _)) x16 = elim x16 [ ]
    back (Err Rattle.answers.specs.declared.Refusal.TheVariants.BadLine) x16 = elim x16 [ ]
    back (Err Rattle.answers.specs.declared.Refusal.TheVariants.TooLong) x17 = elim x17 [ ]

-- ---- at most 64 stripes and 960 records, and nothing but whole records

pub unbroken_few : (rs : List Record) → Unbroken rs → length rs ≤ most_records
unbroken_few rs u =
    let b = unbroken_begun rs u in
    let g = (begun_unbroken rs b.0 b.1).1 in
    let k = g.bound in
    let c = g.count in
    omega arith

pub sheet_few : (s : List ℕ) (n m : ℕ) → judge_of s ≡ Ok (record { records = n; stripes = m })
    → (n ≤ most_records) × (1 ≤ m) × (m ≤ 64) × (length s ≡ n * record_size)
sheet_few s n m e =
    let g = (sheet_accepted s n m).0 e in
    let u = g.sheet.unbroken in
    let f = unbroken_few (records s) u in
    let l = records_count s in
    let c = g.sheet.complete.count in
    let k = u.few (nth (records s) (length (records s) - 1)) (nth_among (records s) (length (records s) - 1) (omega arith)) in
    let w = g.whole in
    let h = g.count in
    let st = g.stripes in
    (omega arith, omega arith, omega arith, omega arith)

-- a record at fault is one of the first 960, or the one due after them
pub refused_few : (s : List ℕ) (i : ℕ) → judge_of s ≡ Err i → (i ≤ most_records) × (i ≤ length s / record_size)
refused_few s i e = go ((sheet_refused s i).0 e)
  where
    go : FaultAt (records s) (rest s) i → (i ≤ most_records) × (i ≤ length s / record_size)
    go (inl b) =
        let f = unbroken_few (take i (records s)) b.before in
        let w = b.within in
        let t = length-take-le i (records s) (omega arith) in
        let l = records_count s in
        (omega arith, omega arith)
    go (inr b) =
        let f = unbroken_few (records s) b.before in
        let l = records_count s in
        let d = b.due in
        (omega arith, omega arith)

-- ---- the judge of the first 26,908 octets is the judge of all where there are more

judge_front : (ps qs : List Record) (part part' : ℕ) → most_records < length ps → judge (ps ++ qs) part ≡ judge ps part'
unfolding judge
judge_front ps qs part part' h = go (run begin ps) refl
  where
    go : (x : Option State) → run begin ps ≡ x → walk begin 0 (ps ++ qs) part ≡ walk begin 0 ps part'
    go (Some t) e = let f = unbroken_few ps (begun_unbroken ps t e).0 in absurd (omega arith)
    go None e = walk_stop begin 0 ps qs part part' e

pub sheet_cut : (s : List ℕ) → decisive_size ≤ length s → judge_of (take decisive_size s) ≡ judge_of s
unfolding judge_of records
sheet_cut s h =
    let l = length-take-le decisive_size s h in
    let a : length (take decisive_size s) / record_size ≡ most_records + 1 = omega arith in
    let m : ℕ = length s / record_size - (most_records + 1) in
    let b : length s / record_size ≡ most_records + 1 + m = omega arith in
    let c = length_entries (record_at s) (most_records + 1) 0 in
    ap (λ (k : ℕ). judge (records_from (take decisive_size s) k 0) (rest (take decisive_size s))) a
    ∙ ap (λ (x : List Record). judge x (rest (take decisive_size s))) (entries_take record_entry decisive_size s (most_records + 1) (omega arith))
    ∙ sym (judge_front (records_from s (most_records + 1) 0) (records_from s m (0 + (most_records + 1))) (rest s) (rest (take decisive_size s)) (omega arith))
    ∙ ap (λ (x : List Record). judge x (rest s)) (sym (entries_split (record_at s) (most_records + 1) m 0))
    ∙ ap (λ (k : ℕ). judge (records_from s k 0) (rest s)) (sym b)
