-- The verdict: what is known where it is given, and its refusals, each exactly where the sentences have it.
-- Assumes nothing.
use Prim.Native.Nat.{ℕ, suc, ◌+◌, ◌≤◌, ◌<◌}
use native.Mathlib.Omega.{arith}
use native.Mathlib.Numerals.{add-one}
use mathlib.Core.Path.{◌≡◌, refl, sym, ap, subst, ◌∙◌}
use mathlib.Core.Logic.{◌⊎◌, inl, inr, ◌≢◌, ⊎_elim}
use mathlib.Core.Bool.{Bool, cond, false≢true}
use mathlib.Core.List.Memᴰ
use mathlib.Core.List.{List, [], ◌∷◌, ◌++◌, append-nil}
use lib.ListN.{length, take, drop, take-append-drop}
use lib.Seq.{length-take-le, take-suc, split_at}
use lib.Dec.{ltb}
use borrow.Author.Tests.{le-ltb, lt-ltb, ltb-true, ltb-false}
use Rattle.octets.specs.Octets.{Octets}
use Rattle.laws.proofs.Cases.{cond_with, clash}
use Rattle.answers.specs.declared.Refusal.{Refusal}
use Rattle.answers.specs.declared.Refusal.TheVariants.{Short, BadMode, BadSheet, Mismatch}
use Rattle.field_rules.specs.Field.{Res, ok, no, bind}
use Rattle.segment_rules.specs.declared.Mode.{Mode}
use Rattle.segment_rules.specs.declared.Mode.TheVariants.{One}
use Rattle.segment_rules.specs.declared.Rules.{Rules}
use Rattle.segment_rules.specs.Rules.{mode1}
use Rattle.sheet_rules.specs.declared.Record.{Record}
use Rattle.std.specs.Prelude.{Result, Ok, Err}
use Rattle.sheet_rules.specs.declared.Counts.{Counts}
use Rattle.sheet_rules.specs.Record.{blank, records, rest, nth}
use Rattle.sheet_rules.specs.Judge.{judge_of, answer_of}
use Rattle.sheet_rules.specs.Sentences.{Among, Coded, Sheet, stripe_count, BadSheetAt}
use Rattle.sheet_rules.proofs.Among.{among_new, among_old, all_more, pair_more}
use Rattle.sheet_rules.proofs.Fold.{begun_unbroken, unbroken_begun}
use Rattle.sheet_rules.proofs.Theorems.{sheet_accepted, sheet_refused}
use Rattle.jpeg_rules.specs.Said.{record_said}
use Rattle.jpeg_rules.specs.Grammar.{Layer}
use Rattle.write_rules.specs.declared.Tally.{Tally}
use Rattle.write_rules.specs.Layer.{layer_octets}
use Rattle.segment_rules.specs.Rules.{most_layers}
use Rattle.write_rules.specs.Writing.{mode_from, begun, records_pass, verdict_by, verdict_of}
use Rattle.write_rules.specs.Sentences.{Fine, Low, ModeAt, ShortAt, MismatchAt, Sound, Gives, no_sheet, above, passing, differing, sheet_main}
use Rattle.write_rules.specs.Form.{UsedMask}
use Rattle.write_rules.proofs.Modes.{mode_odd}
use Rattle.write_rules.proofs.Agreed.{Meets, says_matches, step_cases}
use Rattle.write_rules.proofs.Passed.{Plain, coder_nonzero, Passed, pass_back, pass_there, passed_fine, pass_stops, pass_fault}

-- a record before a place is one of all
among_take : (rs : List Record) (i : ℕ) (r : Record) → Among r (take i rs) → Among r rs
among_take rs i r m = subst (Among r) (take-append-drop i rs) (Memᴰ.append_left (drop i rs) m)

-- ---- the mode

mode_low : (mode : Mode) (i : ℕ) (rs : List Record) (k n : ℕ) → mode_from (most_layers mode) i rs ≡ ok k n → Low mode rs
unfolding mode_from
mode_low mode i [] k n = λ q r m. absurd (Memᴰ.not-nil m)
mode_low mode i (x ∷ rs) k n =
    cond_with (λ y. y ≡ ok k n → Low mode (x ∷ rs)) (ltb (most_layers mode) x.layer) (λ t q. clash cc)
    (λ t q r m.
    ⊎_elim (λ (e : r ≡ x). subst (λ (y : Record). y.layer ≤ most_layers mode) (sym e) (ltb-false (most_layers mode) x.layer t)) (λ m2. mode_low mode (i + 1) rs k n q r m2) (Memᴰ.cases_cons m))

-- the records before are passed
mode_passes : (mode : Mode) (i : ℕ) (rs qs : List Record) → Low mode rs → mode_from (most_layers mode) i (rs ++ qs) ≡ mode_from (most_layers mode) (i + length rs) qs
unfolding mode_from
mode_passes mode i [] qs low = let z : i ≡ i + 0 = omega arith in ap (λ (j : ℕ). mode_from (most_layers mode) j qs) z
mode_passes mode i (x ∷ rs) qs low =
    let z : i + 1 + length rs ≡ i + suc (length rs) = omega arith in
    ap (λ (b : Bool). cond b (no (BadMode i)) (mode_from (most_layers mode) (i + 1) (rs ++ qs))) (le-ltb (most_layers mode) x.layer (low x (Memᴰ.head refl)))
    ∙ mode_passes mode (i + 1) rs qs (λ r m. low r (Memᴰ.tail m))
    ∙ ap (λ (j : ℕ). mode_from (most_layers mode) j qs) z

mode_there : (mode : Mode) (rs : List Record) → Low mode rs → mode_from (most_layers mode) 0 rs ≡ ok (length rs) (length rs)
unfolding mode_from
mode_there mode rs low =
    let z : 0 + length rs ≡ length rs = omega arith in
    ap (mode_from (most_layers mode) 0) (sym (append-nil rs)) ∙ mode_passes mode 0 rs [] low ∙ ap (λ (j : ℕ). ok j j) z

mode_fault : (mode : Mode) (rs : List Record) (i : ℕ) → ModeAt mode rs i → mode_from (most_layers mode) 0 rs ≡ no (BadMode i)
unfolding mode_from
mode_fault mode rs i k =
    let w = k.within in
    let l = length-take-le i rs (omega arith) in
    let z : 0 + length (take i rs) ≡ i = omega arith in
    ap (mode_from (most_layers mode) 0) (split_at rs i blank w)
    ∙ mode_passes mode 0 (take i rs) (nth rs i ∷ drop (suc i) rs) k.before
    ∙ ap (λ (j : ℕ). mode_from (most_layers mode) j (nth rs i ∷ drop (suc i) rs)) z
    ∙ ap (λ (b : Bool). cond b (no (BadMode i)) (mode_from (most_layers mode) (i + 1) (drop (suc i) rs))) (lt-ltb (most_layers mode) (nth rs i).layer k.above)

mode_at : (mode : Mode) (i : ℕ) (rs : List Record) (a : Refusal) → mode_from (most_layers mode) i rs ≡ no a → (j : ℕ) × (a ≡ BadMode (i + j)) × ModeAt mode rs j
unfolding mode_from
mode_at mode i [] a = λ q. clash cc
mode_at mode i (x ∷ rs) a =
    cond_with (λ y. y ≡ no a → (j : ℕ) × (a ≡ BadMode (i + j)) × ModeAt mode (x ∷ rs) j) (ltb (most_layers mode) x.layer)
    (λ t q.
    let z : i ≡ i + 0 = omega arith in
    let e : BadMode i ≡ a = cc in
    (0, sym e ∙ ap BadMode z, record { within = omega arith; before = λ r m. absurd (Memᴰ.not-nil m); above = ltb-true (most_layers mode) x.layer t }))
    (λ t q.
    let k = mode_at mode (i + 1) rs a q in
    let w = k.2.within in
    let z : i + 1 + k.0 ≡ i + suc k.0 = omega arith in (
      suc k.0,
      k.1 ∙ ap BadMode z,
      record {
        within = omega arith;
        before = λ r m.
            ⊎_elim (λ (e : r ≡ x). subst (λ (y : Record). y.layer ≤ most_layers mode) (sym e) (ltb-false (most_layers mode) x.layer t)) (λ m2. k.2.before r m2) (Memᴰ.cases_cons m);
        above = k.2.above;
      },
    ))

-- ---- the verdict

pub record Tallied (mode : Mode) (s d : List ℕ) (u : Tally) : Type 0 where
  pub sheet : Sheet (records s)
  pub whole : rest s ≡ 0
  pub low : Low mode (records s)
  pub passed : Passed mode d (sheet_main (records s)) begun u (records s)

pub sheet_plain : (mode : Mode) (rs : List Record) → Sheet rs → Low mode rs → Plain rs
sheet_plain mode rs s low =
    let b = unbroken_begun rs s.unbroken in
    let g = (begun_unbroken rs b.0 b.1).1 in
    record {
      odd = λ r m. mode_odd mode r.layer (g.passed r m).0 (low r m);
      coder = s.unbroken.coder;
      start = λ r m z. (s.unbroken.uncoded r m z).1;
    }

-- of the records before one too
plain_take : (rs : List Record) (i : ℕ) → Plain rs → Plain (take i rs)
plain_take rs i p =
    record { odd = λ r m. p.odd r (among_take rs i r m); coder = λ r m. p.coder r (among_take rs i r m); start = λ r m. p.start r (among_take rs i r m) }

pub verdict_back : (rules : Rules) (s d : List ℕ) → Octets d → (u : Tally) (n : ℕ) → verdict_of rules s d ≡ ok u n → Tallied rules.mode s d u
unfolding verdict_of verdict_by bind
verdict_back rules s d o u n q = by (judge_of s) refl q
  where
    pass : (m k : ℕ) → judge_of s ≡ Ok (record { records = m; stripes = k }) → (x : Res ℕ) → mode_from (most_layers rules.mode) 0 (records s) ≡ x
        → bind x (λ (j e : ℕ). records_pass rules.mode d (sheet_main (records s)) begun 0 (records s)) ≡ ok u n → Tallied rules.mode s d u
    pass m k g (ok j e) h q =
        let y = (sheet_accepted s m k).0 g in
        let low = mode_low rules.mode 0 (records s) j e h in
        record { sheet = y.sheet; whole = y.whole; low = low; passed = pass_back rules.mode d o (sheet_main (records s)) begun u 0 n (records s) (sheet_plain rules.mode (records s) y.sheet low) q }
    pass m k g (no a) h q = clash cc

    by : (v : Result Counts ℕ) → judge_of s ≡ v → verdict_by rules.mode v d (records s) ≡ ok u n → Tallied rules.mode s d u
    by (Ok c) g q = pass c.records c.stripes g (mode_from (most_layers rules.mode) 0 (records s)) refl q
    by (Err i) g q = clash cc

pub accepted_sound : (s d : List ℕ) (u : Tally) → Tallied One s d u → Sound s d
accepted_sound s d u k =
    record { sheet = k.sheet; whole = k.whole; low = k.low; fine = passed_fine One d (sheet_main (records s)) begun u (records s) k.passed }

-- ---- from the sentences to the verdict

module _ (rules : Rules) (s d : List ℕ) (sh : Sheet (records s)) (w : rest s ≡ 0) where
  judged : judge_of s ≡ Ok (record { records = length (records s); stripes = stripe_count (records s) })
  judged = (sheet_accepted s (length (records s)) (stripe_count (records s))).1 (record { sheet = sh; whole = w; count = refl; stripes = refl })

  pub verdict_mode : (i : ℕ) → ModeAt rules.mode (records s) i → verdict_of rules s d ≡ no (BadMode i)
  unfolding verdict_of verdict_by bind
  verdict_mode i k =
      ap (λ (v : Result Counts ℕ). verdict_by rules.mode v d (records s)) judged
      ∙ ap (λ (x : Res ℕ). bind x (λ (j e : ℕ). records_pass rules.mode d (sheet_main (records s)) begun 0 (records s))) (mode_fault rules.mode (records s) i k)

  pub verdict_passes : Low rules.mode (records s) → verdict_of rules s d ≡ records_pass rules.mode d (sheet_main (records s)) begun 0 (records s)
  unfolding verdict_of verdict_by bind
  verdict_passes low =
      ap (λ (v : Result Counts ℕ). verdict_by rules.mode v d (records s)) judged
      ∙ ap (λ (x : Res ℕ). bind x (λ (j e : ℕ). records_pass rules.mode d (sheet_main (records s)) begun 0 (records s))) (mode_there rules.mode (records s) low)

pub verdict_sheet : (rules : Rules) (s d : List ℕ) (i : ℕ) → BadSheetAt s i → verdict_of rules s d ≡ no (BadSheet i)
unfolding verdict_of verdict_by answer_of
verdict_sheet rules s d i k = ap (λ (v : Result Counts ℕ). verdict_by rules.mode v d (records s)) ((sheet_refused s i).1 k)

pub verdict_there : (s d : List ℕ) → Octets d → Sound s d → (u : Tally) × (verdict_of mode1 s d ≡ ok u (length (records s)))
verdict_there s d o k =
    let y = pass_there One d o (sheet_main (records s)) begun 0 (records s) (sheet_plain One (records s) k.sheet k.low) k.fine (λ r m c e. inl refl) in
    let z : 0 + length (records s) ≡ length (records s) = omega arith in
    (y.0, verdict_passes mode1 s d k.sheet k.whole k.low ∙ y.1 ∙ ap (ok y.0) z)

-- ---- a record at fault

module _ (mode : Mode) (d : List ℕ) (o : Octets d) (main : ℕ) (rs : List Record) (p : Plain rs) where
  -- the records before one pass where they are fine
  before : (i : ℕ) → i < length rs → Fine main d (take i rs) → (u : Tally) × (records_pass mode d main begun 0 (take i rs) ≡ ok u i)
  before i h f =
      let y = pass_there mode d o main begun 0 (take i rs) (plain_take rs i p) f (λ r m c e. inl refl) in
      let l = length-take-le i rs (omega arith) in
      let z : 0 + length (take i rs) ≡ i = omega arith in
      (y.0, y.1 ∙ ap (ok y.0) z)

  -- with one more record they are fine exactly if it fits and matches
  fine_more : (i : ℕ) (u : Tally) → i < length rs → Passed mode d main begun u (take i rs) → (h : (nth rs i).start + (nth rs i).len ≤ length d) → Meets d o (nth rs i) h main u
      → Fine main d (take (i + 1) rs)
  fine_more i u w q h m =
      subst (Fine main d) (sym (rw add-one (take-suc rs i blank w)))
      (record {
        fits = all_more (take i rs) (nth rs i) (λ r. Coded r → r.start + r.len ≤ length d) (λ r k c. q.inside r k) (λ c. h);
        layers =
            all_more (take i rs) (nth rs i) (λ r. Coded r → r.layer ≢ 2 → Layer main (layer_octets d r) (record_said r)) q.layer (λ c. (m c).1);
        coders =
            pair_more (take i rs) (nth rs i) (λ r q. Coded r → Coded q → r.layer ≡ 2 → q.layer ≡ 2 → r.coder ≡ q.coder)
            (λ r x j k c v e f. sym (q.mask r j c e) ∙ q.mask x k v f)
            (λ r j c v e f. same r j c e v f)
            (λ r j v c f e. sym (same r j c e v f))
            (λ c v e f. refl);
      })
    where
      same : (r : Record) → Among r (take i rs) → Coded r → r.layer ≡ 2 → Coded (nth rs i) → (nth rs i).layer ≡ 2 → r.coder ≡ (nth rs i).coder
      same r j c e v f =
          ⊎_elim
          (λ (z : u.mask ≡ 0). absurd (coder_nonzero r.layer r.coder ((plain_take rs i p).coder r j c) (sym (q.mask r j c e) ∙ z)))
          (λ (z : u.mask ≡ (nth rs i).coder). sym (q.mask r j c e) ∙ z)
          ((m v).0 f)

  meets_fine : (i : ℕ) (u : Tally) → i < length rs → Passed mode d main begun u (take i rs) → (h : (nth rs i).start + (nth rs i).len ≤ length d) → Fine main d (take (i + 1) rs)
      → Meets d o (nth rs i) h main u
  meets_fine i u w q h f =
      let g : Fine main d (take i rs ++ (nth rs i ∷ [])) = subst (Fine main d) (rw add-one (take-suc rs i blank w)) f in
      let new : Among (nth rs i) (take i rs ++ (nth rs i ∷ [])) = among_new (take i rs) (nth rs i) in
      λ c. (
        λ e.
            ⊎_elim (λ (z : u.mask ≡ 0). inl z)
            (λ (y : UsedMask (take i rs)).
            inr
            (q.mask y.it y.among y.coded y.mask ∙ g.coders y.it (nth rs i) (among_old (take i rs) (nth rs i) y.it y.among) new y.coded c y.mask e))
            q.mask_used,
        g.layers (nth rs i) new c,
      )

  pub short_there : (i : ℕ) → ShortAt main d rs i → records_pass mode d main begun 0 rs ≡ no (Short i)
  short_there i k =
      let b = before i k.within k.before in
      pass_fault mode d main begun b.0 0 i rs i (Short i) k.within b.1
      (step_cases (λ x. x ≡ no (Short i)) mode d main b.0 i (nth rs i) (λ h. refl) (λ h m. let s = k.short in absurd (omega arith)) (λ h m. let s = k.short in absurd (omega arith)))

  pub mismatch_there : (i : ℕ) → MismatchAt main d rs i → records_pass mode d main begun 0 rs ≡ no (Mismatch i)
  mismatch_there i k =
      let b = before i k.within k.before in
      let q = pass_back mode d o main begun b.0 0 i (take i rs) (plain_take rs i p) b.1 in
      pass_fault mode d main begun b.0 0 i rs i (Mismatch i) k.within b.1
      (step_cases (λ x. x ≡ no (Mismatch i)) mode d main b.0 i (nth rs i)
      (λ h. let s = k.fits in absurd (omega arith))
      (λ h m. absurd (k.broken (fine_more i b.0 k.within q h ((says_matches d o (nth rs i) h main b.0).told m))))
      (λ h m. refl))

  -- the other way
  pub fault_at : (a : Refusal) → records_pass mode d main begun 0 rs ≡ no a → (i : ℕ) × (((a ≡ Short i) × ShortAt main d rs i) ⊎ ((a ≡ Mismatch i) × MismatchAt main d rs i))
  fault_at a e =
      let k = pass_stops mode d main begun 0 rs a e in
      let z : 0 + k.j ≡ k.j = omega arith in
      let q = pass_back mode d o main begun k.u 0 (0 + k.j) (take k.j rs) (plain_take rs k.j p) k.passed in
      let f = passed_fine mode d main begun k.u (take k.j rs) q in (
        k.j,
        step_cases (λ x. x ≡ no a → ((a ≡ Short k.j) × ShortAt main d rs k.j) ⊎ ((a ≡ Mismatch k.j) × MismatchAt main d rs k.j)) mode d main k.u (0 + k.j) (nth rs k.j)
            (λ h y. let w : Short (0 + k.j) ≡ a = cc in inl (sym w ∙ ap Short z, record { within = k.within; before = f; short = h }))
            (λ h m y. clash cc)
            (λ h m y.
            let w : Mismatch (0 + k.j) ≡ a = cc in
            inr (
              sym w ∙ ap Mismatch z,
              record {
                within = k.within;
                before = f;
                fits = h;
                broken = λ g. false≢true (sym m ∙ (says_matches d o (nth rs k.j) h main k.u).shown (meets_fine k.j k.u k.within q h g));
              },
            ))
            k.stops,
      )

-- ---- a refusal of the verdict: of the sheet, of the mode or of a record

pub verdict_refused : (s d : List ℕ) → Octets d → (room : ℕ) (a : Refusal) → verdict_of mode1 s d ≡ no a → Gives s d room (Err a)
unfolding verdict_of verdict_by bind
verdict_refused s d o room a q = by (judge_of s) refl q
  where
    told : (a b : Refusal) → a ≡ b → Gives s d room (Err b) → Gives s d room (Err a)
    told a b e g = subst (λ (x : Refusal). Gives s d room (Err x)) (sym e) g

    pass : (m k : ℕ) → judge_of s ≡ Ok (record { records = m; stripes = k }) → (x : Res ℕ) → mode_from (most_layers One) 0 (records s) ≡ x
        → bind x (λ (j e : ℕ). records_pass One d (sheet_main (records s)) begun 0 (records s)) ≡ no a → Gives s d room (Err a)
    pass m k g (ok j e) h q =
        let y = (sheet_accepted s m k).0 g in
        let low = mode_low One 0 (records s) j e h in
        let f = fault_at One d o (sheet_main (records s)) (records s) (sheet_plain One (records s) y.sheet low) a q in
        ⊎_elim
        (λ (z : (a ≡ Short f.0) × ShortAt (sheet_main (records s)) d (records s) f.0).
        told a (Short f.0) z.0 (passing (y.sheet, y.whole) low z.1))
        (λ (z : (a ≡ Mismatch f.0) × MismatchAt (sheet_main (records s)) d (records s) f.0).
        told a (Mismatch f.0) z.0 (differing (y.sheet, y.whole) low z.1))
        f.1
    pass m k g (no b) h q =
        let y = (sheet_accepted s m k).0 g in
        let f = mode_at One 0 (records s) b h in
        let e : b ≡ a = cc in
        let z : 0 + f.0 ≡ f.0 = omega arith in
        told a (BadMode f.0) (sym e ∙ f.1 ∙ ap BadMode z) (above (y.sheet, y.whole) f.2)

    by : (v : Result Counts ℕ) → judge_of s ≡ v → verdict_by One v d (records s) ≡ no a → Gives s d room (Err a)
    by (Ok c) g q = pass c.records c.stripes g (mode_from (most_layers One) 0 (records s)) refl q
    by (Err i) g q = let e : BadSheet i ≡ a = cc in told a (BadSheet i) (sym e) (no_sheet ((sheet_refused s i).0 g))
