-- Scan data: the walk's next marker stands after it exactly if it is scan data, and there is none exactly if the data goes on to the end.
-- Assumes nothing.
use Prim.Native.Nat.{ℕ, zero, suc, ◌+◌, ◌-◌, ◌≤◌, ◌<◌}
use native.Mathlib.Omega.{arith}
use mathlib.Core.Path.{◌≡◌, refl, sym, ap, ap₂, subst, ◌∙◌}
use mathlib.Core.Logic.{◌≢◌, ⊎_elim}
use mathlib.Core.Bool.{Bool, ◌||◌, cond}
use mathlib.Core.List.{List, [], ◌∷◌, ◌++◌, append_assoc, append-nil}
use lib.ListN.{length, get_or, take, drop, replicate, take-append-drop, length-drop, length-append, drop_of_length-le}
use lib.Seq.{drop-drop, take-append-add}
use lib.Dec.{eqb, ltb}
use borrow.Author.Tests.{eq-eqb, ne_eqb, lt-ltb, le-ltb}
use Rattle.octets.proofs.Laws.{drop_octet, drop_next}
use Rattle.octets.proofs.Runs.{run_from, run_end, end_ahead}
use Rattle.laws.proofs.Says.{Says, says_eq, says_lt, says_le, says_else, says_fails}
use Rattle.laws.proofs.Cases.{cond_with, clash}
use Rattle.std.specs.Prelude.{Option, Some, None}
use Rattle.jpeg_rules.specs.Grammar.{marker, DataRun, Data, none, plain, stuffed}
use Rattle.jpeg_rules.specs.Walk.{data_run, scan_from, scan_of}
use Rattle.jpeg_rules.specs.Faults.{Endless, all_data, in_run}
use Rattle.jpeg_rules.proofs.Leaves.{says_run, says_data, data_other, one_there}
use Rattle.jpeg_rules.proofs.Runs.{fill_end, ff_inside, none_left, length_marker, fill_cut, Begun, begins_there, Marked, run_marked, run_cut}

-- ---- the search from place to place

-- the run that begins at i has its code at e: it is data, and what comes after it goes on, or it is the next marker; or the list cuts it
abbrev on_run : List ℕ → ℕ → ℕ → Option ℕ → Option ℕ
on_run s i e more = cond (ltb e (length s)) (cond (data_run (e - i) (get_or s e 0)) more (Some i)) None

-- past the last octet nothing is found
pub scan_over : (s : List ℕ) (i : ℕ) → length s ≤ i → scan_of s i ≡ None
unfolding scan_of
scan_over s i h = ap (λ (l : List ℕ). scan_from l 0 i) (drop_of_length-le s h)

-- in a run of FF that began at i and reaches j
run_on : (s : List ℕ) (n i run j : ℕ) → j + n ≡ length s → j ≡ i + run → 0 < run
    → scan_from (drop j s) run j ≡ on_run s i (run_from 0xFF n s j) (scan_of s (run_from 0xFF n s j + 1))
unfolding scan_from run_from scan_of
run_on s zero i run j h e lt =
    ap (λ (l : List ℕ). scan_from l run j) (none_left s j (omega arith))
    ∙ sym (ap (λ (b : Bool). cond b (cond (data_run (j - i) (get_or s j 0)) (scan_from (drop (j + 1) s) 0 (j + 1)) (Some i)) None) (le-ltb j (length s) (omega arith)))
run_on s (suc n) i run j h e lt =
    ap (λ (l : List ℕ). scan_from l run j) (drop_octet s j (omega arith))
    ∙ cond_with (λ x. stepped ≡ on_run s i x (scan_from (drop (x + 1) s) 0 (x + 1))) (eqb (get_or s j 0) 0xFF)
    (λ t. ap (λ (b : Bool). cond b (scan_from (drop (j + 1) s) (run + 1) (j + 1)) other) t ∙ run_on s n i (run + 1) (j + 1) (omega arith) (omega arith) (omega arith))
    (λ t.
    let a : j - i ≡ run = omega arith in
    let b : j - run ≡ i = omega arith in
    ap (λ (b : Bool). cond b (scan_from (drop (j + 1) s) (run + 1) (j + 1)) other) t
    ∙ ap (λ (b : Bool). cond (b || data_run run (get_or s j 0)) (scan_from (drop (j + 1) s) 0 (j + 1)) (Some (j - run))) (ne_eqb run 0 (λ q. omega arith))
    ∙ ap₂ (λ (k m : ℕ). cond (data_run k (get_or s j 0)) (scan_from (drop (j + 1) s) 0 (j + 1)) (Some m)) (sym a) b
    ∙ sym (ap (λ (b : Bool). cond b (cond (data_run (j - i) (get_or s j 0)) (scan_from (drop (j + 1) s) 0 (j + 1)) (Some i)) None) (lt-ltb j (length s) (omega arith))))
  where
    other : Option ℕ
    other = cond (eqb run 0 || data_run run (get_or s j 0)) (scan_from (drop (j + 1) s) 0 (j + 1)) (Some (j - run))

    stepped : Option ℕ
    stepped = cond (eqb (get_or s j 0) 0xFF) (scan_from (drop (j + 1) s) (run + 1) (j + 1)) other

pub scan_opens : (s : List ℕ) (i : ℕ) → i < length s
    → scan_of s i ≡ cond (eqb (get_or s i 0) 0xFF) (on_run s i (fill_end s (i + 1)) (scan_of s (fill_end s (i + 1) + 1))) (scan_of s (i + 1))
unfolding scan_of run_end
scan_opens s i h =
    ap (λ (l : List ℕ). scan_from l 0 i) (drop_octet s i h)
    ∙ ap (λ (x : Option ℕ). cond (eqb (get_or s i 0) 0xFF) x (scan_from (drop (i + 1) s) 0 (i + 1))) (run_on s (length s - (i + 1)) i 1 (i + 1) (omega arith) refl (omega arith))

-- ---- one step: an octet of data, a run of FF

pub plain_next : (s : List ℕ) (i : ℕ) → get_or s i 0 ≢ 0xFF → scan_of s i ≡ scan_of s (i + 1)
plain_next s i n =
    ⊎_elim
    (λ (h : i < length s).
    scan_opens s i h
    ∙ ap (λ (b : Bool). cond b (on_run s i (fill_end s (i + 1)) (scan_of s (fill_end s (i + 1) + 1))) (scan_of s (i + 1))) (ne_eqb (get_or s i 0) 0xFF n))
    (λ (h : i < length s → ⊥). scan_over s i (omega arith) ∙ sym (scan_over s (i + 1) (omega arith)))
    (says_else (says_lt i (length s)))

-- a run that begins at i, to its code at e
module _ (s : List ℕ) (i e : ℕ) (ff : get_or s i 0 ≡ 0xFF) (q : fill_end s (i + 1) ≡ e) where
  pub run_opens : scan_of s i ≡ on_run s i e (scan_of s (e + 1))
  run_opens =
      scan_opens s i (ff_inside s i ff)
      ∙ ap (λ (b : Bool). cond b (on_run s i (fill_end s (i + 1)) (scan_of s (fill_end s (i + 1) + 1))) (scan_of s (i + 1))) (eq-eqb (get_or s i 0) 0xFF ff)
      ∙ ap (λ (k : ℕ). on_run s i k (scan_of s (k + 1))) q

  pub run_over : length s ≤ e → scan_of s i ≡ None
  run_over h =
      run_opens
      ∙ ap (λ (b : Bool). cond b (cond (data_run (e - i) (get_or s e 0)) (scan_of s (e + 1)) (Some i)) None) (le-ltb e (length s) h)

  module _ (h : e < length s) where
    run_by : (b : Bool) → data_run (e - i) (get_or s e 0) ≡ b → scan_of s i ≡ cond b (scan_of s (e + 1)) (Some i)
    run_by b t =
        run_opens
        ∙ ap₂ (λ (x y : Bool). cond x (cond y (scan_of s (e + 1)) (Some i)) None) (lt-ltb e (length s) h) t

    says_this : Says (data_run (e - i) (get_or s e 0)) (DataRun (e - (i + 1)) (get_or s e 0))
    says_this = let a = end_ahead 0xFF s (i + 1) in says_run (e - i) (e - (i + 1)) (get_or s e 0) (omega arith)

    pub run_next : DataRun (e - (i + 1)) (get_or s e 0) → scan_of s i ≡ scan_of s (e + 1)
    run_next k = run_by _ (says_this.shown k)

    pub run_here : (DataRun (e - (i + 1)) (get_or s e 0) → ⊥) → scan_of s i ≡ Some i
    run_here k = run_by _ (says_fails says_this k)

-- a run whose octets stand there: its fill and its code as the search sees them
module _ (s : List ℕ) (i fill c : ℕ) (r : List ℕ) (t : Begun s i fill c r) (P : ℕ → ℕ → Type 0) where
  run_seen : P fill c → P (i + 1 + fill - (i + 1)) (get_or s (i + 1 + fill) 0)
  run_seen k =
      let z : i + 1 + fill - (i + 1) ≡ fill = omega arith in
      subst (λ (f : ℕ). P f (get_or s (i + 1 + fill) 0)) (sym z) (subst (P fill) (sym t.code) k)

-- all of scan data is passed
pub data_next : (s : List ℕ) {d : List ℕ} → Data d → (i : ℕ) (r : List ℕ) → drop i s ≡ d ++ r → scan_of s i ≡ scan_of s (i + length d)
data_next s none i r e = let z : i ≡ i + 0 = omega arith in ap (scan_of s) z
data_next s (plain {x = x} {d = d} n more) i r e =
    let t = one_there s i x (d ++ r) e in
    let z : i + 1 + length d ≡ i + suc (length d) = omega arith in
    plain_next s i (λ k. n (sym t.1 ∙ k)) ∙ data_next s more (i + 1) r t.2 ∙ ap (scan_of s) z
data_next s (stuffed {fill = fill} {c = c} {d = d} k more) i r e =
    let t = begins_there s i fill c (d ++ r) (data_other fill c k) (e ∙ append_assoc (marker fill c) d r) in
    let l = t.inside in
    let n = length-append (marker fill c) d in
    let m = length_marker fill c in
    let y : i + 1 + fill + 1 ≡ i + fill + 2 = omega arith in
    let z : i + fill + 2 + length d ≡ i + length (marker fill c ++ d) = omega arith in
    run_next s i (i + 1 + fill) t.first t.run (omega arith) (run_seen s i fill c (d ++ r) t DataRun k)
    ∙ ap (scan_of s) y
    ∙ data_next s more (i + fill + 2) r t.rest
    ∙ ap (scan_of s) z

-- ---- after scan data the next marker is found

-- a marker that is no data
pub record Opens (l : List ℕ) : Type 0 where
  pub fill : ℕ
  pub code : ℕ
  pub rest : List ℕ
  pub is : l ≡ marker fill code ++ rest
  pub other : code ≢ 0xFF
  pub stop : DataRun fill code → ⊥

pub scan_there : (s : List ℕ) (d : List ℕ) → Data d → (i : ℕ) (l : List ℕ) → drop i s ≡ d ++ l → Opens l → scan_of s i ≡ Some (i + length d)
scan_there s d k i l e o =
    let j : ℕ = i + length d in
    let t = begins_there s j o.fill o.code o.rest o.other (drop_next s d l i e ∙ o.is) in
    let h = t.inside in
    data_next s k i l e
    ∙ run_here s j (j + 1 + o.fill) t.first t.run (omega arith)
    (run_seen s j o.fill o.code o.rest t (λ f b. DataRun f b → ⊥) o.stop)

-- ---- and what was passed was scan data

pub record Passed (s : List ℕ) (i p : ℕ) : Type 0 where
  pub after : i ≤ p
  pub code : ℕ
  pub next : ℕ
  pub marked : Marked s p code next
  pub stop : DataRun marked.fill code → ⊥
  pub coded : Data (take (p - i) (drop i s))

-- what a search came to: a marker after scan data, or data to the end
data Scanned (s : List ℕ) (i : ℕ) : Option ℕ → Type 0 where
  to_marker : {p : ℕ} → Passed s i p → Scanned s i (Some p)
  to_end : Endless (drop i s) → Scanned s i None

endless_plain : {x : ℕ} {l : List ℕ} → x ≢ 0xFF → Endless l → Endless (x ∷ l)
endless_plain n (all_data k) = all_data (plain n k)
endless_plain n (in_run fill k) = in_run fill (plain n k)

endless_stuffed : {fill c : ℕ} {l : List ℕ} → DataRun fill c → Endless l → Endless (marker fill c ++ l)
endless_stuffed n (all_data k) = all_data (stuffed n k)
endless_stuffed {fill = fill} {c = c} n (in_run {d = d} more k) =
    subst Endless (append_assoc (marker fill c) d (0xFF ∷ replicate more 0xFF)) (in_run more (stuffed n k))

-- what is taken after octets in front
taken : (s a : List ℕ) (i j p : ℕ) → drop i s ≡ a ++ drop j s → j ≡ i + length a → j ≤ p → take (p - i) (drop i s) ≡ a ++ take (p - j) (drop j s)
taken s a i j p e q h =
    let z : p - i ≡ length a + (p - j) = omega arith in
    ap₂ (λ (n : ℕ) (l : List ℕ). take n l) z e ∙ take-append-add a (drop j s) (p - j)

nothing_taken : (s : List ℕ) (i : ℕ) → Data (take (i - i) (drop i s))
nothing_taken s i = let z : i - i ≡ 0 = omega arith in subst (λ (n : ℕ). Data (take n (drop i s))) (sym z) none

module _ (s : List ℕ) where
  -- scan data in front of what a search came to: octets that stand from i up to j
  before : {x : Option ℕ} (a : List ℕ) (i j : ℕ) → drop i s ≡ a ++ drop j s → j ≡ i + length a → ((d : List ℕ) → Data d → Data (a ++ d))
      → ((d : List ℕ) → Endless d → Endless (a ++ d)) → Scanned s j x → Scanned s i x
  before a i j e q more on (to_marker {p = p} m) =
      let h = m.after in
      to_marker {p = p}
      (record {
        after = omega arith;
        code = m.code;
        next = m.next;
        marked = m.marked;
        stop = m.stop;
        coded = subst Data (sym (taken s a i j p e q h)) (more (take (p - j) (drop j s)) m.coded);
      })
  before a i j e q more on (to_end k) = to_end (subst Endless (sym e) (on (drop j s) k))

  -- a run from i on
  run_scanned : (i : ℕ) → get_or s i 0 ≡ 0xFF → ((j : ℕ) → i < j → Scanned s j (scan_of s j)) → Scanned s i (scan_of s i)
  run_scanned i ff more =
      let l = ff_inside s i ff in
      let e : ℕ = fill_end s (i + 1) in
      let a = end_ahead 0xFF s (i + 1) in
      ⊎_elim
      (λ (h : e < length s).
      let k = run_marked s i l ff e refl h in
      let b = k.ends in
      let y : k.fill ≡ e - (i + 1) = omega arith in
      let m = length_marker k.fill (get_or s e 0) in
      ⊎_elim
      (λ (d : DataRun (e - (i + 1)) (get_or s e 0)).
      let w = subst (λ (f : ℕ). DataRun f (get_or s e 0)) (sym y) d in
      subst (Scanned s i) (sym (run_next s i e ff refl h d))
      (before (marker k.fill (get_or s e 0)) i (e + 1) k.stands (omega arith) (λ d. stuffed w) (λ d. endless_stuffed w) (more (e + 1) (omega arith))))
      (λ (d : DataRun (e - (i + 1)) (get_or s e 0) → ⊥).
      subst (Scanned s i) (sym (run_here s i e ff refl h d))
      (to_marker
      (record {
        after = omega arith;
        code = get_or s e 0;
        next = e + 1;
        marked = k;
        stop = λ g. d (subst (λ (f : ℕ). DataRun f (get_or s e 0)) y g);
        coded = nothing_taken s i;
      })))
      (says_else (says_data (e - (i + 1)) (get_or s e 0))))
      (λ (h : e < length s → ⊥).
      subst (Scanned s i) (sym (run_over s i e ff refl (omega arith)))
      (to_end (subst Endless (sym (run_cut s i l ff (omega arith))) (in_run (e - (i + 1)) none))))
      (says_else (says_lt e (length s)))

  over_scanned : (i : ℕ) → length s ≤ i → Scanned s i (scan_of s i)
  over_scanned i h = subst (Scanned s i) (sym (scan_over s i h)) (to_end (subst Endless (sym (none_left s i h)) (all_data none)))

  scanned_from : (m i : ℕ) → length s ≤ i + m → Scanned s i (scan_of s i)
  scanned_from zero i h = over_scanned i (omega arith)
  scanned_from (suc m) i h =
      ⊎_elim (over_scanned i)
      (λ (l : length s ≤ i → ⊥).
      ⊎_elim (λ (ff : get_or s i 0 ≡ 0xFF). run_scanned i ff (λ j g. scanned_from m j (omega arith)))
      (λ (n : get_or s i 0 ≢ 0xFF).
      subst (Scanned s i) (sym (plain_next s i n))
      (before (get_or s i 0 ∷ []) i (i + 1) (drop_octet s i (omega arith)) (omega arith) (λ d. plain n) (λ d. endless_plain n) (scanned_from m (i + 1) (omega arith))))
      (says_else (says_eq (get_or s i 0) 0xFF)))
      (says_else (says_le (length s) i))

  scanned : (i : ℕ) → Scanned s i (scan_of s i)
  scanned i = scanned_from (length s) i (omega arith)

pub scan_back : (s : List ℕ) (i p : ℕ) → scan_of s i ≡ Some p → Passed s i p
scan_back s i p e = by (subst (Scanned s i) e (scanned s i)) refl
  where
    by : {x : Option ℕ} → Scanned s i x → x ≡ Some p → Passed s i p
    by (to_marker {p = q} m) z = let y : q ≡ p = cc in subst (Passed s i) y m
    by (to_end k) z = clash cc

-- the octets from one place up to another, and those after them
pub scan_split : (s : List ℕ) (i p : ℕ) → i ≤ p → drop i s ≡ take (p - i) (drop i s) ++ drop p s
scan_split s i p h =
    let z : i + (p - i) ≡ p = omega arith in
    sym (ap (λ (l : List ℕ). take (p - i) (drop i s) ++ l) (sym (drop-drop (p - i) i s ∙ ap (λ (k : ℕ). drop k s) z)) ∙ take-append-drop (p - i) (drop i s))

-- ---- where there is none, the data goes on to the end

pub none_endless : (s : List ℕ) (i : ℕ) → scan_of s i ≡ None → Endless (drop i s)
none_endless s i e = by (subst (Scanned s i) e (scanned s i)) refl
  where
    by : {x : Option ℕ} → Scanned s i x → x ≡ None → Endless (drop i s)
    by (to_marker m) z = clash cc
    by (to_end k) z = k

pub endless_none : (s : List ℕ) (i : ℕ) {l : List ℕ} → drop i s ≡ l → Endless l → scan_of s i ≡ None
endless_none s i e (all_data {d = d} k) =
    let q = length-drop i s in
    let w = ap length e in
    data_next s k i [] (e ∙ sym (append-nil d)) ∙ scan_over s (i + length d) (omega arith)
endless_none s i e (in_run {d = d} fill k) =
    let j : ℕ = i + length d in
    let t = one_there s j 0xFF (replicate fill 0xFF) (drop_next s d (0xFF ∷ replicate fill 0xFF) i e) in
    data_next s k i (0xFF ∷ replicate fill 0xFF) e
    ∙ run_over s j (length s) t.1 (fill_cut s (j + 1) fill t.0 t.2) (omega arith)
