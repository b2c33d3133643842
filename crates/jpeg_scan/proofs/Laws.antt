-- One law for each way out of the functions: its premises are what is known there.
-- Assumes nothing.
use Prim.Native.Nat.{ℕ, ◌+◌, ◌-◌, ◌≤◌, ◌<◌}
use native.Mathlib.Omega.{arith}
use mathlib.Core.Path.{◌≡◌, refl, sym, ap, ◌∙◌}
use mathlib.Core.Bool.{Bool, true, false, ◌&&◌, ◌||◌, not, false≢true}
use mathlib.Core.Logic.{inl, inr, ◌≢◌, ⊎_elim}
use mathlib.Core.List.{List}
use lib.ListN.{length, get_or}
use lib.Dec.{eqb}
use borrow.Author.Tests.{ne_eqb, le-leb, lt-leb}
use borrow.Author.Rules.{rules}
use Rattle.laws.proofs.Says.{Says, says_eq, says_le, says_and, says_or, says_not, says_else}
use Rattle.octets.proofs.Runs.{end_ahead, end_over, end_here, end_next}
use Rattle.std.specs.Prelude.{Some, None}
use Rattle.jpeg_rules.specs.declared.Marker.TheVariants.{Code}
use Rattle.jpeg_rules.specs.Grammar.{DataRun}
use Rattle.jpeg_rules.specs.Walk.{data_run, scan_of}
use Rattle.jpeg_rules.proofs.Leaves.{says_run}
use Rattle.jpeg_rules.proofs.Runs.{fill_end, run_marked, marker_is}
use Rattle.jpeg_rules.proofs.Scans.{plain_next, scan_over, run_over, run_next, run_here}
use Rattle.jpeg_pairs.specs.Pairs.{codes, plain_pair, Suspect}
use Rattle.jpeg_scan.specs.Search.{filled_triple, AllFilled, Clears, Shows}
use Rattle.jpeg_scan.proofs.Blocks.{block_passed}

-- ---- is_data

or-false : (b : Bool) → b ≡ b || false
or-false true = refl
or-false false = refl

module _ (run c : ℕ) where
  pub data_zero : c ≡ 0 → eqb run 1 ≡ data_run run c
  unfolding data_run
  data_zero e = or-false (eqb run 1) ∙ ap (data_run run) (sym e)

  pub data_within : 0xD0 ≤ c → c ≤ 0xD7 → true ≡ data_run run c
  unfolding data_run
  data_within l h = simp (ne_eqb c 0 (omega arith), le-leb 0xD0 c l, le-leb c 0xD7 h)

  pub data_below : (c ≡ 0 → ⊥) → c < 0xD0 → false ≡ data_run run c
  unfolding data_run
  data_below n h = simp (ne_eqb c 0 n, lt-leb 0xD0 c h)

  pub data_above : 0xD7 < c → false ≡ data_run run c
  unfolding data_run
  data_above h = simp (ne_eqb c 0 (omega arith), le-leb 0xD0 c (omega arith), lt-leb c 0xD7 h)

pub ruleset judging = (rules, data_zero, data_within, data_below, data_above)

-- ---- is_filled

pub filled_made : (a b c : ℕ) {p : Bool} → p ≡ plain_pair a b → p || (eqb b 255 && not (eqb c 0)) ≡ filled_triple a b c
filled_made a b c q = ap (λ (x : Bool). x || (eqb b 255 && not (eqb c 0))) q

-- ---- clears

pub clear_by : (s : List ℕ) (i : ℕ) → i + 33 < length s → eqb (get_or s (i + 31) 0) 255 && eqb (get_or s (i + 32) 0) 255 ≡ false → {b : Bool}
    → (b ≡ true → AllFilled s i 32) → b ≡ true → scan_of s i ≡ scan_of s (i + 32)
clear_by s i h n k t =
    block_passed s i (k t) (omega arith)
    (λ e q. false≢true (sym n ∙ (says_and (says_eq (get_or s (i + 31) 0) 255) (says_eq (get_or s (i + 32) 0) 255)).shown (e, q)))

pub clear_no : {A : Type 0} → false ≡ true → A
clear_no e = absurd (false≢true e)

pub ruleset clearing = (rules, clear_by, clear_no)

-- ---- pass_filled

module _ (s : List ℕ) (from : ℕ) where
  pub pass_begun : from ≤ length s → Clears s from from
  pass_begun h = record { after = omega arith; inside = h; same = refl }

  module _ (i : ℕ) (c : Clears s from i) where
    pub pass_on : {b : Bool} → 34 ≤ length s - i → (b ≡ true → scan_of s i ≡ scan_of s (i + 32)) → b ≡ true → Clears s from (i + 32)
    pass_on l h e = let a = c.after in record { after = omega arith; inside = omega arith; same = c.same ∙ h e }

pub ruleset passing = (rules, pass_begun, pass_on)

-- ---- next_marker

-- one octet or none is no marker
scan_last : (s : List ℕ) (i : ℕ) → length s ≤ i + 1 → scan_of s i ≡ None
scan_last s i h =
    ⊎_elim
    (λ (e : get_or s i 0 ≡ 0xFF). run_over s i (i + 1) e (end_over 0xFF s (i + 1) h) h)
    (λ (n : get_or s i 0 ≢ 0xFF). plain_next s i n ∙ scan_over s (i + 1) h)
    (says_else (says_eq (get_or s i 0) 0xFF))

pub next_ahead : (s : List ℕ) (i : ℕ) {e : ℕ} → e ≡ fill_end s (i + 2) → i ≤ e
next_ahead s i q = let a = end_ahead 0xFF s (i + 2) in omega arith

module _ (s : List ℕ) (from : ℕ) where
  pub next_past : length s ≤ from → Shows s None (scan_of s from)
  unfolding Shows
  next_past h = scan_over s from h

  pub next_few : length s - from < 2 → Shows s None (scan_of s from)
  unfolding Shows
  next_few h = scan_last s from (omega arith)

  module _ (i : ℕ) (c : Suspect s from i) where
    pub next_end : length s - i < 2 → Shows s None (scan_of s from)
    unfolding Shows
    next_end h = c.same ∙ scan_last s i (omega arith)

    module _ (h : 2 ≤ length s - i) where
      first : get_or s i 0 ≡ 0xFF
      first = c.first (omega arith)

      -- a run that is no data, with its code at e
      found : (e : ℕ) → fill_end s (i + 1) ≡ e → e < length s → (DataRun (e - (i + 1)) (get_or s e 0) → ⊥) → (next : ℕ) → e + 1 ≡ next
          → Shows s (Some (record { place = i; code = get_or s e 0; next = next })) (scan_of s from)
      unfolding Shows
      found e q l n next z = (
        c.same ∙ run_here s i e first q l n,
        marker_is s i (get_or s e 0) (e + 1) (run_marked s i (omega arith) first e (sym q) l) ∙ ap (Code (get_or s e 0)) z,
      )

      pub next_bare : (get_or s (i + 1) 0 ≡ 255 → ⊥) → Shows s (Some (record { place = i; code = get_or s (i + 1) 0; next = i + 2 })) (scan_of s from)
      next_bare n =
          found (i + 1) (end_here 0xFF s (i + 1) (omega arith) n) (omega arith) (λ d. no_data (c.second (omega arith)) d) (i + 2) (omega arith)
        where
          no_data : codes (get_or s (i + 1) 0) ≡ true → DataRun (i + 1 - (i + 1)) (get_or s (i + 1) 0) → ⊥
          no_data t d = (says_not (says_or (says_eq (get_or s (i + 1) 0) 0x00) (says_and (says_le 0xD0 (get_or s (i + 1) 0)) (says_le (get_or s (i + 1) 0) 0xD7)))).told t
              (⊎_elim (λ (k : (get_or s (i + 1) 0 ≡ 0x00) × (i + 1 - (i + 1) ≡ 0)). inl k.0) (λ (k : (0xD0 ≤ get_or s (i + 1) 0) × (get_or s (i + 1) 0 ≤ 0xD7)). inr k) d)

      module _ (ff : get_or s (i + 1) 0 ≡ 255) {e : ℕ} (q : e ≡ fill_end s (i + 2)) where
        run_end_lem : fill_end s (i + 1) ≡ e
        run_end_lem = let z : i + 1 + 1 ≡ i + 2 = omega arith in end_next 0xFF s (i + 1) (omega arith) ff ∙ ap (fill_end s) z ∙ sym q

        ahead : i + 2 ≤ e
        ahead = let a = end_ahead 0xFF s (i + 2) in omega arith

        pub next_cut : length s ≤ e → Shows s None (scan_of s from)
        unfolding Shows
        next_cut l = c.same ∙ run_over s i e first run_end_lem l

        module _ (l : e < length s) {b : Bool} (t : b ≡ data_run (e - i) (get_or s e 0)) where
          says_this : Says (data_run (e - i) (get_or s e 0)) (DataRun (e - (i + 1)) (get_or s e 0))
          says_this = let a = ahead in says_run (e - i) (e - (i + 1)) (get_or s e 0) (omega arith)

          pub next_here : b ≡ false → Shows s (Some (record { place = i; code = get_or s e 0; next = e + 1 })) (scan_of s from)
          next_here f = found e run_end_lem l (λ d. false≢true (sym (sym t ∙ f) ∙ says_this.shown d)) (e + 1) refl

          module _ (y : b ≡ true) {j : ℕ} (k : Clears s (e + 1) j) where
            passed : scan_of s from ≡ scan_of s j
            passed = c.same ∙ run_next s i e first run_end_lem l (says_this.told (sym t ∙ y)) ∙ k.same

            pub next_over : length s - j < 2 → Shows s None (scan_of s from)
            unfolding Shows
            next_over m = passed ∙ scan_last s j (omega arith)

            pub next_on : {r : ℕ} → Suspect s j r → Suspect s from r
            next_on w =
                let a = c.after in
                let d = ahead in
                let f = k.after in
                let g = w.after in
                record { after = omega arith; inside = w.inside; same = passed ∙ w.same; first = w.first; second = w.second }

            pub next_less : {r : ℕ} → Suspect s j r → length s - r < length s - i
            next_less w =
                let d = ahead in
                let f = k.after in
                let g = w.after in
                let m = w.inside in
                omega arith

pub ruleset searching = (rules, next_past, next_few, next_end, next_bare, next_cut, next_here, next_over, next_on, next_less)
