-- The loops over the records: what is to come, from here on, is the whole.
-- Assumes nothing.
use Prim.Native.Nat.{ℕ, ◌+◌, ◌-◌, ◌*◌, ◌/◌, ◌≤◌, ◌<◌}
use native.Mathlib.Omega.{arith}
use mathlib.Core.Path.{◌≡◌, refl, sym, ap, subst, ◌∙◌}
use mathlib.Core.List.{List, [], ◌∷◌}
use lib.ListN.{length}
use lib.Dec.{ltb, lit≤}
use borrow.Author.Rules.{rules}
use borrow.Author.Tests.{lt-ltb, le-ltb}
use mir.Syntax.{w32}
use mir.Val.{Fits}
use Rattle.laws.proofs.Cases.{cond_with, clash}
use Rattle.octets.specs.Octets.{Octets, be32_at}
use Rattle.octets.proofs.Laws.{be32_bound}
use Rattle.octets.proofs.Entries.{entries_next, entries_none}
use Rattle.answers.specs.declared.Refusal.{Refusal}
use Rattle.answers.specs.declared.Refusal.TheVariants.{BadMode, BadSheet}
use Rattle.answers.specs.Answers.{refusal_place}
use Rattle.field_rules.specs.Field.{Res, ok, no, bind}
use Rattle.sheet_rules.specs.declared.Record.{Record}
use Rattle.std.specs.Prelude.{Option, Some, None, Result, Ok, Err}
use Rattle.answers.specs.declared.Refusal.{Refusal}
use Rattle.sheet_rules.specs.declared.Counts.{Counts}
use Rattle.sheet_rules.specs.Record.{record_size, record_at, records_from, records}
use Rattle.segment_rules.specs.declared.Mode.{Mode}
use Rattle.segment_rules.specs.declared.Rules.{Rules}
use Rattle.sheet_rules.specs.Judge.{judge_of, answer_of}
use Rattle.sheet_rules.proofs.Cut.{second_blank, second_read}
use Rattle.sheet_rules.proofs.Theorems.{sheet_few, refused_few}
use Rattle.write_rules.specs.declared.Tally.{Tally}
use Rattle.write_rules.specs.Modes.{head_in}
use Rattle.segment_rules.specs.Rules.{most_layers}
use Rattle.write_rules.proofs.Modes.{head_few}
use Rattle.write_rules.specs.Sentences.{sheet_main, start_size, page_end}
use Rattle.write_rules.specs.Writing.{counted, matches, record_step, mode_from, begun, records_pass, verdict_by, verdict_of}
use Rattle.write_verdict.specs.Pass.{pass_of, layers_of, Few, Taken, accepted_of}

all_records : (s : List ℕ) (n : ℕ) → Few s n → records s ≡ records_from s (n - 0) 0
unfolding records
all_records s n f = let w = f.whole in let p : length s / record_size ≡ n - 0 = omega arith in ap (λ (k : ℕ). records_from s k 0) p

-- ---- pass_records
pub record Passing (mode : Mode) (s d : List ℕ) (main n : ℕ) (t : Tally) (i : ℕ) : Type 0 where
  pub same : records_pass mode d main begun 0 (records s) ≡ records_pass mode d main t i (records_from s (n - i) i)
  pub within : i ≤ n
  -- a record adds at most its data, of less than 2^32 octets, and what `head_few` says
  pub small : t.size ≤ start_size + length page_end + i * 4295032831

module _ (mode : Mode) (s d : List ℕ) (main n : ℕ) (f : Few s n) where
  pub pass_begun : Passing mode s d main n begun 0
  pass_begun = record { same = ap (records_pass mode d main begun 0) (all_records s n f); within = omega arith; small = lit≤ tt }

  module _ (t : Tally) (i : ℕ) (p : Passing mode s d main n t i) where
    pub pass_small : i < n → t.size ≤ 4611686018427387904
    pass_small l = let m = p.small in let w = f.few in omega arith

    pub pass_over : n ≤ i → Ok t ≡ pass_of (records_pass mode d main begun 0 (records s))
    unfolding records_pass pass_of
    pass_over l = sym (ap pass_of (p.same ∙ ap (records_pass mode d main t i) (entries_none (record_at s) n i l)))

    module _ (l : i < n) {r : Record} (e : r ≡ record_at s i) {x : Result Tally Refusal} (g : x ≡ pass_of (record_step mode d main t i r)) where
      on : records_pass mode d main begun 0 (records s) ≡ bind (record_step mode d main t i r) (λ (u : Tally) (k : ℕ). records_pass mode d main u k (records_from s (n - (i + 1)) (i + 1)))
      unfolding records_pass
      on = p.same ∙ ap (records_pass mode d main t i) (entries_next (record_at s) n i l) ∙ rw e refl

      by_wrong : (y : Res Tally) (a : Refusal) → record_step mode d main t i r ≡ y → pass_of y ≡ Err a → records_pass mode d main begun 0 (records s) ≡ no a
      unfolding pass_of bind
      by_wrong (ok u k) a q z = clash cc
      by_wrong (no b) a q z = let w : b ≡ a = cc in on ∙ simp q (ap no w)

      pub pass_wrong : {a : Refusal} → x ≡ Err a → Err a ≡ pass_of (records_pass mode d main begun 0 (records s))
      unfolding pass_of
      pass_wrong z = sym (ap pass_of (by_wrong (record_step mode d main t i r) _ refl (sym g ∙ z)))

      step_next : (u : Tally) → pass_of (record_step mode d main t i r) ≡ Ok u → (record_step mode d main t i r ≡ ok u (i + 1)) × (counted mode t r ≡ u)
      unfolding record_step pass_of
      step_next u =
          cond_with (λ y. pass_of y ≡ Ok u → (y ≡ ok u (i + 1)) × (counted mode t r ≡ u)) (ltb (length d) (r.start + r.len)) (λ a z. clash cc) λ a.
          cond_with (λ y. pass_of y ≡ Ok u → (y ≡ ok u (i + 1)) × (counted mode t r ≡ u)) (matches d main t r)
          (λ b z. let w : counted mode t r ≡ u = cc in (ap (λ (v : Tally). ok v (i + 1)) w, w))
          (λ b z. clash cc)

      pub pass_on : Octets s → (u : Tally) → x ≡ Ok u → Passing mode s d main n u (i + 1)
      unfolding bind counted record_at be32_at
      pass_on o u z =
          let w = step_next u (sym g ∙ z) in
          let m = p.small in
          let b : r.len < 4294967296 = subst (λ (v : Record). v.len < 4294967296) (sym e) (be32_bound s (i * record_size + 22) o) in
          let c : t.size + head_in mode r + r.len ≡ u.size = ap (λ (v : Tally). v.size) w.1 in
          let h = head_few mode r in
          record { same = on ∙ simp w.0; within = omega arith; small = omega arith }

pub ruleset pass_laws = (rules, pass_begun, pass_small, pass_over, pass_wrong)

-- ---- first_above
pub record Looking (most : ℕ) (s : List ℕ) (n i : ℕ) : Type 0 where
  pub same : mode_from most 0 (records s) ≡ mode_from most i (records_from s (n - i) i)
  pub within : i ≤ n

module _ (most : ℕ) (s : List ℕ) (n : ℕ) (f : Few s n) where
  pub mode_begun : Looking most s n 0
  mode_begun = record { same = ap (mode_from most 0) (all_records s n f); within = omega arith }

  pub mode_fits : (i : ℕ) → i < n → Fits w32 i
  mode_fits i l = let w = f.few in record { fits = omega arith }

  module _ (i : ℕ) (p : Looking most s n i) where
    pub mode_low : n ≤ i → None ≡ layers_of (mode_from most 0 (records s))
    unfolding mode_from layers_of
    mode_low l = sym (ap layers_of (p.same ∙ ap (mode_from most i) (entries_none (record_at s) n i l)))

    module _ (l : i < n) {r : Record} (e : r ≡ record_at s i) where
      pub mode_on : r.layer ≤ most → Looking most s n (i + 1)
      unfolding mode_from
      mode_on h =
          record {
            same = p.same ∙ ap (mode_from most i) (entries_next (record_at s) n i l) ∙ simp (ap (λ (x : Record). ltb most x.layer) (sym e) ∙ le-ltb most r.layer h);
            within = omega arith;
          }

      pub mode_above : most < r.layer → Some i ≡ layers_of (mode_from most 0 (records s))
      unfolding mode_from layers_of refusal_place
      mode_above h =
          let q : mode_from most i (record_at s i ∷ records_from s (n - (i + 1)) (i + 1)) ≡ no (BadMode i) = simp (ap (λ (x : Record). ltb most x.layer) (sym e) ∙ lt-ltb most r.layer h) in
          sym (ap layers_of (p.same ∙ ap (mode_from most i) (entries_next (record_at s) n i l) ∙ q))

pub ruleset mode_laws = (rules, mode_begun, mode_fits, mode_low, mode_on, mode_above)

-- ---- main_of
pub main_none : (s : List ℕ) → length s < 2 * record_size → 0 ≡ sheet_main (records s)
main_none s l = ap (λ (x : Record). x.res) (second_blank s l)

pub main_read : (s : List ℕ) {r : Record} → 2 * record_size ≤ length s → r ≡ record_at s 1 → r.res ≡ sheet_main (records s)
main_read s l e = ap (λ (x : Record). x.res) (second_read s l e)

-- ---- judge_records and judge_write
module _ (s : List ℕ) (n : ℕ) (g : Taken s n) where
  pub taken_few : Few s n
  taken_few = let q = sheet_few s n g.stripes g.good in let q0 = q.0 in let q3 = q.3 in record { whole = omega arith; few = q.0 }

module _ (mode : Mode) (s d : List ℕ) {m : Option ℕ} {most : ℕ} (a : most ≡ most_layers mode) (e : m ≡ layers_of (mode_from most 0 (records s))) where
  mode_no : (x : Res ℕ) → layers_of x ≡ None → (P : Type 0) → ((k k2 : ℕ) → x ≡ ok k k2 → P) → P
  unfolding layers_of
  mode_no (ok k n) z P f = f k n refl
  mode_no (no a) z P f = clash cc

  pub taken_low : {p : Result Tally Refusal} {main : ℕ} → m ≡ None → main ≡ sheet_main (records s) → p ≡ pass_of (records_pass mode d main begun 0 (records s)) → p ≡ pass_of (accepted_of mode s d)
  unfolding accepted_of bind
  taken_low {p} z y h =
      mode_no (mode_from (most_layers mode) 0 (records s)) (sym (e ∙ ap (λ (j : ℕ). layers_of (mode_from j 0 (records s))) a) ∙ z) (p ≡ pass_of (accepted_of mode s d)) (λ k k2 q. h ∙ rw y (simp q))

above_is : (most i : ℕ) (rs : List Record) (k : ℕ) → layers_of (mode_from most i rs) ≡ Some k → mode_from most i rs ≡ no (BadMode k)
unfolding mode_from layers_of refusal_place
above_is most i [] k = λ e. clash cc
above_is most i (r ∷ rs) k =
    cond_with (λ x. layers_of x ≡ Some k → x ≡ no (BadMode k)) (ltb most r.layer) (λ t e. let p : i ≡ k = cc in ap (λ (j : ℕ). no (BadMode j)) p) (λ t e. above_is most (i + 1) rs k e)

pub taken_above : (mode : Mode) (s d : List ℕ) {m : Option ℕ} {most : ℕ} (k : ℕ) → most ≡ most_layers mode → m ≡ layers_of (mode_from most 0 (records s)) → m ≡ Some k
    → Err (BadMode k) ≡ pass_of (accepted_of mode s d)
unfolding accepted_of bind pass_of
taken_above mode s d {most = most} k a e z = simp (ap (λ (j : ℕ). mode_from j 0 (records s)) (sym a) ∙ above_is most 0 (records s) k (sym e ∙ z))

module _ (rules : Rules) (s d : List ℕ) (v : Result Counts ℕ) (j : v ≡ judge_of s) where
  pub fault_fits : (i : ℕ) → v ≡ Err i → Fits w32 i
  fault_fits i e = let f = refused_few s i (sym j ∙ e) in record { fits = omega arith }

  pub write_bad : (i : ℕ) → v ≡ Err i → Err (BadSheet i) ≡ pass_of (verdict_of rules s d)
  unfolding verdict_of verdict_by pass_of answer_of
  write_bad i e = simp (sym j ∙ e)

  pub write_taken : (n : Counts) → v ≡ Ok n → Taken s n.records
  write_taken n e = record { stripes = n.stripes; good = sym j ∙ e }

  pub write_good : (n : Counts) {p : Result Tally Refusal} → v ≡ Ok n → p ≡ pass_of (accepted_of rules.mode s d) → p ≡ pass_of (verdict_of rules s d)
  unfolding verdict_of verdict_by accepted_of
  write_good n e h = h ∙ simp (sym j ∙ e)

pub ruleset verdict_laws = (rules, main_none, main_read, taken_few, taken_low, taken_above, fault_fits, write_bad, write_taken, write_good)
