-- What the buffer holds where the call answers Done.
-- Assumes nothing.
use Rattle.std.specs.Prelude.{Ok}
use Prim.Native.Nat.{ℕ, ◌+◌, ◌≤◌}
use native.Mathlib.Omega.{arith}
use mathlib.Core.Path.{◌≡◌, refl, sym, ap, ap₂, subst, ◌∙◌}
use mathlib.Core.List.{List}
use lib.ListN.{length, take, drop}
use lib.Seq.{take_at}
use lib.Dec.{ltb}
use borrow.Author.Tests.{le-ltb, ltb-false}
use Rattle.octets.specs.Octets.{Octets, put_at}
use Rattle.octets.proofs.Laws.{put_rest, put_length}
use Rattle.segment_rules.specs.Rules.{longest_page}
use Rattle.laws.proofs.Cases.{cond_with, clash}
use Rattle.field_rules.specs.Field.{Res, ok, no}
use Rattle.segment_rules.specs.declared.Mode.TheVariants.{One}
use Rattle.segment_rules.specs.Rules.{mode1}
use Rattle.sheet_rules.specs.declared.Record.{Record}
use Rattle.sheet_rules.specs.Record.{records}
use Rattle.sheet_rules.specs.Sentences.{Among}
use Rattle.page_rules.specs.Grammar.{Page}
use Rattle.page_rules.proofs.Theorems.{page_once}
use Rattle.write_rules.specs.declared.Tally.{Tally}
use Rattle.write_rules.specs.Writing.{verdict_of, page_by, size_answer, answer_by, write_of, into_by, write_into}
use Rattle.write_rules.specs.Form.{Lands, Formed}
use Rattle.write_rules.specs.Sentences.{size_of}
use Rattle.write_rules.proofs.Answered.{Tallied, verdict_back}
use Rattle.write_rules.proofs.Sizes.{passed_size}
use Rattle.write_rules.proofs.Ready.{Sized}
use Rattle.write_rules.proofs.Lands.{moved_of}
use Rattle.write_rules.proofs.Written.{written_same, written_formed, written_layers, length_written, written_octets}

pub tally_size : (s d : List ℕ) (u : Tally) → Tallied One s d u → u.size ≡ size_of One (records s)
tally_size s d u k = passed_size One d u (records s) k.passed

pub size_done : (room size n : ℕ) → size_answer room size ≡ Ok n → (n ≡ size) × (size ≤ longest_page) × (size ≤ room)
unfolding size_answer
size_done room size n =
    cond_with (λ x. x ≡ Ok n → (n ≡ size) × (size ≤ longest_page) × (size ≤ room)) (ltb longest_page size) (λ t q. clash cc) λ t.
    cond_with (λ x. x ≡ Ok n → (n ≡ size) × (size ≤ longest_page) × (size ≤ room)) (ltb room size) (λ u q. clash cc)
    (λ u q. let z : size ≡ n = cc in (sym z, ltb-false longest_page size t, ltb-false room size u))

pub record Into (s d p : List ℕ) (n : ℕ) : Type 0 where
  pub u : Tally
  pub accepted : Tallied One s d u
  pub size : u.size ≡ n
  pub short : n ≤ longest_page
  pub fits : n ≤ length p
  pub into : write_into s d p ≡ put_at p 0 (page_by mode1 d (records s) u)

pub done_into : (s d p : List ℕ) → Octets d → (n : ℕ) → write_of s d (length p) ≡ Ok n → Into s d p n
unfolding write_of answer_by write_into into_by
done_into s d p o n = by (verdict_of mode1 s d) refl
  where
    by : (r : Res Tally) → verdict_of mode1 s d ≡ r → answer_by (length p) r ≡ Ok n → Into s d p n
    by (ok u m) e q =
        let z = size_done (length p) u.size n q in
        let z0 = z.0 in
        let z1 = z.1 in
        let z2 = z.2 in
        record {
          u = u;
          accepted = verdict_back mode1 s d o u m e;
          size = sym z0;
          short = omega arith;
          fits = omega arith;
          into = ap (into_by mode1 p d (records s)) e ∙ simp (le-ltb longest_page u.size z1, le-ltb (length p) u.size z2);
        }
    by (no a) e q = clash cc

module _ (s d p : List ℕ) (o : Octets d) (sized : (r : Record) → Among r (records s) → Sized r) (n : ℕ) (k : Into s d p n) where
  pub into_length : length (page_by mode1 d (records s) k.u) ≡ n
  into_length =
      let a = k.accepted in length_written mode1 d o (records s) k.u a.sheet a.low sized a.passed ∙ k.size

  pub into_page : take n (write_into s d p) ≡ page_by mode1 d (records s) k.u
  unfolding put_at
  into_page = ap (take n) k.into ∙ take_at (page_by mode1 d (records s) k.u) (drop (0 + length (page_by mode1 d (records s) k.u)) p) n into_length

  pub into_size : length (take n (write_into s d p)) ≡ n
  into_size = ap length into_page ∙ into_length

  pub into_octets : Octets (take n (write_into s d p))
  into_octets =
      let a = k.accepted in subst Octets (sym into_page) (written_octets mode1 d o (records s) k.u a.sheet a.low sized a.passed)

  pub into_kept : (drop n (write_into s d p) ≡ drop n p) × (length (write_into s d p) ≡ length p)
  into_kept =
      let l = into_length in
      let f = k.fits in
      let z : 0 + length (page_by mode1 d (records s) k.u) ≡ n = omega arith in (
        ap₂ (λ (j : ℕ) (x : List ℕ). drop j x) (sym z) k.into ∙ put_rest p 0 (page_by mode1 d (records s) k.u) (omega arith) ∙ ap (λ (j : ℕ). drop j p) z,
        ap length k.into ∙ put_length p 0 (page_by mode1 d (records s) k.u) (omega arith),
      )

  pub into_lands : Lands (records s) d (take n (write_into s d p))
  into_lands =
      let a = k.accepted in
      subst (Lands (records s) d) (sym into_page)
      (record {
        records = moved_of One d (records s);
        page = (written_formed mode1 d o (records s) k.u a.sheet a.low sized a.passed).page;
        same = written_same mode1 d o (records s) k.u a.sheet a.low sized a.passed;
        layers = written_layers mode1 d o (records s) k.u a.sheet a.low sized a.passed;
      })

  pub into_formed : (rs : List Record) → Page (take n (write_into s d p)) rs → Formed (take n (write_into s d p)) rs
  into_formed rs y =
      let a = k.accepted in
      let f : Formed (take n (write_into s d p)) (moved_of One d (records s)) =
      subst (λ (l : List ℕ). Formed l (moved_of One d (records s))) (sym into_page) (written_formed mode1 d o (records s) k.u a.sheet a.low sized a.passed) in
      subst (Formed (take n (write_into s d p))) (page_once (take n (write_into s d p)) (moved_of One d (records s)) rs f.page y) f
