-- Octet 17 of a record of a page's sheet is 1 exactly if its layer is coded image data of one component (02, 2026-07).
-- Assumes nothing.
use Prim.Native.Nat.{ℕ, ◌≤◌}
use native.Mathlib.Omega.{arith}
use mathlib.Core.Path.{◌≡◌, sym, ap, ◌∙◌}
use mathlib.Core.Logic.{◌↔◌, ◌≢◌, ⊎_elim}
use mathlib.Core.Bool.{cond}
use mathlib.Core.List.{List}
use lib.ListN.{length, take, drop}
use lib.Dec.{eqb}
use borrow.Author.Tests.{eq-eqb, ne_eqb}
use Rattle.laws.proofs.Says.{says_eq, says_else}
use Rattle.segment_rules.specs.Rules.{longest_page}
use Rattle.sheet_rules.specs.declared.Record.{Record}
use Rattle.sheet_rules.specs.Sentences.{Among, Coded, Grey}
use Rattle.jpeg_rules.specs.declared.Said.{Said}
use Rattle.jpeg_rules.specs.Said.{record_said}
use Rattle.jpeg_rules.specs.Grammar.{Layer}
use Rattle.jpeg_rules.proofs.Theorems.{layer_values}
use Rattle.page_rules.specs.Grammar.{Page}
use Rattle.page_rules.proofs.Parts.{page_accepted, page_named}

-- what the record names is a JPEG layer of one component
pub record OneComponent (main : ℕ) (s : List ℕ) (r : Record) : Type 0 where
  pub coded : Coded r
  pub image : r.layer ≢ 2
  pub said : Said
  pub layer : Layer main (take r.len (drop r.start s)) said
  pub one : said.components ≡ 1

pub grey_exactly : (s : List ℕ) (rs : List Record) (p : Page s rs) → length s ≤ longest_page → (r : Record) → Among r rs
    → r.octet17 ≡ 1 ↔ OneComponent p.head.main s r
grey_exactly s rs p h r m = (
  λ e.
      ⊎_elim (λ (z : r.octet17 ≡ 0). absurd (omega arith))
      (λ (g : Grey r).
      let odd = g.2 in
      let n : r.layer ≢ 2 = λ z. omega arith in
      record {
        coded = g.1;
        image = n;
        said = record_said r;
        layer =
            ⊎_elim (λ (z : r.layer ≡ 2). absurd (n z)) (λ (z : Layer p.head.main (take r.len (drop r.start s)) (record_said r)). z)
            (page_named s rs p r m g.1).layer;
        one = simp (eq-eqb r.octet17 1 e);
      })
      ((page_accepted s rs p h).unbroken.grey r m),
  λ k.
      ⊎_elim (λ (z : r.layer ≡ 2). absurd (k.image z))
      (λ (z : Layer p.head.main (take r.len (drop r.start s)) (record_said r)).
      let same : record_said r ≡ k.said = layer_values (take r.len (drop r.start s)) p.head.main (record_said r) k.said z k.layer in
      let one : cond (eqb r.octet17 1) 1 3 ≡ 1 = ap (λ (x : Said). x.components) same ∙ k.one in
      ⊎_elim (λ (e : r.octet17 ≡ 1). e)
      (λ (d : r.octet17 ≢ 1). let three : ◌≡◌ {A = ℕ} 3 1 = sym (simp (ne_eqb r.octet17 1 d)) ∙ one in absurd (omega arith))
      (says_else (says_eq r.octet17 1)))
      (page_named s rs p r m k.coded).layer,
)
