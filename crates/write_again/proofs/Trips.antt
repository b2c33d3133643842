-- A page that was read: its sheet and itself are what the writer asks for.
-- Assumes nothing.
use Prim.Native.Nat.{ℕ, ◌+◌, ◌≤◌, ◌<◌}
use native.Mathlib.Omega.{arith}
use mathlib.Core.Path.{◌≡◌, sym, ap, subst, ◌∙◌}
use mathlib.Core.Logic.{⊎_elim}
use mathlib.Core.Bool.{true, false}
use mathlib.Core.List.{List, ◌∷◌, ◌++◌}
use lib.ListN.{length, length-append, length-replicate, replicate}
use Rattle.segment_rules.specs.Rules.{longest_page}
use Rattle.laws.proofs.Cases.{bool_else}
use Rattle.segment_rules.specs.declared.Mode.TheVariants.{One}
use Rattle.sheet_rules.specs.declared.Record.{Record}
use Rattle.sheet_rules.specs.Record.{records, sheet_of}
use Rattle.sheet_rules.specs.Judge.{coded}
use Rattle.sheet_rules.specs.Sentences.{Among, Sheet}
use Rattle.sheet_rules.proofs.New.{says_coded}
use Rattle.jpeg_rules.specs.Said.{record_said}
use Rattle.jpeg_rules.specs.Grammar.{Layer}
use Rattle.start_rules.specs.Grammar.{start_of}
use Rattle.page_rules.specs.Grammar.{Page}
use Rattle.start_rules.proofs.Start.{length_start, only_mode1}
use Rattle.segment_rules.specs.declared.Rules.{Rules}
use Rattle.sheet_rules.specs.Record.{sum_of}
use Rattle.write_rules.proofs.Passed.{size_in}
use Rattle.page_rules.proofs.Parts.{page_accepted}
use Rattle.page_rules.proofs.Parts.{page_named}
use Rattle.write_rules.specs.Layer.{layer_octets}
use Rattle.write_rules.specs.Sentences.{Fine, Low, start_size, page_end, size_of, sheet_main}
use Rattle.write_rules.proofs.Sizes.{size_each}
use Rattle.write_rules.proofs.Placed.{uncoded_is}
use Rattle.write_rules.proofs.Ready.{Sized}
use Rattle.write_again.proofs.Mode1.{Lent}
use Rattle.write_again.proofs.Lent.{stripes_lent, stripes_main, stripes_size}
use Rattle.sheet_rules.proofs.Cut.{sheet_back}

-- the octets of a page
pub length_page : (s : List ℕ) (rs : List Record) (y : Page s rs) → length s ≡ start_size + length page_end + length y.optionals + length y.stripes + y.zeros
length_page s rs y =
    let close : List ℕ = 0xFF ∷ 0xD9 ∷ 0xFF ∷ 0xD9 ∷ replicate y.zeros 0 in
    let a = ap length y.octets in
    let b = length-append (start_of y.head) (y.optionals ++ (y.stripes ++ close)) in
    let c = length-append y.optionals (y.stripes ++ close) in
    let d = length-append y.stripes close in
    let e = length-replicate {A = ℕ} y.zeros 0 in
    let f = length_start y.head in
    omega arith

module _ (s : List ℕ) (rs : List Record) (y : Page s rs) (short : length s ≤ longest_page) where
  lent : (r : Record) → Among r rs → Lent y.head r
  lent = stripes_lent y.striped

  pub trip_sheet : Sheet rs
  trip_sheet = page_accepted s rs y short

  pub trip_low : Low One rs
  trip_low r m = (lent r m).low

  pub trip_fine : Fine (sheet_main rs) s rs
  trip_fine =
      let e = sym (stripes_main y.striped).0 in
      record {
        fits = λ r m c. (page_named s rs y r m c).inside;
        layers = λ r m c n.
            subst (λ (j : ℕ). Layer j (layer_octets s r) (record_said r)) e
            (⊎_elim (λ (z : r.layer ≡ 2). absurd (n z)) (λ (z : Layer y.head.main (layer_octets s r) (record_said r)). z) (page_named s rs y r m c).layer);
        coders = λ r q m j c w e f. (lent r m).mask c e ∙ sym ((lent q j).mask w f);
      }

  small : (r : Record) → Among r rs → r.len < 4294967296
  small r m =
      ⊎_elim
      (λ (e : coded r ≡ true). let n = (page_named s rs y r m ((says_coded r).told e)).inside in omega arith)
      (λ (e : coded r ≡ false). let z = uncoded_is r e in omega arith)
      (bool_else (coded r))

  trip_sized : (r : Record) → Among r rs → Sized r
  trip_sized r m = let k = lent r m in record { base = k.base; offset = k.offset; len = small r m }

  -- of the records that its sheet is cut into
  pub sheet_sized : (r : Record) → Among r (records (sheet_of rs)) → Sized r
  sheet_sized r m = trip_sized r (subst (Among r) (sheet_back rs) m)

  pub trip_size : start_size + length page_end + length y.stripes ≡ size_of One rs
  trip_size = ap (λ (n : ℕ). start_size + length page_end + n)
      (sym (stripes_size y.striped) ∙ ap (λ (r : Rules). sum_of (size_in r.mode) rs) (only_mode1 y.head.rules))
      ∙ sym (size_each One rs)
