-- The part that is handed out, for every request: which octets it is and where it stands.
-- Assumes nothing.
use Prim.Native.Nat.{ℕ, ◌+◌, ◌≤◌, ◌<◌}
use native.Mathlib.Omega.{arith}
use mathlib.Core.Path.{◌≡◌, refl, sym, ap, subst, ◌∙◌}
use mathlib.Core.Logic.{⊎_elim}
use mathlib.Core.List.{List, []}
use lib.ListN.{length, take, drop, length-drop}
use lib.Seq.{length-take-le}
use borrow.Author.Tests.{eq-eqb, ne_eqb}
use Rattle.laws.proofs.Cases.{clash}
use Rattle.laws.proofs.Says.{says_eq, says_le, says_else}
use Rattle.sheet_rules.specs.declared.Record.{Record}
use Rattle.sheet_rules.specs.Record.{records, nth}
use Rattle.sheet_rules.specs.Sentences.{Coded, Uncoded}
use Rattle.data_rules.specs.declared.Source.{Source}
use Rattle.data_rules.specs.declared.Source.TheVariants.{Page, Pencil}
use Rattle.data_rules.specs.declared.Part.{Part}
use Rattle.std.specs.Prelude.{Ok}
use Rattle.data_rules.specs.Data.{source_of, source_number, octets_in, empty_part, part_in, found_of, data_by, data_of, part_by, part_of, source_by, part_source, start_by, part_start}
use Rattle.data_rules.specs.Sentences.{LayerAt, Fits, Nothing, Handed}
use Rattle.data_rules.proofs.Layer.{source_low, source_high, octets_low, octets_high}
use Rattle.data_rules.proofs.Cases.{found_cases}

-- ---- the part of a record

module _ (l : ℕ) (r : Record) where
  part_coded : Coded r → part_in l r ≡ record { source = source_of l; start = r.start; len = r.len }
  unfolding part_in
  part_coded d = simp (ne_eqb r.len 0 d)

  part_uncoded : Uncoded r → part_in l r ≡ empty_part
  unfolding part_in
  part_uncoded e = simp (eq-eqb r.len 0 e)

  -- whatever is taken of no octets
  none_taken : (d : List ℕ) → Uncoded r → [] ≡ take r.len d
  none_taken d e = sym (ap (λ (n : ℕ). take n d) e)

  module _ (page pencil : List ℕ) where
    -- its octets are those that the record names
    part_octets : part_by page pencil (Ok (part_in l r)) ≡ take r.len (drop r.start (octets_in page pencil (source_of l)))
    unfolding part_by
    part_octets =
        ⊎_elim
        (λ (e : Uncoded r). ap (λ (p : Part). part_by page pencil (Ok p)) (part_uncoded e) ∙ none_taken (drop r.start (octets_in page pencil (source_of l))) e)
        (λ (d : Coded r). ap (λ (p : Part). part_by page pencil (Ok p)) (part_coded d))
        (says_else (says_eq r.len 0))

    -- and it lies within what holds it
    part_within : Fits page pencil l r → (part_in l r).start + (part_in l r).len ≤ length (octets_in page pencil (part_in l r).source)
    part_within f =
        ⊎_elim
        (λ (e : Uncoded r). subst (λ (p : Part). p.start + p.len ≤ length (octets_in page pencil p.source)) (sym (part_uncoded e)) (omega arith))
        (λ (d : Coded r).
        subst (λ (p : Part). p.start + p.len ≤ length (octets_in page pencil p.source)) (sym (part_coded d))
        (⊎_elim (λ (a : l ≤ 3). let g = f.low a in let e = ap length (octets_low page pencil l a) in omega arith)
        (λ (a : l ≤ 3 → ⊥). let b : 3 < l = omega arith in let g = f.high b in let e = ap length (octets_high page pencil l b) in omega arith)
        (says_else (says_le l 3))))
        (says_else (says_eq r.len 0))

    part_nothing : Uncoded r → Nothing (part_by page pencil (Ok (part_in l r))) (part_in l r).source (part_in l r).start
    part_nothing e =
        record {
          octets = part_octets ∙ sym (none_taken (drop r.start (octets_in page pencil (source_of l))) e);
          source = ap (λ (p : Part). p.source) (part_uncoded e);
          start = ap (λ (p : Part). p.start) (part_uncoded e);
        }

-- ---- for every request: Done n hands out a part of n octets, which stands in the named source at the named start

pub record Stands (n : ℕ) (d : List ℕ) (start : ℕ) (p : List ℕ) : Type 0 where
  pub count : length p ≡ n
  pub within : start + n ≤ length d
  pub there : take n (drop start d) ≡ p

module _ (s page pencil : List ℕ) (k l : ℕ) where
  -- what lies, lies within its source
  pub lies_within : (p : Part) → found_of s page pencil k l ≡ Ok p → p.start + p.len ≤ length (octets_in page pencil p.source)
  lies_within =
      found_cases s page pencil k l (λ f. (p : Part) → f ≡ Ok p → p.start + p.len ≤ length (octets_in page pencil p.source))
      (λ i b p e. clash cc)
      (λ a n p e. clash cc)
      (λ a i y q p e. clash cc)
      (λ a i y f p e.
      let z : part_in l (nth (records s) i) ≡ p = cc in
      subst (λ (p : Part). p.start + p.len ≤ length (octets_in page pencil p.source)) z (part_within l (nth (records s) i) page pencil f))

  pub part_stands : (n : ℕ) → data_of s page pencil k l ≡ Ok n
      → Stands n (octets_in page pencil (part_source s page pencil k l)) (part_start s page pencil k l) (part_of s page pencil k l)
  unfolding data_of data_by part_of part_by part_source source_by part_start start_by
  part_stands n =
      found_cases s page pencil k l (λ f. data_by f ≡ Ok n → Stands n (octets_in page pencil (source_by f)) (start_by f) (part_by page pencil f))
      (λ i b q. clash cc)
      (λ a m q. clash cc)
      (λ a i y m q. clash cc)
      (λ a i y f q. stands (part_in l (nth (records s) i)) (part_within l (nth (records s) i) page pencil f) cc)
    where
      stands : (p : Part) → p.start + p.len ≤ length (octets_in page pencil p.source) → p.len ≡ n
          → Stands n (octets_in page pencil p.source) p.start (take p.len (drop p.start (octets_in page pencil p.source)))
      stands p w z =
          let d = length-drop p.start (octets_in page pencil p.source) in
          let t = length-take-le p.len (drop p.start (octets_in page pencil p.source)) (omega arith) in
          record {
            count = t ∙ z;
            within = omega arith;
            there = ap (λ (j : ℕ). take j (drop p.start (octets_in page pencil p.source))) (sym z);
          }

  -- and it is the layer's: the octets that its record names, of the page for layers 1 to 3 and of the pencil file for higher ones

  pub part_handed : (n : ℕ) → data_of s page pencil k l ≡ Ok n
      → Handed s page pencil k l (part_of s page pencil k l) (part_source s page pencil k l) (part_start s page pencil k l)
  unfolding data_of data_by part_of part_source source_by part_start start_by
  part_handed n =
      found_cases s page pencil k l (λ f. data_by f ≡ Ok n → Handed s page pencil k l (part_by page pencil f) (source_by f) (start_by f))
      (λ i b q. clash cc)
      (λ a m q. clash cc)
      (λ a i y m q. clash cc)
      (λ a i y f q. handed i y)
    where
      handed : (i : ℕ) → LayerAt (records s) k l i
          → Handed s page pencil k l (part_by page pencil (Ok (part_in l (nth (records s) i)))) (part_in l (nth (records s) i)).source (part_in l (nth (records s) i)).start
      handed i y =
          let r : Record = nth (records s) i in
          record {
            place = i;
            layer = y;
            low = λ a. part_octets l r page pencil ∙ ap (λ (d : List ℕ). take r.len (drop r.start d)) (octets_low page pencil l a);
            high = λ a. part_octets l r page pencil ∙ ap (λ (d : List ℕ). take r.len (drop r.start d)) (octets_high page pencil l a);
            source = λ c. (λ a. ap (λ (p : Part). p.source) (part_coded l r c) ∙ source_low l a, λ a. ap (λ (p : Part). p.source) (part_coded l r c) ∙ source_high l a);
            start = λ c. ap (λ (p : Part). p.start) (part_coded l r c);
            uncoded = λ e. part_nothing l r page pencil e;
          }

  -- the part of a refusal is empty

  pub part_refused : ((n : ℕ) → data_of s page pencil k l ≡ Ok n → ⊥)
      → Nothing (part_of s page pencil k l) (part_source s page pencil k l) (part_start s page pencil k l)
  unfolding data_of data_by part_of part_by part_source source_by part_start start_by
  part_refused =
      found_cases s page pencil k l (λ f. ((n : ℕ) → data_by f ≡ Ok n → ⊥) → Nothing (part_by page pencil f) (source_by f) (start_by f))
      (λ i b h. nothing)
      (λ a m h. nothing)
      (λ a i y m h. nothing)
      (λ a i y f h. absurd (h (part_in l (nth (records s) i)).len refl))
    where
      nothing : Nothing [] Page 0
      nothing = record { octets = refl; source = refl; start = refl }

-- ---- the number by which a viewer is told what holds the part: 0 the page, 1 the pencil file, and 0 where there is no part

pub record Numbered (l n : ℕ) (x : Source) : Type 0 where
  pub low : 0 < n → l ≤ 3 → source_number x ≡ 0
  pub high : 0 < n → 3 < l → source_number x ≡ 1
  pub none : n ≡ 0 → source_number x ≡ 0

pub number_page : (x : Source) → x ≡ Page → source_number x ≡ 0
unfolding source_number
number_page x e = ap source_number e

pub number_pencil : (x : Source) → x ≡ Pencil → source_number x ≡ 1
unfolding source_number
number_pencil x e = ap source_number e

part_numbered : (l n : ℕ) (r : Record) → (part_in l r).len ≡ n → Numbered l n (part_in l r).source
part_numbered l n r z =
    ⊎_elim
    (λ (e : Uncoded r).
    let x = number_page (part_in l r).source (ap (λ (p : Part). p.source) (part_uncoded l r e)) in
    let m : (part_in l r).len ≡ 0 = ap (λ (p : Part). p.len) (part_uncoded l r e) in
    record { low = λ some a. x; high = λ some a. absurd (omega arith); none = λ no. x })
    (λ (d : Coded r).
    let x : (part_in l r).source ≡ source_of l = ap (λ (p : Part). p.source) (part_coded l r d) in
    let m : (part_in l r).len ≡ r.len = ap (λ (p : Part). p.len) (part_coded l r d) in
    record {
      low = λ some a. number_page (part_in l r).source (x ∙ source_low l a);
      high = λ some a. number_pencil (part_in l r).source (x ∙ source_high l a);
      none = λ no. absurd (d (sym m ∙ z ∙ no));
    })
    (says_else (says_eq r.len 0))

module _ (s page pencil : List ℕ) (k l : ℕ) where
  pub source_numbered : (n : ℕ) → data_of s page pencil k l ≡ Ok n → Numbered l n (part_source s page pencil k l)
  unfolding data_of data_by part_source source_by
  source_numbered n =
      found_cases s page pencil k l (λ f. data_by f ≡ Ok n → Numbered l n (source_by f))
      (λ i b q. clash cc)
      (λ a m q. clash cc)
      (λ a i y m q. clash cc)
      (λ a i y f q. part_numbered l n (nth (records s) i) cc)

  pub refused_numbered : ((n : ℕ) → data_of s page pencil k l ≡ Ok n → ⊥) → source_number (part_source s page pencil k l) ≡ 0
  refused_numbered h = number_page (part_source s page pencil k l) (part_refused s page pencil k l h).source
