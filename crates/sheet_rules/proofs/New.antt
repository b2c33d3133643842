-- What the judge's test of one record says, as facts over the state and the record.
-- Assumes nothing.
use Prim.Native.Nat.{ℕ, ◌+◌, ◌%◌, ◌≤◌, ◌<◌, ◌∣◌}
use native.Mathlib.Nat.{dvd_iff_mod-eq-zero}
use mathlib.Core.Path.{◌≡◌, refl, sym, ap, ◌∙◌}
use mathlib.Core.Logic.{◌⊎◌, ◌≢◌}
use mathlib.Core.Bool.{Bool, true, false, ◌&&◌, cond, false≢true}
use lib.Dec.{eqb}
use borrow.Author.Tests.{eqb-true, eq-eqb, ne_eqb}
use Rattle.sheet_rules.specs.declared.Record.{Record}
use Rattle.sheet_rules.specs.declared.State.{State}
use Rattle.sheet_rules.specs.Judge.{grey_ok, closes, placed, coded, coder_ok, coded_ok, uncoded_ok, data_ok, listed, divides, res_ok, base_ok, page_ok, choice_ok, upper_ok, layer_ok, keeps}
use Rattle.sheet_rules.specs.Sentences.{Coded, Uncoded, CoderOf, Listed}
use Rattle.laws.proofs.Says.{Says, says_eq, says_le, says_lt, says_true, says_and, says_or, says_not, says_not_not, says_as, says_group}

-- ---- the facts

abbrev pub NextLayer : State → Record → Type 0
NextLayer st r = ((r.stripe ≡ st.stripe) × (r.layer ≡ st.layer + 1)) × (r.layer ≤ 15)

abbrev pub Closes : State → Type 0
Closes st = (st.layer % 2 ≡ 1) × (3 ≤ st.layer)

abbrev pub NextStripe : State → Record → Type 0
NextStripe st r = (((r.stripe ≡ st.stripe + 1) × (r.stripe < 64)) × (r.layer ≡ 1)) × Closes st

pub record CodedFacts (r : Record) : Type 0 where
  pub coder : CoderOf r.layer r.coder
  pub width : r.width ≢ 0
  pub height : r.height ≢ 0
  pub ending : r.start + r.len < 4294967296

pub record EmptyFacts (r : Record) : Type 0 where
  pub x : r.x ≡ 0
  pub y : r.y ≡ 0
  pub width : r.width ≡ 0
  pub height : r.height ≡ 0

pub record UncodedFacts (r : Record) : Type 0 where
  pub coder : r.coder ≡ 0
  pub start : r.start ≡ 0
  pub empty : (r.layer ≡ 2) ⊎ EmptyFacts r

abbrev pub BaseFacts : Record → Type 0
BaseFacts r = ((r.base0 ≡ 0) × (r.base1 ≡ 0)) × (r.base2 ≡ 0)

-- a resolution, of a layer that is coded or not, under a main one
pub record ResFacts (is_coded : Bool) (res main : ℕ) : Type 0 where
  pub nonzero : res ≢ 0
  pub divides : res ∣ main
  pub same : (is_coded ≡ true) ⊎ (res ≡ main)

pub record PageFacts (st : State) (r : Record) : Type 0 where
  pub x : r.x ≡ 0
  pub y : r.y ≡ 0
  pub narrow : 1 ≤ r.width
  pub wide : r.width ≤ 32768
  pub low : 1 ≤ r.height
  pub high : r.height ≤ st.left
  pub same : (r.stripe ≡ 0) ⊎ ((r.width ≡ st.width) × (r.res ≡ st.main))
  pub res : ResFacts st.coded1 st.res1 r.res

-- the choice of coded layers 1 to 3
pub record ChoiceFacts (a b c : Bool) : Type 0 where
  pub some : (a ≡ true) ⊎ (b ≡ true) ⊎ (c ≡ true)
  pub mask : (b ≡ true) ⊎ ((a ≡ true) × (c ≡ true) → ⊥)

pub record UpperFacts (st : State) (r : Record) : Type 0 where
  pub res : ResFacts (coded r) r.res st.main
  pub choice : (r.layer ≢ 3) ⊎ ChoiceFacts st.coded1 st.coded2 (coded r)

abbrev pub GreyFacts : Record → Type 0
GreyFacts r = ((r.octet17 ≡ 1) × (r.layer % 2 ≡ 1)) × (r.coder ≡ 1)

pub record New (st : State) (r : Record) : Type 0 where
  pub zeros : r.octets26 ≡ 0
  pub grey : (r.octet17 ≡ 0) ⊎ GreyFacts r
  pub place : NextLayer st r ⊎ NextStripe st r
  pub contents : (Coded r × CodedFacts r) ⊎ (Uncoded r × UncodedFacts r)
  pub listed : Listed r.res
  pub base : (r.layer % 2 ≡ 1) ⊎ BaseFacts r
  pub layer : (r.layer ≡ 1) ⊎ ((r.layer ≡ 2) × PageFacts st r) ⊎ ((3 ≤ r.layer) × UpperFacts st r)

-- ---- each test says its facts

pub says_coded : (r : Record) → Says (coded r) (Coded r)
says_coded r = says_not (says_eq r.len 0)

says_grey : (r : Record) → Says (grey_ok r) ((r.octet17 ≡ 0) ⊎ GreyFacts r)
says_grey r =
    says_or (says_eq r.octet17 0) (says_and (says_and (says_eq r.octet17 1) (says_eq (r.layer % 2) 1)) (says_eq r.coder 1))

says_closes : (l : ℕ) → Says (closes l) ((l % 2 ≡ 1) × (3 ≤ l))
says_closes l = says_and (says_eq (l % 2) 1) (says_le 3 l)

says_placed : (st : State) (r : Record) → Says (placed st r) (NextLayer st r ⊎ NextStripe st r)
says_placed st r =
    says_or
    (says_and (says_and (says_eq r.stripe st.stripe) (says_eq r.layer (st.layer + 1))) (says_le r.layer 15))
    (says_and
    (says_and (says_and (says_eq r.stripe (st.stripe + 1)) (says_lt r.stripe 64)) (says_eq r.layer 1))
    (says_closes st.layer))

says_coder : (layer coder : ℕ) → Says (coder_ok layer coder) (CoderOf layer coder)
says_coder layer coder =
    says_or (says_eq coder 1)
    (says_and (says_eq (layer % 2) 0) (says_group (says_or (says_or (says_eq coder 2) (says_eq coder 4)) (says_eq coder 8))))

says_coded_ok : (r : Record) → Says (coded_ok r) (CodedFacts r)
says_coded_ok r =
    says_as
    (says_and
    (says_and
    (says_and (says_coder r.layer r.coder) (says_not (says_eq r.width 0)))
    (says_not (says_eq r.height 0)))
    (says_lt (r.start + r.len) 4294967296))
    (λ k. record { coder = k.0.0.0; width = k.0.0.1; height = k.0.1; ending = k.1 })
    (λ k. (((k.coder, k.width), k.height), k.ending))

says_empty : (r : Record) → Says (eqb r.x 0 && eqb r.y 0 && eqb r.width 0 && eqb r.height 0) (EmptyFacts r)
says_empty r =
    says_as
    (says_and (says_and (says_and (says_eq r.x 0) (says_eq r.y 0)) (says_eq r.width 0)) (says_eq r.height 0))
    (λ k. record { x = k.0.0.0; y = k.0.0.1; width = k.0.1; height = k.1 })
    (λ k. (((k.x, k.y), k.width), k.height))

says_uncoded_ok : (r : Record) → Says (uncoded_ok r) (UncodedFacts r)
says_uncoded_ok r =
    says_as
    (says_and (says_and (says_eq r.coder 0) (says_eq r.start 0)) (says_or (says_eq r.layer 2) (says_empty r)))
    (λ k. record { coder = k.0.0; start = k.0.1; empty = k.1 })
    (λ k. ((k.coder, k.start), k.empty))

says_data : (r : Record) → Says (data_ok r) ((Coded r × CodedFacts r) ⊎ (Uncoded r × UncodedFacts r))
says_data r =
    says_or (says_and (says_coded r) (says_coded_ok r))
    (says_and (says_not_not (says_eq r.len 0)) (says_uncoded_ok r))

pub says_listed : (n : ℕ) → Says (listed n) (Listed n)
says_listed n =
    says_group
    (says_group
    (says_group
    (says_group
    (says_or
    (says_or (says_or (says_or (says_or (says_eq n 100) (says_eq n 200)) (says_eq n 300)) (says_eq n 400)) (says_eq n 600))
    (says_eq n 1200)))))

pub says_divides : (a b : ℕ) → Says (divides a b) ((a ≢ 0) × (a ∣ b))
says_divides a b = record { told = told (eqb a 0) refl; shown = λ k. ap (λ (t : Bool). cond t false (eqb (b % a) 0)) (ne_eqb a 0 k.0) ∙ eq-eqb (b % a) 0 ((dvd_iff_mod-eq-zero a).0 k.1) }
  where
    told : (t : Bool) → eqb a 0 ≡ t → cond t false (eqb (b % a) 0) ≡ true → (a ≢ 0) × (a ∣ b)
    told true e h = absurd (false≢true h)
    told false e h = (λ z. false≢true (sym e ∙ eq-eqb a 0 z), (dvd_iff_mod-eq-zero a).1 (eqb-true (b % a) 0 h))

says_res : (is_coded : Bool) (res main : ℕ) → Says (res_ok is_coded res main) (ResFacts is_coded res main)
says_res is_coded res main =
    says_as (says_and (says_divides res main) (says_or (says_true is_coded) (says_eq res main)))
    (λ k. record { nonzero = k.0.0; divides = k.0.1; same = k.1 })
    (λ k. ((k.nonzero, k.divides), k.same))

says_base : (r : Record) → Says (base_ok r) ((r.layer % 2 ≡ 1) ⊎ BaseFacts r)
says_base r =
    says_or (says_eq (r.layer % 2) 1) (says_and (says_and (says_eq r.base0 0) (says_eq r.base1 0)) (says_eq r.base2 0))

says_page : (st : State) (r : Record) → Says (page_ok st r) (PageFacts st r)
says_page st r =
    says_as
    (says_and
    (says_and
    (says_and
    (says_and
    (says_and (says_and (says_and (says_eq r.x 0) (says_eq r.y 0)) (says_le 1 r.width)) (says_le r.width 32768))
    (says_le 1 r.height))
    (says_le r.height st.left))
    (says_or (says_eq r.stripe 0) (says_and (says_eq r.width st.width) (says_eq r.res st.main))))
    (says_res st.coded1 st.res1 r.res))
    (λ k.
    record {
      x = k.0.0.0.0.0.0.0;
      y = k.0.0.0.0.0.0.1;
      narrow = k.0.0.0.0.0.1;
      wide = k.0.0.0.0.1;
      low = k.0.0.0.1;
      high = k.0.0.1;
      same = k.0.1;
      res = k.1;
    })
    (λ k. (((((((k.x, k.y), k.narrow), k.wide), k.low), k.high), k.same), k.res))

pub says_choice : (a b c : Bool) → Says (choice_ok a b c) (ChoiceFacts a b c)
says_choice a b c =
    says_as
    (says_and (says_group (says_or (says_or (says_true a) (says_true b)) (says_true c))) (says_or (says_true b) (says_not (says_and (says_true a) (says_true c)))))
    (λ k. record { some = k.0; mask = k.1 })
    (λ k. (k.some, k.mask))

says_upper : (st : State) (r : Record) → Says (upper_ok st r) (UpperFacts st r)
says_upper st r =
    says_as
    (says_and (says_res (coded r) r.res st.main)
    (says_or (says_not (says_eq r.layer 3)) (says_choice st.coded1 st.coded2 (coded r))))
    (λ k. record { res = k.0; choice = k.1 })
    (λ k. (k.res, k.choice))

says_layer : (st : State) (r : Record)
    → Says (layer_ok st r) ((r.layer ≡ 1) ⊎ ((r.layer ≡ 2) × PageFacts st r) ⊎ ((3 ≤ r.layer) × UpperFacts st r))
says_layer st r =
    says_group
    (says_or (says_or (says_eq r.layer 1) (says_and (says_eq r.layer 2) (says_page st r)))
    (says_and (says_le 3 r.layer) (says_upper st r)))

-- the whole test of a record
pub says_new : (st : State) (r : Record) → Says (keeps st r) (New st r)
unfolding keeps
says_new st r =
    says_as
    (says_and
    (says_and
    (says_and
    (says_and (says_and (says_and (says_eq r.octets26 0) (says_grey r)) (says_placed st r)) (says_data r))
    (says_listed r.res))
    (says_base r))
    (says_layer st r))
    (λ k.
    record {
      zeros = k.0.0.0.0.0.0;
      grey = k.0.0.0.0.0.1;
      place = k.0.0.0.0.1;
      contents = k.0.0.0.1;
      listed = k.0.0.1;
      base = k.0.1;
      layer = k.1;
    })
    (λ k. ((((((k.zeros, k.grey), k.place), k.contents), k.listed), k.base), k.layer))
