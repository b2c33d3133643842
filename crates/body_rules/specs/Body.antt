-- The body of a page behind its start (01, "The page, Mode 1"): optional segments, 1 to 64 stripes, FF D9. What an optional segment and a stripe are is
-- not known here: the grammar takes any `Optional` and any `Stripe`, the reading any `turn`, the refusals any `Bad`.
--
--   Item                what one turn finds: an optional segment, or a stripe with its height and its records
--   IsItem              an item of the grammar: an optional segment only before the first stripe, and at most 64 stripes
--   Optionals, Stripes  any number of the one, 1 to 64 of the other
--   Body                both, and FF D9
--   laid                the records, stripe by stripe
--   body_from            the reading: at most so many turns
--   BadBody             where a body is refused: optional segments and stripes stand there, and what is due behind them is cut short, is FF D9 without
--                       a stripe, or is refused by its own rules
use Rattle.std.specs.Prelude.{ℕ, zero, suc, ◌+◌, ◌-◌, ◌<◌, ◌≡◌, cond, List, [], ◌∷◌, ◌++◌, length, eqb, ltb}
use Rattle.octets.specs.Octets.{stands_at}
use Rattle.answers.specs.declared.Refusal.{Refusal}
use Rattle.answers.specs.declared.Refusal.TheVariants.{Short, BadStripe}
use Rattle.sheet_rules.specs.declared.Record.{Record}
use Rattle.field_rules.specs.Field.{Res, ok, no, bind}
use Rattle.field_rules.specs.Part.{Apart}

-- FF D9 (9.4)
abbrev pub end_mark : List ℕ
end_mark = 0xFF ∷ 0xD9 ∷ []

pub data Item : Type 0 where
  skipped : Item
  striped : ℕ → List Record → Item

-- ---- the grammar

pub data Optionals (Optional : List ℕ → Type 0) : List ℕ → Type 0 where
  no_more : Optionals Optional []
  one_more : (l more : List ℕ) → Optional l → Optionals Optional more → Optionals Optional (l ++ more)

-- the stripes from number k on, at a place, with so much of the page's height left
pub data Stripes (Stripe : ℕ → ℕ → ℕ → List ℕ → ℕ → List Record → Type 0) : ℕ → ℕ → ℕ → List ℕ → List Record → Type 0 where
  last : {k left at : ℕ} → 0 < k → Stripes Stripe k left at [] []
  next : {k left at : ℕ} {l more : List ℕ} {rs sr : List Record} (height : ℕ) → k < 64 → Stripe k left at l height rs
      → Stripes Stripe (suc k) (left - height) (at + length l) more sr → Stripes Stripe k left at (l ++ more) (rs ++ sr)

module _ (Optional : List ℕ → Type 0) (Stripe : ℕ → ℕ → ℕ → List ℕ → ℕ → List Record → Type 0) where
  pub data IsItem (k left at : ℕ) : List ℕ → Item → Type 0 where
    an_optional : {l : List ℕ} → k ≡ 0 → Optional l → IsItem k left at l skipped
    a_stripe : {l : List ℕ} {rs : List Record} (height : ℕ) → k < 64 → Stripe k left at l height rs → IsItem k left at l (striped height rs)

  pub record Body (at : ℕ) (l : List ℕ) (rs : List Record) : Type 0 where
    pub optionals : List ℕ
    pub stripes : List ℕ
    pub octets : l ≡ optionals ++ (stripes ++ end_mark)
    pub optional : Optionals Optional optionals
    pub striped : Stripes Stripe 0 65535 (at + length optionals) stripes rs

  -- ---- the refusals

  pub data BadBody (Bad : ℕ → ℕ → ℕ → List ℕ → Refusal → Type 0) : ℕ → ℕ → ℕ → List ℕ → Refusal → Type 0 where
    cut : {k left at : ℕ} {l : List ℕ} → length l < 2 → BadBody Bad k left at l (Short at)
    no_stripe : {left at : ℕ} (rest : List ℕ) → BadBody Bad 0 left at (end_mark ++ rest) (BadStripe at)
    bad_item : {k left at : ℕ} {l : List ℕ} {x : Refusal} → Apart end_mark l → Bad k left at l x → BadBody Bad k left at l x
    behind_optional : {left at : ℕ} {x : Refusal} (l rest : List ℕ) → Optional l → BadBody Bad 0 left (at + length l) rest x
        → BadBody Bad 0 left at (l ++ rest) x
    behind_stripe : {k left at : ℕ} {x : Refusal} (l rest : List ℕ) (height : ℕ) (rs : List Record) → k < 64 → Stripe k left at l height rs
        → BadBody Bad (suc k) (left - height) (at + length l) rest x → BadBody Bad k left at (l ++ rest) x

-- ---- the reading

abbrev pub on_item : {A : Type 0} → Item → A → (ℕ → List Record → A) → A
on_item skipped skip go = skip
on_item (striped height rs) skip go = go height rs

-- the records so far, and those of stripe k behind them
abbrev pub laid : ℕ → List Record → List Record → List Record
laid k acc rs = acc ++ rs

-- a turn takes octets, so that the length of the page is enough for their number
unfoldable pub body_from : (ℕ → ℕ → List ℕ → ℕ → Res Item) → ℕ → ℕ → ℕ → List Record → List ℕ → ℕ → Res (List Record)
unfolding bind
body_from turn zero k left acc s at = no (Short at)
body_from turn (suc fuel) k left acc s at =
    cond (ltb (length s) (at + 2)) (no (Short at))
    (cond (stands_at s at end_mark)
    (cond (eqb k 0) (no (BadStripe at)) (ok acc (at + 2)))
    (bind (turn k left s at) (λ (it : Item) (e : ℕ).
    on_item it (body_from turn fuel k left acc s e) (λ (height : ℕ) (rs : List Record). body_from turn fuel (suc k) (left - height) (laid k acc rs) s e))))
