-- A body is refused with a number that reading can give, at a place within the page, where each turn is; and its count never runs out.
-- Assumes nothing.
use Prim.Native.Nat.{ℕ, zero, suc, ◌+◌, ◌-◌, ◌≤◌, ◌<◌}
use native.Mathlib.Omega.{arith}
use mathlib.Core.Path.{◌≡◌}
use mathlib.Core.List.{List}
use lib.ListN.{length}
use lib.Dec.{eqb, ltb, lit≤}
use Rattle.octets.specs.Octets.{Octets, stands_at}
use Rattle.laws.proofs.Cases.{cond_with, clash}
use Rattle.answers.specs.declared.Refusal.{Refusal}
use Rattle.answers.specs.declared.Refusal.TheVariants.{Short, BadStripe}
use Rattle.answers.specs.Answers.{refusal_number, refusal_place}
use Rattle.field_rules.specs.Field.{Res, no}
use Rattle.field_rules.specs.Part.{Exact, Apart}
use Rattle.field_rules.proofs.Parts.{exact_same}
use Rattle.field_rules.proofs.Named.{PageRefusal, bind_refused, short, told}
use Rattle.sheet_rules.specs.declared.Record.{Record}
use Rattle.body_rules.specs.Body.{end_mark, Item, skipped, striped, IsItem, a_stripe, on_item, laid, body_from}
use Rattle.body_rules.proofs.Body.{body_exact}

module _ (Optional : List ℕ → Type 0) (Stripe : ℕ → ℕ → ℕ → List ℕ → ℕ → List Record → Type 0) (turn : ℕ → ℕ → List ℕ → ℕ → Res Item) (Bad : ℕ → ℕ → ℕ → List ℕ → Refusal → Type 0)
    (exact : (k left : ℕ) (s : List ℕ) (at : ℕ) → at ≤ length s → left ≤ 65535 → k ≤ 64 → Exact (turn k left s at) (IsItem Optional Stripe k left at) (Bad k left at) s at) where
  module _ (s : List ℕ) (o : Octets s) (a : Refusal) (refused : (k left at : ℕ) → at ≤ length s → turn k left s at ≡ no a → PageRefusal (length s) a) where
    abbrev Rest : ℕ → Type 0
    Rest fuel = (k left : ℕ) (acc : List Record) (at : ℕ) → at ≤ length s → left ≤ 65535 → k ≤ 64 → body_from turn fuel k left acc s at ≡ no a → PageRefusal (length s) a

    behind_refused : (fuel k left : ℕ) (acc : List Record) (at : ℕ) → left ≤ 65535 → k ≤ 64 → Rest fuel → (it : Item) (e : ℕ) {l : List ℕ} → IsItem Optional Stripe k left at l it → e ≤ length s
        → on_item it (body_from turn fuel k left acc s e) (λ (height : ℕ) (rs : List Record). body_from turn fuel (suc k) (left - height) (laid k acc rs) s e) ≡ no a → PageRefusal (length s) a
    behind_refused fuel k left acc at low few rec skipped e z i q = rec k left acc e i low few q
    behind_refused fuel k left acc at low few rec (striped height rs) e (a_stripe h2 fw z) i q = rec (suc k) (left - height) (laid k acc rs) e i (omega arith) (omega arith) q

    pub body_refused : (fuel : ℕ) → Rest fuel
    unfolding body_from refusal_number refusal_place
    body_refused zero k left acc at h low few = λ q. told s a (Short at) (short s a at h) q
    body_refused (suc fuel) k left acc at h low few =
        cond_with (λ x. x ≡ no a → PageRefusal (length s) a) (ltb (length s) (at + 2)) (λ t e. told s a (Short at) (short s a at h) e) λ t.
        cond_with (λ x. x ≡ no a → PageRefusal (length s) a) (stands_at s at end_mark)
        (λ u. cond_with (λ x. x ≡ no a → PageRefusal (length s) a) (eqb k 0) (λ z e. told s a (BadStripe at) (record { least = lit≤ tt; most = lit≤ tt; place = h }) e) (λ z e. clash cc))
        (λ u q.
        bind_refused (PageRefusal (length s) a) (turn k left s at) _ a q (λ e. refused k left at h e) λ it e q1 q2.
        let st = (exact k left s at h low few).back o it e q1 in
        behind_refused fuel k left acc at low few (body_refused fuel) it e st.is st.inside q2)

  -- ---- a count that is enough changes nothing

  pub body_count : (opens : (k left at : ℕ) (l : List ℕ) (it : Item) → IsItem Optional Stripe k left at l it → Apart end_mark l) (s : List ℕ) → Octets s → (i j k left : ℕ) (acc : List Record) (at : ℕ)
      → length s < i + at → length s < j + at → at ≤ length s → left ≤ 65535 → k ≤ 64 → body_from turn i k left acc s at ≡ body_from turn j k left acc s at
  body_count opens s o i j k left acc at p q h low few =
      exact_same s at o (body_exact Optional Stripe turn Bad exact opens i k left acc s at p h low few) (body_exact Optional Stripe turn Bad exact opens j k left acc s at q h low few)
      (λ l rs z. z) (λ l x z. z)
