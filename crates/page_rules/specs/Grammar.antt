-- A page by concatenation, to be read beside 9.6.2 of T.44: the start of page, optional segments, stripes, the end of page, and zero octets. Independent
-- of the reader's steps, and of the mode: what stands behind the beginning of a stripe is the mode's.
--
--   Optional v l     an optional segment
--   body_in           the octets of a stripe's own body, by the mode; StripeIn: what stands from there on
--   Stripe hd k left at ..   a stripe of number k, with so much of the height left, at a place of the page, and its records
--   Page s rs        the octets s are a page whose sheet has the records rs
use Rattle.std.specs.Prelude.{ℕ, ◌+◌, ◌≤◌, ◌≡◌, List, ◌∷◌, ◌++◌, length, replicate}
use Rattle.sheet_rules.specs.declared.Record.{Record}
use Rattle.segment_rules.specs.declared.Version.{Version}
use Rattle.segment_rules.specs.declared.Mode.{Mode}
use Rattle.segment_rules.specs.declared.Mode.TheVariants.{One}
use Rattle.segment_rules.specs.Segment.{Opening}
use Rattle.start_rules.specs.declared.Head.{Head}
use Rattle.start_rules.specs.Grammar.{start_of, GoodHead}
use Rattle.body_rules.specs.Body as B
use Rattle.mode1_rules.specs.Kinds.{stripe_body}
use Rattle.mode1_rules.specs.Grammar as M1

-- ---- optional segments (9.2.2): 03 to FE

pub data Optional (v : Version) : List ℕ → Type 0 where
  optional : (n : ℕ) (begin body : List ℕ) → 3 ≤ n → n ≤ 0xFE → Opening v n (length body) begin → Optional v (begin ++ body)

-- ---- a stripe (9.3): its segment, with a body of its own, and its coded layers

abbrev pub body_in : Mode → ℕ
body_in One = stripe_body

abbrev pub StripeIn : Mode → Head → ℕ → ℕ → ℕ → List ℕ → ℕ → List Record → Type 0
StripeIn One = M1.Stripe

pub record Stripe (hd : Head) (k left at : ℕ) (l : List ℕ) (height : ℕ) (rs : List Record) : Type 0 where
  pub begin : List ℕ
  pub rest : List ℕ
  pub octets : l ≡ begin ++ rest
  pub opens : Opening hd.rules.version 0x01 (body_in hd.rules.mode) begin
  pub behind : StripeIn hd.rules.mode hd k left (at + length begin) rest height rs

abbrev pub Stripes : Head → ℕ → ℕ → ℕ → List ℕ → List Record → Type 0
Stripes hd = B.Stripes (Stripe hd)

-- ---- the page

pub record Page (s : List ℕ) (rs : List Record) : Type 0 where
  pub head : Head
  pub optionals : List ℕ
  pub stripes : List ℕ
  pub zeros : ℕ
  pub octets : s ≡ start_of head ++ (optionals ++ (stripes ++ (0xFF ∷ 0xD9 ∷ 0xFF ∷ 0xD9 ∷ replicate zeros 0)))
  pub good : GoodHead head
  pub optional : B.Optionals (Optional head.rules.version) optionals
  pub striped : Stripes head 0 65535 (length (start_of head) + length optionals) stripes rs
