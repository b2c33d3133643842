-- The parts of a page: what holds of each stripe, whatever the mode, and where the stripes stand.
-- Assumes nothing.
use Prim.Native.Nat.{ℕ, ◌+◌, ◌≤◌, ◌<◌}
use native.Mathlib.Omega.{arith}
use mathlib.Core.Path.{◌≡◌, sym, ap, ◌∙◌}
use mathlib.Core.List.{List, ◌∷◌, ◌++◌, append_assoc}
use lib.ListN.{length, drop, length-append, replicate, length-replicate}
use Rattle.octets.proofs.Laws.{drop_next}
use Rattle.sheet_rules.specs.declared.Record.{Record}
use Rattle.sheet_rules.specs.declared.State.{State}
use Rattle.sheet_rules.specs.Sentences.{Among, Coded, Sheet}
use Rattle.segment_rules.specs.declared.Mode.{Mode}
use Rattle.segment_rules.specs.declared.Mode.TheVariants.{One}
use Rattle.segment_rules.specs.Rules.{longest_page}
use Rattle.start_rules.specs.declared.Head.{Head}
use Rattle.start_rules.specs.Grammar.{start_of, GoodHead}
use Rattle.body_rules.proofs.Accepted.{Ready, Ran, stripes_accepted, stripes_each}
use Rattle.mode1_rules.proofs.Accepted as M1
use Rattle.mode1_rules.proofs.Coded as M1C
use Rattle.mode1_rules.proofs.Coded.{Named}
use Rattle.page_rules.specs.Grammar.{StripeIn, Stripe, Page}

-- ---- what each mode's stripes satisfy

ran_in : (m : Mode) (hd : Head) → GoodHead hd → (k left at : ℕ) (l : List ℕ) (height : ℕ) (rs : List Record) → StripeIn m hd k left at l height rs → k < 64 → at + length l ≤ longest_page
    → (st : State) → Ready hd.main hd.width k left st → Ran hd.main hd.width k left height st rs
ran_in One hd g k left at l height rs z few small st rdy = M1.stripe_ran hd g k left at l height rs z few small st rdy

named_in : (m : Mode) (hd : Head) (k left at : ℕ) (l : List ℕ) (height : ℕ) (rs : List Record) → StripeIn m hd k left at l height rs → (s tail : List ℕ) → drop at s ≡ l ++ tail
    → at + length l ≤ length s → (r : Record) → Among r rs → Coded r → Named hd.main s r
named_in One hd k left at l height rs z s tail e h r m c = M1C.stripe_named z s tail e h r m c

-- ---- a stripe behind its beginning

stripe_size : {hd : Head} {k left at : ℕ} {l : List ℕ} {height : ℕ} {rs : List Record} (z : Stripe hd k left at l height rs) → length l ≡ length z.begin + length z.rest
stripe_size z = ap length z.octets ∙ length-append z.begin z.rest

pub at_body : {hd : Head} {k left at : ℕ} {l : List ℕ} {height : ℕ} {rs : List Record} (z : Stripe hd k left at l height rs) (s tail : List ℕ) → drop at s ≡ l ++ tail
    → drop (at + length z.begin) s ≡ z.rest ++ tail
at_body {at = at} z s tail e =
    drop_next s z.begin (z.rest ++ tail) at (e ∙ ap (λ (x : List ℕ). x ++ tail) z.octets ∙ append_assoc z.begin z.rest tail)

-- the stripes stand after the start of page and the optional segments
module _ (s : List ℕ) (rs : List Record) (p : Page s rs) where
  abbrev pub closing : List ℕ
  closing = 0xFF ∷ 0xD9 ∷ 0xFF ∷ 0xD9 ∷ replicate p.zeros 0

  pub page_stripes : drop (length (start_of p.head) + length p.optionals) s ≡ p.stripes ++ closing
  page_stripes =
      let d = drop_next s (start_of p.head) (p.optionals ++ (p.stripes ++ closing)) 0 p.octets in
      let z : 0 + length (start_of p.head) + length p.optionals ≡ length (start_of p.head) + length p.optionals = omega arith in
      ap (λ (j : ℕ). drop j s) (sym z) ∙ drop_next s p.optionals (p.stripes ++ closing) (0 + length (start_of p.head)) d

  pub page_within : length (start_of p.head) + length p.optionals + length p.stripes + 4 + p.zeros ≡ length s
  page_within =
      let a = ap length p.octets in
      let b = length-append (start_of p.head) (p.optionals ++ (p.stripes ++ closing)) in
      let c = length-append p.optionals (p.stripes ++ closing) in
      let d = length-append p.stripes closing in
      let f = length-replicate {A = ℕ} p.zeros 0 in
      omega arith

-- ---- the sheet of a page is one that the judge accepts

pub page_accepted : (s : List ℕ) (rs : List Record) → Page s rs → length s ≤ longest_page → Sheet rs
page_accepted s rs p h =
    let w = page_within s rs p in
    let hd = p.head in
    stripes_accepted (Stripe hd) hd.main hd.width longest_page
    (λ k left at l height rs z few small st rdy.
    let n = stripe_size z in
    ran_in hd.rules.mode hd p.good k left (at + length z.begin) z.rest height rs z.behind few (omega arith) st rdy)
    p.striped (omega arith)

-- ---- in every coded record of a page's sheet start and length lie within the page and name the layer's octets

pub page_named : (s : List ℕ) (rs : List Record) (p : Page s rs) (r : Record) → Among r rs → Coded r → Named p.head.main s r
page_named s rs p r m =
    let w = page_within s rs p in
    let hd = p.head in
    stripes_each (Stripe hd) (λ (t : List ℕ) (q : Record). Coded q → Named hd.main t q)
    (λ k left at l height rs z t tail e i q n.
    let u = stripe_size z in
    named_in hd.rules.mode hd k left (at + length z.begin) z.rest height rs z.behind t tail (at_body z t tail e) (omega arith) q n)
    p.striped s (closing s rs p) (page_stripes s rs p) (omega arith) r m
