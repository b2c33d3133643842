-- A page's stripe, lent to the writer with its records, whatever the mode: each law by cases, as each mode's own file proves it.
-- Assumes nothing.
use Prim.Native.Nat.{ℕ, ◌+◌}
use native.Mathlib.Omega.{arith}
use mathlib.Core.Path.{◌≡◌, refl, sym, ap, ap₂, ◌∙◌}
use mathlib.Core.List.{List, ◌++◌}
use lib.ListN.{length, drop, length-append}
use Rattle.segment_rules.specs.declared.Version.{Version}
use Rattle.segment_rules.specs.declared.Mode.{Mode}
use Rattle.segment_rules.specs.declared.Mode.TheVariants.{One}
use Rattle.segment_rules.specs.Segment.{begin_of, Opening, short}
use Rattle.segment_rules.proofs.Begin.{length_begin}
use Rattle.sheet_rules.specs.declared.Record.{Record}
use Rattle.sheet_rules.specs.Record.{nth, sum_of}
use Rattle.sheet_rules.specs.Sentences.{Among}
use Rattle.start_rules.specs.declared.Head.{Head}
use Rattle.page_rules.specs.Grammar.{body_in, StripeIn, Stripe}
use Rattle.page_rules.proofs.Parts.{at_body}
use Rattle.write_rules.specs.Cut.{Opened}
use Rattle.write_rules.specs.Modes.{stripe_by, TrimIn}
use Rattle.write_rules.proofs.Passed.{size_in}
use Rattle.write_again.proofs.Mode1 as M1
use Rattle.write_again.proofs.Mode1.{Lent}

-- ---- from its body on

lent_in : (m : Mode) (hd : Head) (k left at : ℕ) (l : List ℕ) (height : ℕ) (rs : List Record) → StripeIn m hd k left at l height rs → (r : Record) → Among r rs → Lent hd r
lent_in One hd k left at l height rs z = M1.stripe_lent z

second_in : (m : Mode) (hd : Head) (k left at : ℕ) (l : List ℕ) (height : ℕ) (rs sr : List Record) → StripeIn m hd k left at l height rs
    → ((nth (rs ++ sr) 1).res ≡ hd.main) × ((nth (rs ++ sr) 1).width ≡ hd.width)
second_in One hd k left at l height rs sr z = M1.second_is hd k left at l height rs sr z

opened_in : (m : Mode) (hd : Head) (k left at : ℕ) (l : List ℕ) (height : ℕ) (rs : List Record) → StripeIn m hd k left at l height rs → Opened rs
opened_in One hd k left at l height rs z = M1.stripe_opened z

-- ---- with its beginning: one of 8 octets, which is the only one for now

length_opening : {v : Version} {n size : ℕ} {begin : List ℕ} → Opening v n size begin → length begin ≡ 8
length_opening {n = n} {size = size} (short h) = length_begin n (size + 6)

size_in_lem : (m : Mode) (hd : Head) (k left at : ℕ) (l : List ℕ) (height : ℕ) (rs : List Record) {begin : List ℕ} → Opening hd.rules.version 0x01 (body_in m) begin
    → StripeIn m hd k left at l height rs → sum_of (size_in m) rs ≡ length begin + length l
size_in_lem One hd k left at l height rs o z = let a = M1.stripe_size hd k left at l height rs z in let b = length_opening o in omega arith

opening_is : {v : Version} {size : ℕ} {begin : List ℕ} → Opening v 0x01 size begin → begin ≡ begin_of 0x01 (size + 6)
opening_is (short h) = refl

again_in : (m : Mode) (hd : Head) (k left at : ℕ) (l : List ℕ) (height : ℕ) (rs : List Record) {begin : List ℕ} → Opening hd.rules.version 0x01 (body_in m) begin
    → (z : StripeIn m hd k left at l height rs) → TrimIn m hd k left at l height rs z → (s tail : List ℕ) → drop at s ≡ l ++ tail → stripe_by m s rs ≡ begin ++ l
unfolding stripe_by
again_in One hd k left at l height rs o z t s tail e = ap₂ (λ (x y : List ℕ). x ++ y) (sym (opening_is o)) (M1.stripe_again z t s tail e)

-- ---- a page's stripe

module _ {hd : Head} {k left at : ℕ} {l : List ℕ} {height : ℕ} {rs : List Record} (z : Stripe hd k left at l height rs) where
  pub stripe_lent : (r : Record) → Among r rs → Lent hd r
  stripe_lent = lent_in hd.rules.mode hd k left (at + length z.begin) z.rest height rs z.behind

  pub second_is : (sr : List Record) → ((nth (rs ++ sr) 1).res ≡ hd.main) × ((nth (rs ++ sr) 1).width ≡ hd.width)
  second_is sr = second_in hd.rules.mode hd k left (at + length z.begin) z.rest height rs sr z.behind

  pub stripe_opened : Opened rs
  stripe_opened = opened_in hd.rules.mode hd k left (at + length z.begin) z.rest height rs z.behind

  pub stripe_size : sum_of (size_in hd.rules.mode) rs ≡ length l
  stripe_size =
      size_in_lem hd.rules.mode hd k left (at + length z.begin) z.rest height rs z.opens z.behind
      ∙ sym (length-append z.begin z.rest) ∙ sym (ap length z.octets)

  pub stripe_again : TrimIn hd.rules.mode hd k left (at + length z.begin) z.rest height rs z.behind → (s tail : List ℕ) → drop at s ≡ l ++ tail
      → stripe_by hd.rules.mode s rs ≡ l
  stripe_again t s tail e =
      again_in hd.rules.mode hd k left (at + length z.begin) z.rest height rs z.opens z.behind t s tail (at_body z s tail e) ∙ sym z.octets
