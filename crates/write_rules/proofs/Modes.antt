-- The laws of a stripe that the page's proofs know, whatever the mode: each by cases, as each mode's own file proves it.
--
--   mode-odd         what is not layer 2 is an image layer: its number is odd
--   head_few         what a record adds beside its data is little
--   moved_in          the records of a stripe that is written at a place of the page
--   stripe-lands     it is a stripe of the grammar with these records, in the writer's form
--   stripe-same      they are the records that were lent, but for the starts of the coded ones
--   stripe-data      their data is the data of those lent
--   stripe-length    its octets are as many as were counted
--   stripe-octets    and they are octets
--
-- Assumes nothing.
use Prim.Native.Nat.{ℕ, ◌+◌, ◌%◌, ◌≤◌}
use native.Mathlib.Omega.{arith}
use mathlib.Core.Path.{◌≡◌, refl, sym, subst, ◌∙◌}
use mathlib.Core.Logic.{◌≢◌}
use mathlib.Core.List.{List, ◌++◌, map, append_assoc}
use lib.ListN.{length, drop, length-append}
use lib.Dec.{lit<}
use Rattle.octets.proofs.Laws.{drop_next}
use Rattle.octets.specs.Octets.{Octets}
use Rattle.segment_rules.specs.declared.Mode.{Mode}
use Rattle.segment_rules.specs.declared.Mode.TheVariants.{One}
use Rattle.sheet_rules.specs.declared.Record.{Record}
use Rattle.sheet_rules.specs.Record.{sum_of}
use Rattle.sheet_rules.specs.Sentences.{Among, heights}
use Rattle.start_rules.specs.declared.Head.{Head}
use Rattle.segment_rules.specs.Segment.{Opening, short}
use Rattle.segment_rules.proofs.Begin.{length_begin}
use Rattle.mode1_rules.specs.Kinds.{stripe_body}
use Rattle.page_rules.specs.Grammar.{body_in, StripeIn, Stripe}
use Rattle.write_rules.specs.Layer.{layer_octets}
use Rattle.write_rules.specs.Mode1.{begins, rest1}
use Rattle.write_rules.specs.Modes.{head_in, stripe_by, TrimIn}
use Rattle.segment_rules.specs.Rules.{most_layers}
use Rattle.write_rules.specs.Form.{bare}
use Rattle.write_rules.proofs.Passed.{size_in}
use Rattle.write_rules.proofs.Cut.{Lot}
use Rattle.write_rules.proofs.Ready.{Sized, Under, Ready}
use Rattle.write_rules.proofs.Mode1.{head_few1, three_of, moved1, stripe_lands1, stripe_same1, stripe_data1, stripe_length1}
use Rattle.write_rules.proofs.Mode1Octets.{stripe_octets1}

pub mode_odd : (mode : Mode) (l : ℕ) → 1 ≤ l → l ≤ most_layers mode → l ≢ 2 → l % 2 ≡ 1
mode_odd One l a b n = omega arith

pub head_few : (mode : Mode) (r : Record) → head_in mode r ≤ 65535
head_few One r = head_few1 r

unfoldable pub moved_in : Mode → List ℕ → ℕ → List Record → List Record
moved_in One d at q = moved1 d (at + length begins) q

-- a stripe from its body on, and in the writer's form
record RestLanded (m : Mode) (hd : Head) (k left at : ℕ) (l : List ℕ) (height : ℕ) (rs : List Record) : Type 0 where
  stripe : StripeIn m hd k left at l height rs
  trim : TrimIn m hd k left at l height rs stripe

pub record StripeLanded (mode : Mode) (d : List ℕ) (hd : Head) (k left at : ℕ) (q : List Record) : Type 0 where
  pub stripe : Stripe hd k left at (stripe_by mode d q) (heights q) (moved_in mode d at q)
  pub trim : TrimIn hd.rules.mode hd k left (at + length stripe.begin) stripe.rest (heights q) (moved_in mode d at q) stripe.behind

pub stripe_lands : (mode : Mode) (d : List ℕ) (hd : Head) (rs : List Record) → Under mode hd rs → Ready d hd rs → (k left at : ℕ) (q : List Record) → Lot rs k left q
    → StripeLanded mode d hd k left at q
unfolding stripe_by moved_in
stripe_lands One d hd rs u y k left at q l =
    let x = stripe_lands1 d hd rs y k left (at + length begins) q l.among (three_of hd rs u k left q l) in
    let z =
    subst (λ (m : Mode). RestLanded m hd k left (at + length begins) (rest1 d q) (heights q) (moved1 d (at + length begins) q)) (sym u.named)
    (record { stripe = x.stripe; trim = x.trim }) in
    record {
      stripe =
          record {
            begin = begins;
            rest = rest1 d q;
            octets = refl;
            opens = subst (λ (m : Mode). Opening hd.rules.version 0x01 (body_in m) begins) (sym u.named) (short (lit< tt));
            behind = z.stripe;
          };
      trim = z.trim;
    }

pub stripe_same : (mode : Mode) (d : List ℕ) (hd : Head) (rs : List Record) → Under mode hd rs → (k left at : ℕ) (q : List Record) → Lot rs k left q
    → map bare (moved_in mode d at q) ≡ map bare q
unfolding moved_in
stripe_same One d hd rs u k left at q l = stripe_same1 d hd k left (at + length begins) q (three_of hd rs u k left q l)

pub stripe_data : (mode : Mode) (d : List ℕ) (hd : Head) (rs : List Record) → Under mode hd rs → (k left at : ℕ) (q : List Record) → Lot rs k left q
    → ((r : Record) → Among r rs → length (layer_octets d r) ≡ r.len) → (s more : List ℕ) → drop at s ≡ stripe_by mode d q ++ more
    → map (layer_octets s) (moved_in mode d at q) ≡ map (layer_octets d) q
unfolding stripe_by moved_in
stripe_data One d hd rs u k left at q l n s more e =
    stripe_data1 d hd k left (at + length begins) q (three_of hd rs u k left q l) (λ r m. n r (l.among r m)) s more
    (drop_next s begins (rest1 d q ++ more) at (e ∙ append_assoc begins (rest1 d q) more))

pub stripe_length : (mode : Mode) (d : List ℕ) (hd : Head) (rs : List Record) → Under mode hd rs → (k left : ℕ) (q : List Record) → Lot rs k left q
    → ((r : Record) → Among r rs → length (layer_octets d r) ≡ r.len) → length (stripe_by mode d q) ≡ sum_of (size_in mode) q
unfolding stripe_by
stripe_length One d hd rs u k left q l n =
    let a = length-append begins (rest1 d q) in
    let b = length_begin 0x01 (stripe_body + 6) in
    let c = stripe_length1 d hd k left q (three_of hd rs u k left q l) (λ r m. n r (l.among r m)) in
    omega arith

pub stripe_octets : (mode : Mode) (d : List ℕ) (hd : Head) (rs : List Record) → Under mode hd rs → (k left : ℕ) (q : List Record) → Lot rs k left q
    → left ≤ 65535 → Octets d → ((r : Record) → Among r rs → Sized r) → Octets (stripe_by mode d q)
unfolding stripe_by
stripe_octets One d hd rs u k left q l low o z = stripe_octets1 d hd k left q (three_of hd rs u k left q l) low o (λ r m. z r (l.among r m))
