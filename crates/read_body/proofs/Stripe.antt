-- A stripe in code, by its mode, is the stripe of the mode's reading. What hangs on the mode is a law by cases on it.
-- Assumes nothing.
use Rattle.std.specs.Prelude.{Result, Ok, Err, IsErr, IsErrAnd}
use Prim.Native.Nat.{ℕ, ◌+◌, ◌-◌, ◌*◌, ◌≤◌, ◌<◌}
use native.Mathlib.Omega.{arith}
use mathlib.Core.Path.{◌≡◌, refl, sym, ap, subst, ◌∙◌}
use mathlib.Core.List.{List}
use lib.ListN.{length}
use mir.Syntax.{w16, w32}
use mir.Val.{Fits}
use borrow.Author.Rules.{rules}
use Rattle.laws.proofs.Cases.{clash}
use Rattle.laws.proofs.Asked.{asked_with}
use Rattle.answers.specs.declared.Refusal.{Refusal}
use Rattle.field_rules.specs.Field.{Res, ok, no}
use Rattle.sheet_rules.specs.declared.Record.{Record}
use Rattle.sheet_rules.specs.Record.{record_size}
use Rattle.segment_rules.specs.declared.Mode.{Mode}
use Rattle.segment_rules.specs.declared.Mode.TheVariants.{One}
use Rattle.segment_rules.specs.Rules.{most_layers}
use Rattle.start_rules.specs.declared.Head.{Head}
use Rattle.body_rules.specs.Body.{Item, skipped, striped}
use Rattle.mode1_rules.specs.Kinds.{stripe_body}
use Rattle.mode1_rules.specs.Reading.{stripe_read}
use Rattle.page_rules.specs.Grammar.{body_in}
use Rattle.page_rules.specs.Reading.{stripe_read_in}
use Rattle.read_stripe.specs.declared.Laid.{Laid}
use Rattle.read_stripe.specs.Steps as one
use Rattle.read_stripe.specs.Steps.{step_of, laid_of}
use Rattle.read_stripe.proofs.Ends.{stripe_ends}
use Rattle.read_body.specs.declared.Place.{Place}
use Rattle.read_body.specs.Steps.{StripeRoom, Ready, stripe_in, StripePassed, StripeRefused, StripeTurned}

-- ---- stripe_body and stripe_step

pub body_by : (mode : Mode) → stripe_body ≡ body_in mode
body_by One = refl

module _ (mode : Mode) (hd : Head) (k left : ℕ) (out s : List ℕ) (at first : ℕ) where
  pub room_by : StripeRoom mode out s left at first → one.Ready out s left at first
  room_by r = by mode r
    where
      by : (m : Mode) → StripeRoom m out s left at first → one.Ready out s left at first
      by One r = record { holds = r.holds; inside = r.inside; small = r.small; low = r.low }

  pub step_by : (r : Result Laid Refusal) → r ≡ step_of (stripe_read hd k left s at) → r ≡ step_of (stripe_read_in mode hd k left s at)
  step_by r e = by mode
    where
      by : (m : Mode) → r ≡ step_of (stripe_read_in m hd k left s at)
      by One = e

  pub laid_by : (out' : List ℕ) → out' ≡ laid_of out first (stripe_read hd k left s at) → out' ≡ laid_of out first (stripe_read_in mode hd k left s at)
  laid_by out' e = by mode
    where
      by : (m : Mode) → out' ≡ laid_of out first (stripe_read_in m hd k left s at)
      by One = e

pub ruleset by_mode = (rules, body_by, room_by, step_by, laid_by)

-- ---- a stripe that was read, whatever its mode

record Ended (mode : Mode) (left : ℕ) (s : List ℕ) (at : ℕ) (it : Item) (e : ℕ) : Type 0 where
  height : ℕ
  records : List Record
  is : it ≡ striped height records
  most : length records ≤ most_layers mode
  low : height ≤ left
  on : at ≤ e
  inside : e ≤ length s

ends_by : (mode : Mode) (hd : Head) (k left : ℕ) (s : List ℕ) (at : ℕ) (it : Item) (e : ℕ) → at ≤ length s → stripe_read_in mode hd k left s at ≡ ok it e → Ended mode left s at it e
ends_by One hd k left s at it e h q =
    let z = stripe_ends hd k left s at h it e q in
    record { height = z.height; records = z.records; is = z.is; most = z.most; low = z.low; on = z.on; inside = z.inside }

-- one stripe more stays within the room
holds_by : (mode : Mode) (stripe records size : ℕ) → stripe < 64 → records ≤ stripe * most_layers mode → 64 * most_layers mode * record_size ≤ size
    → (records + most_layers mode) * record_size ≤ size
holds_by One stripe records size f m r = omega arith

more_by : (mode : Mode) (stripe records count : ℕ) → stripe < 64 → records ≤ stripe * most_layers mode → count ≤ most_layers mode
    → (records + count ≤ (stripe + 1) * most_layers mode) × (records + count < 65536)
more_by One stripe records count f m c = (omega arith, omega arith)

-- ---- stripe_turn

step_no : (x : Res Item) (a : Refusal) → step_of x ≡ Err a → x ≡ no a
unfolding step_of
step_no (ok skipped e) a q = clash cc
step_no (ok (striped h rs) e) a q = clash cc
step_no (no b) a q = let p : b ≡ a = cc in ap no p

step_kept : (x : Res Item) (out : List ℕ) (first : ℕ) (a : Refusal) → x ≡ no a → laid_of out first x ≡ out
unfolding laid_of
step_kept x out first a q = simp q

record Stepped (x : Res Item) (next height count : ℕ) : Type 0 where
  it : Item
  same : x ≡ ok it next
  told : (records : List Record) (h : ℕ) → it ≡ striped h records → (h ≡ height) × (length records ≡ count)

step_ok : (x : Res Item) (v : Laid) → step_of x ≡ Ok v → Stepped x v.next v.height v.records
unfolding step_of
step_ok (ok skipped e) v q =
    let w : record { next = e; height = 0; records = 0 } ≡ v = cc in
    record { it = skipped; same = ap (λ (l : Laid). ok skipped l.next) w; told = λ rs h z. clash cc }
step_ok (ok (striped g ss) e) v q =
    let w : record { next = e; height = g; records = length ss } ≡ v = cc in
    let p = ap (λ (l : Laid). l.next) w in
    let p1 = ap (λ (l : Laid). l.height) w in
    let p2 = ap (λ (l : Laid). l.records) w in
    record {
      it = striped g ss;
      same = ap (ok (striped g ss)) p;
      told = λ rs h z. let a : ss ≡ rs = cc in let b : g ≡ h = cc in (sym b ∙ p1, ap length (sym a) ∙ p2);
    }
step_ok (no b) v q = clash cc

module _ (hd : Head) (p : Place) (body : ℕ) (out s : List ℕ) (r : Ready hd out s p body) where
  pub turn_room : StripeRoom hd.rules.mode out s p.left body p.records
  turn_room = record { holds = holds_by hd.rules.mode p.stripe p.records (length out) r.few r.roomy.most r.roomy.room; inside = r.inside; small = r.small; low = r.low }

  module _ (t : Result Laid Refusal) (e : t ≡ step_of (stripe_in hd p s body)) (out' : List ℕ) (f : out' ≡ laid_of out p.records (stripe_in hd p s body)) where
    pub turn_refused : (a : Refusal) → t ≡ Err a → StripeRefused hd p body s out a out'
    turn_refused a z =
        let q = step_no (stripe_in hd p s body) a (sym e ∙ z) in
        record { same = q; kept = f ∙ step_kept (stripe_in hd p s body) out p.records a q }

    module _ (v : Laid) (z : t ≡ Ok v) where
      at_step : Stepped (stripe_in hd p s body) v.next v.height v.records
      at_step = step_ok (stripe_in hd p s body) v (sym e ∙ z)

      ended : Ended hd.rules.mode p.left s body at_step.it v.next
      ended = ends_by hd.rules.mode hd p.stripe p.left s body at_step.it v.next r.inside at_step.same

      told : (ended.height ≡ v.height) × (length ended.records ≡ v.records)
      told = at_step.told ended.records ended.height ended.is

      read : stripe_in hd p s body ≡ ok (striped ended.height ended.records) v.next
      read = at_step.same ∙ ap (λ (x : Item). ok x v.next) ended.is

      more : (p.records + v.records ≤ (p.stripe + 1) * most_layers hd.rules.mode) × (p.records + v.records < 65536)
      more = more_by hd.rules.mode p.stripe p.records v.records r.few r.roomy.most (subst (λ (n : ℕ). n ≤ most_layers hd.rules.mode) told.1 ended.most)

      pub turn_low : v.height ≤ p.left
      turn_low = let a = told.0 in let b = ended.low in omega arith

      pub turn_fits : Fits w16 (p.stripe + 1)
      turn_fits = let a = r.few in record { fits = omega arith }

      pub turn_counts : Fits w32 (p.records + v.records)
      turn_counts = let a = more.1 in record { fits = omega arith }

      pub turn_passed : StripePassed hd p body s out (record { at = v.next; stripe = p.stripe + 1; left = p.left - v.height; records = p.records + v.records }) out'
      unfolding laid_of
      turn_passed =
          let a = told.0 in
          let b = told.1 in
          let c = r.few in
          let d = r.on in
          let g = ended.on in
          record {
            height = ended.height;
            records = ended.records;
            same = read;
            next = omega arith;
            lower = omega arith;
            onward =
                record {
                  laid = f ∙ ap (laid_of out p.records) read;
                  counted = omega arith;
                  most = more.0;
                  few = omega arith;
                  low = omega arith;
                  on = omega arith;
                  inside = ended.inside;
                };
          }

-- a refusal that is handed on
pub turn_stop : (hd : Head) (p : Place) (body : ℕ) (s out out' : List ℕ) (r : Result Place Refusal) {a : Refusal} → IsErr r × IsErrAnd r (λ (e : Refusal). e ≡ a)
    → StripeRefused hd p body s out a out' → StripeTurned hd p body s out r out'
turn_stop hd p body s out out' r e x = asked_with (λ (q : Result Place Refusal). StripeTurned hd p body s out q out') r e x

pub ruleset turning = (rules, turn_stop, turn_room, turn_refused, turn_low, turn_fits, turn_counts, turn_passed)
