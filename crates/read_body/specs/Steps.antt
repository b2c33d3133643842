-- The body of a page read step by step: what each step is promised to come to, in the words of `page_rules`.
--
--   StripeRoom mode out s left at first   a stripe's body stands at a place of a page, and the scratch has room for its records from a number on
--   Ready hd out s p body    a stripe is due, its body at a place behind that of its segment
--   Onward ..                reading goes on from another place with these records more, which are laid
--   StripeTurned ..          a stripe is passed, or the body is refused in it
--   ended_of p                what the body comes to at its first FF D9
--   Standing hd out s p      reading stands at a place of a page, and the scratch has room for 64 stripes
--   body_at, behind_item       the body from a place on, and behind an item that was read
--   Turned ..                a segment is passed, or the body ends or is refused
--   Opened hd out s from     the start of page is fine and ends there, and the scratch has room
--   Bodied ..                the body is read with its records, which are laid in front, or refused
use Rattle.std.specs.Prelude.{ℕ, suc, ◌+◌, ◌-◌, ◌*◌, ◌≤◌, ◌<◌, cond, ◌≡◌, List, [], ◌++◌, length, eqb, Result, Ok, Err}
use Rattle.octets.specs.Octets.{put_at}
use Rattle.answers.specs.declared.Refusal.{Refusal}
use Rattle.answers.specs.declared.Refusal.TheVariants.{BadStripe}
use Rattle.field_rules.specs.Field.{Res, ok, no}
use Rattle.sheet_rules.specs.declared.Record.{Record}
use Rattle.sheet_rules.specs.Record.{record_size, sheet_of}
use Rattle.segment_rules.specs.declared.Mode.{Mode}
use Rattle.segment_rules.specs.Rules.{most_layers, longest_page}
use Rattle.start_rules.specs.declared.Head.{Head}
use Rattle.body_rules.specs.Body.{Item, striped, on_item, body_from}
use Rattle.page_rules.specs.Reading.{stripe_read_in, item_of}
use Rattle.read_body.specs.declared.Place.{Place}
use Rattle.read_body.specs.declared.Body.{Body}
use Rattle.std.specs.declared.ops.ControlFlow.TheVariants.{Continue, Break}
use Rattle.std.specs.declared.ops.ControlFlow.{ControlFlow}

-- ---- a stripe

pub record StripeRoom (mode : Mode) (out s : List ℕ) (left at first : ℕ) : Type 0 where
  pub holds : (first + most_layers mode) * record_size ≤ length out
  pub inside : at ≤ length s
  pub small : length s ≤ longest_page
  pub low : left ≤ 65535

-- the scratch has room for 64 stripes, and holds at most so many records of the stripes before
pub record Roomy (hd : Head) (out : List ℕ) (p : Place) : Type 0 where
  pub most : p.records ≤ p.stripe * most_layers hd.rules.mode
  pub room : 64 * most_layers hd.rules.mode * record_size ≤ length out

pub record Ready (hd : Head) (out s : List ℕ) (p : Place) (body : ℕ) : Type 0 where
  pub on : p.at < body
  pub inside : body ≤ length s
  pub small : length s ≤ longest_page
  pub few : p.stripe < 64
  pub low : p.left ≤ 65535
  pub roomy : Roomy hd out p

pub record Onward (hd : Head) (s : List ℕ) (p : Place) (out : List ℕ) (q : Place) (out' : List ℕ) (records : List Record) : Type 0 where
  pub laid : out' ≡ put_at out (p.records * record_size) (sheet_of records)
  pub counted : p.records + length records ≡ q.records
  pub most : q.records ≤ q.stripe * most_layers hd.rules.mode
  pub few : q.stripe ≤ 64
  pub low : q.left ≤ p.left
  pub on : p.at < q.at
  pub inside : q.at ≤ length s

abbrev pub stripe_in : Head → Place → List ℕ → ℕ → Res Item
stripe_in hd p s body = stripe_read_in hd.rules.mode hd p.stripe p.left s body

pub record StripePassed (hd : Head) (p : Place) (body : ℕ) (s out : List ℕ) (q : Place) (out' : List ℕ) : Type 0 where
  pub height : ℕ
  pub records : List Record
  pub same : stripe_in hd p s body ≡ ok (striped height records) q.at
  pub next : q.stripe ≡ suc p.stripe
  pub lower : q.left ≡ p.left - height
  pub onward : Onward hd s p out q out' records

pub record StripeRefused (hd : Head) (p : Place) (body : ℕ) (s out : List ℕ) (a : Refusal) (out' : List ℕ) : Type 0 where
  pub same : stripe_in hd p s body ≡ no a
  pub kept : out' ≡ out

abbrev pub StripeTurned : Head → Place → ℕ → List ℕ → List ℕ → Result Place Refusal → List ℕ → Type 0
StripeTurned hd p body s out (Ok q) out' = StripePassed hd p body s out q out'
StripeTurned hd p body s out (Err a) out' = StripeRefused hd p body s out a out'

-- ---- a turn

unfoldable pub ended_of : Place → Result Body Refusal
ended_of p = cond (eqb p.stripe 0) (Err (BadStripe p.at)) (Ok (record { records = p.records; next = p.at + 2 }))

pub record Standing (hd : Head) (out s : List ℕ) (p : Place) : Type 0 where
  pub inside : p.at ≤ length s
  pub small : length s ≤ longest_page
  pub few : p.stripe ≤ 64
  pub low : p.left ≤ 65535
  pub roomy : Roomy hd out p

-- with so many segments to come at most
abbrev pub body_at : ℕ → Head → Place → List Record → List ℕ → Res (List Record)
body_at fuel hd p acc s = body_from (item_of hd) fuel p.stripe p.left acc s p.at

abbrev pub behind_item : ℕ → Head → Place → List Record → List ℕ → Item → ℕ → Res (List Record)
behind_item fuel hd p acc s it e =
    on_item it (body_from (item_of hd) fuel p.stripe p.left acc s e)
    (λ (height : ℕ) (rs : List Record). body_from (item_of hd) fuel (suc p.stripe) (p.left - height) (acc ++ rs) s e)

pub record Passed (hd : Head) (p : Place) (s out : List ℕ) (q : Place) (out' : List ℕ) : Type 0 where
  pub records : List Record
  pub onward : Onward hd s p out q out' records
  pub same : (fuel : ℕ) (acc : List Record) → body_at (suc fuel) hd p acc s ≡ body_at fuel hd q (acc ++ records) s

pub record Over (hd : Head) (p : Place) (s out : List ℕ) (count next : ℕ) (out' : List ℕ) : Type 0 where
  pub same : (fuel : ℕ) (acc : List Record) → body_at (suc fuel) hd p acc s ≡ ok acc next
  pub counted : count ≡ p.records
  pub inside : next ≤ length s
  pub kept : out' ≡ out

pub record BodyRefused (hd : Head) (p : Place) (s out : List ℕ) (a : Refusal) (out' : List ℕ) : Type 0 where
  pub same : (fuel : ℕ) (acc : List Record) → body_at (suc fuel) hd p acc s ≡ no a
  pub kept : out' ≡ out

abbrev pub Turned : Head → Place → List ℕ → List ℕ → Result (ControlFlow Body Place) Refusal → List ℕ → Type 0
Turned hd p s out (Ok (Continue q)) out' = Passed hd p s out q out'
Turned hd p s out (Ok (Break b)) out' = Over hd p s out b.records b.next out'
Turned hd p s out (Err a) out' = BodyRefused hd p s out a out'

-- ---- the body

pub record Opened (hd : Head) (out s : List ℕ) (from : ℕ) : Type 0 where
  pub begun : 0 < from
  pub inside : from ≤ length s
  pub small : length s ≤ longest_page
  pub room : 64 * most_layers hd.rules.mode * record_size ≤ length out

abbrev pub whole_body : Head → List ℕ → ℕ → Res (List Record)
whole_body hd s from = body_from (item_of hd) (length s) 0 65535 [] s from

pub record BodyRead (hd : Head) (s : List ℕ) (from : ℕ) (out : List ℕ) (count next : ℕ) (out' : List ℕ) : Type 0 where
  pub records : List Record
  pub same : whole_body hd s from ≡ ok records next
  pub laid : out' ≡ put_at out 0 (sheet_of records)
  pub counted : count ≡ length records
  pub fits : count * record_size ≤ length out
  pub inside : next ≤ length s

abbrev pub Bodied : Head → List ℕ → ℕ → List ℕ → Result Body Refusal → List ℕ → Type 0
Bodied hd s from out (Ok b) out' = BodyRead hd s from out b.records b.next out'
Bodied hd s from out (Err a) out' = whole_body hd s from ≡ no a
