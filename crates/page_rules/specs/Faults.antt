-- When a page is refused, with which number and where, and what the call answers, without the reader's steps (01, "Numbers that a call returns"). The first
-- fault in page order: what is in front of it stands there.
--
--   BadStripeIn      a stripe from its body on, by the mode
--   BadItem          an optional segment or a stripe
--   BadPage s x      the page s is refused with x
--   Answers s room x   the call answers x, where the buffer holds so many octets
use Rattle.std.specs.Prelude.{ℕ, ◌+◌, ◌*◌, ◌≤◌, ◌<◌, ◌≢◌, List, ◌∷◌, ◌++◌, length, replicate, Ok, Err}
use Rattle.answers.specs.declared.Refusal.{Refusal}
use Rattle.answers.specs.Answers.{Answer}
use Rattle.answers.specs.declared.Refusal.TheVariants.{BadMark, Trailing, NoRoom, TooLong}
use Rattle.field_rules.specs.Fault.{BadMarked}
use Rattle.sheet_rules.specs.declared.Record.{Record}
use Rattle.sheet_rules.specs.Record.{record_size}
use Rattle.segment_rules.specs.declared.Mode.{Mode}
use Rattle.segment_rules.specs.declared.Mode.TheVariants.{One}
use Rattle.segment_rules.specs.Rules.{longest_page}
use Rattle.segment_rules.specs.Segment.{Opening, BadSegment}
use Rattle.start_rules.specs.declared.Head.{Head}
use Rattle.start_rules.specs.Grammar.{Start}
use Rattle.start_rules.specs.Faults.{BadStart}
use Rattle.body_rules.specs.Body.{end_mark, Body, BadBody}
use Rattle.mode1_rules.specs.Faults as M1
use Rattle.page_rules.specs.Grammar.{Optional, body_in, Stripe, Page}
use Rattle.page_rules.specs.Reading.{due_at}

abbrev pub BadStripeIn : Mode → Head → ℕ → ℕ → List ℕ → Refusal → Type 0
BadStripeIn One = M1.BadStripeRest

pub data BadItem (hd : Head) (k left at : ℕ) : List ℕ → Refusal → Type 0 where
  -- its marker, its length, its ident, its body; a 65th stripe
  bad_segment : {l : List ℕ} {x : Refusal} → BadSegment hd.rules.version (due_at hd.rules.mode k) at l x → BadItem hd k left at l x
  bad_stripe : {x : Refusal} (begin rest : List ℕ) → k < 64 → Opening hd.rules.version 0x01 (body_in hd.rules.mode) begin
      → BadStripeIn hd.rules.mode hd left (at + length begin) rest x → BadItem hd k left at (begin ++ rest) x

-- ---- the page

abbrev pub BodyOf : Head → ℕ → List ℕ → List Record → Type 0
BodyOf hd = Body (Optional hd.rules.version) (Stripe hd)

pub data BadPage : List ℕ → Refusal → Type 0 where
  in_start : {s : List ℕ} {x : Refusal} → BadStart s x → BadPage s x
  in_body : {x : Refusal} (start rest : List ℕ) (hd : Head) → Start start hd
      → BadBody (Optional hd.rules.version) (Stripe hd) (BadItem hd) 0 65535 (length start) rest x → BadPage (start ++ rest) x
  -- the second FF D9 of the end
  in_end : {x : Refusal} (start body rest : List ℕ) (hd : Head) (rs : List Record) → Start start hd → BodyOf hd (length start) body rs
      → BadMarked end_mark BadMark (length start + length body) rest x → BadPage (start ++ (body ++ rest)) x
  trailing : (start body rest : List ℕ) (hd : Head) (rs : List Record) (n y : ℕ) → Start start hd → BodyOf hd (length start) body rs → y ≢ 0
      → BadPage (start ++ (body ++ (end_mark ++ (replicate n 0 ++ (y ∷ rest))))) (Trailing (length start + length body + 2 + n))

-- ---- the call: TooLong first, then the page, NoRoom last

pub data Answers (s : List ℕ) (room : ℕ) : Answer → Type 0 where
  too_long : longest_page < length s → Answers s room (Err TooLong)
  refused : {x : Refusal} → length s ≤ longest_page → BadPage s x → Answers s room (Err x)
  no_room : (rs : List Record) → length s ≤ longest_page → Page s rs → room < length rs * record_size → Answers s room (Err NoRoom)
  done : (rs : List Record) → length s ≤ longest_page → Page s rs → length rs * record_size ≤ room → Answers s room (Ok (length rs))
