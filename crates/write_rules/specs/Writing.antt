-- The steps of writing a page from a sheet and the buffer that its starts point into (01, the writer and its order, under "Numbers that a call
-- returns"). Read Sentences.antt and Form.antt first, which say when each answer is given and what is written: `write_exactly` and the theorems beside it
-- (proofs/Theorems.antt) tie these steps to them.
--
--   mode_from most i rs     BadMode at the first record above so many layers, the records being numbered from i
--   begun, counted         the tally before the first record, and with one more
--   matches d main tally r     a record's data agrees with it, and its coder with that of the masks before
--   record_step             one record: Short before Mismatch
--   records_pass            each record in order
--   verdict_of rules s d    the sheet, the mode, the records: what the page will be, or the refusal; verdict_by: by the judge's verdict
--   stripes_by mode d rs    all stripes, each with its coded layers
--   head_by rules rs tally  what the start of page says
--   page_by rules d rs tally    the page's octets
--   size_answer room size   after the verdict: TooLong, NoRoom, or Done
--   write_of s d room       what the call answers, where the page's buffer holds so many octets
--   write_into s d p        what the buffer p holds afterwards
--   Writes s d p a e       the call's promise: it answers a, and the buffer p is then e
use Rattle.std.specs.Prelude.{ℕ, ◌+◌, ◌≡◌, Bool, true, ◌&&◌, ◌||◌, not, cond, List, [], ◌∷◌, ◌++◌, length, eqb, ltb, Result, Ok, Err}
use Rattle.octets.specs.Octets.{put_at}
use Rattle.octets.specs.Entries.{joined}
use Rattle.write_rules.specs.Sentences.{sheet_main, start_size, page_end}
use Rattle.answers.specs.Answers.{Answer}
use Rattle.answers.specs.declared.Refusal.TheVariants.{Short, BadMode, NoRoom, BadSheet, Mismatch, TooLong}
use Rattle.field_rules.specs.Field.{Res, ok, no, bind}
use Rattle.sheet_rules.specs.declared.Record.{Record}
use Rattle.sheet_rules.specs.declared.Counts.{Counts}
use Rattle.sheet_rules.specs.Record.{records, nth}
use Rattle.segment_rules.specs.declared.Mode.{Mode}
use Rattle.segment_rules.specs.declared.Rules.{Rules}
use Rattle.segment_rules.specs.Rules.{mode1}
use Rattle.sheet_rules.specs.Judge.{coded, judge_of}
use Rattle.start_rules.specs.declared.Head.{Head}
use Rattle.segment_rules.specs.Rules.{longest_page}
use Rattle.start_rules.specs.Grammar.{start_of}
use Rattle.write_rules.specs.declared.Tally.{Tally}
use Rattle.write_rules.specs.Layer.{agrees}
use Rattle.write_rules.specs.Cut.{stripes_of}
use Rattle.write_rules.specs.Modes.{head_in, stripe_by}
use Rattle.segment_rules.specs.Rules.{most_layers}

-- ---- the mode: no layer above those that it carries

unfoldable pub mode_from : ℕ → ℕ → List Record → Res ℕ
mode_from most i [] = ok i i
mode_from most i (r ∷ rs) = cond (ltb most r.layer) (no (BadMode i)) (mode_from most (i + 1) rs)

-- ---- each record in order

abbrev pub begun : Tally
begun = record { mask = 0; image = 0; size = start_size + length page_end }

abbrev pub is_mask : Record → Bool
is_mask r = eqb r.layer 2

unfoldable pub counted : Mode → Tally → Record → Tally
counted mode tally r =
    record {
      mask = cond (coded r && is_mask r) r.coder tally.mask;
      image = cond (coded r && not (is_mask r)) r.coder tally.image;
      size = tally.size + head_in mode r + r.len;
    }

-- coded masks have one coder; a coded image layer agrees with its record; of an uncoded layer nothing is asked
unfoldable pub matches : List ℕ → ℕ → Tally → Record → Bool
matches d main tally r =
    cond (coded r)
    (cond (is_mask r) (eqb tally.mask 0 || eqb tally.mask r.coder) (agrees d main r))
    true

unfoldable pub record_step : Mode → List ℕ → ℕ → Tally → ℕ → Record → Res Tally
unfolding matches counted
record_step mode d main tally i r =
    cond (ltb (length d) (r.start + r.len)) (no (Short i))
    (cond (matches d main tally r) (ok (counted mode tally r) (i + 1))
    (no (Mismatch i)))

unfoldable pub records_pass : Mode → List ℕ → ℕ → Tally → ℕ → List Record → Res Tally
unfolding bind record_step
records_pass mode d main tally i [] = ok tally i
records_pass mode d main tally i (r ∷ rs) = bind (record_step mode d main tally i r) (λ (u : Tally) (n : ℕ). records_pass mode d main u n rs)

-- ---- the verdict: BadSheet, BadMode, each record

unfoldable pub verdict_by : Mode → Result Counts ℕ → List ℕ → List Record → Res Tally
unfolding bind mode_from records_pass
verdict_by mode (Ok c) d rs = bind (mode_from (most_layers mode) 0 rs) (λ (j e : ℕ). records_pass mode d (sheet_main rs) begun 0 rs)
verdict_by mode (Err i) d rs = no (BadSheet i)

unfoldable pub verdict_of : Rules → List ℕ → List ℕ → Res Tally
unfolding verdict_by
verdict_of rules s d = verdict_by rules.mode (judge_of s) d (records s)

-- ---- the page (9.6.2): the start of page (9.2.1), the stripes, the end; no optional segment and no padding

unfoldable pub stripes_by : Mode → List ℕ → List Record → List ℕ
unfolding joined stripe_by stripes_of
stripes_by mode d rs = joined (stripe_by mode d) (stripes_of rs)

abbrev pub head_by : Rules → List Record → Tally → Head
head_by rules rs tally = record { rules = rules; mask = tally.mask; image = tally.image; main = sheet_main rs; width = (nth rs 1).width }

unfoldable pub page_by : Rules → List ℕ → List Record → Tally → List ℕ
unfolding stripes_by
page_by rules d rs tally = start_of (head_by rules rs tally) ++ (stripes_by rules.mode d rs ++ page_end)

-- ---- the call, in Mode 1: after the verdict TooLong, then NoRoom

unfoldable pub size_answer : ℕ → ℕ → Answer
size_answer room size = cond (ltb longest_page size) (Err TooLong) (cond (ltb room size) (Err NoRoom) (Ok size))

unfoldable pub answer_by : ℕ → Res Tally → Answer
unfolding size_answer
answer_by room (ok tally n) = size_answer room tally.size
answer_by room (no a) = Err a

unfoldable pub write_of : List ℕ → List ℕ → ℕ → Answer
unfolding verdict_of answer_by
write_of s d room = answer_by room (verdict_of mode1 s d)

-- the page in front, and the octets past it as they were; a refusal changes nothing
unfoldable pub into_by : Rules → List ℕ → List ℕ → List Record → Res Tally → List ℕ
unfolding page_by
into_by rules p d rs (ok tally n) = cond (ltb longest_page tally.size) p (cond (ltb (length p) tally.size) p (put_at p 0 (page_by rules d rs tally)))
into_by rules p d rs (no a) = p

unfoldable pub write_into : List ℕ → List ℕ → List ℕ → List ℕ
unfolding verdict_of into_by
write_into s d p = into_by mode1 p d (records s) (verdict_of mode1 s d)

pub record Writes (s d p : List ℕ) (a : Answer) (e : List ℕ) : Type 0 where
  pub answers : a ≡ write_of s d (length p)
  pub holds : e ≡ write_into s d p
