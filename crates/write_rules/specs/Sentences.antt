-- Writing as sentences: when each answer is given (01, "Numbers that a call returns"). What is written is said in Form.antt; the steps, in Writing.antt,
-- come last.
--
--   sheet_main rs      the main resolution
--   Fine main d rs    each coded record of rs has its data in the buffer d; an image layer's data is a JPEG layer of the record's width, height and
--                     resolution; and the coded masks have one coder
--   Low mode rs       no layer above those that the mode carries
--   ModeAt mode rs i  the record i is the first above them
--   ShortAt ..        those before the record i are fine, and its data passes the end of the buffer
--   MismatchAt ..     those before the record i are fine, its data is there, and with it they are not fine
--   start_size         the octets of the start of page; page_end: those of the end
--   size_of mode rs    the start and the end, what each record adds to its stripe's segments, and the coded data
--   Sound s d         the octets s are a sheet without a layer above those of Mode 1, and its records are fine
--   Gives s d room a  the call answers a
use Rattle.std.specs.Prelude.{ℕ, ◌+◌, ◌≤◌, ◌<◌, ◌≡◌, ◌≢◌, List, [], ◌∷◌, length, take, Ok, Err}
use Rattle.segment_rules.specs.Rules.{longest_page}
use Rattle.answers.specs.Answers.{Answer}
use Rattle.answers.specs.declared.Refusal.TheVariants.{Short, BadMode, NoRoom, BadSheet, Mismatch, TooLong}
use Rattle.sheet_rules.specs.declared.Record.{Record}
use Rattle.sheet_rules.specs.Record.{records, rest, nth, sum_of}
use Rattle.sheet_rules.specs.Sentences.{Among, Coded, Sheet, Accepted, BadSheetAt}
use Rattle.segment_rules.specs.declared.Mode.{Mode}
use Rattle.segment_rules.specs.declared.Mode.TheVariants.{One}
use Rattle.jpeg_rules.specs.Said.{record_said}
use Rattle.jpeg_rules.specs.Grammar.{Layer}
use Rattle.write_rules.specs.Layer.{layer_octets}
use Rattle.write_rules.specs.Modes.{head_in}
use Rattle.segment_rules.specs.Rules.{most_layers}

-- the main resolution is that of layer 2, the second record
abbrev pub sheet_main : List Record → ℕ
sheet_main rs = (nth rs 1).res

pub record Fine (main : ℕ) (d : List ℕ) (rs : List Record) : Type 0 where
  pub fits : (r : Record) → Among r rs → Coded r → r.start + r.len ≤ length d
  pub layers : (r : Record) → Among r rs → Coded r → r.layer ≢ 2 → Layer main (layer_octets d r) (record_said r)
  pub coders : (r q : Record) → Among r rs → Among q rs → Coded r → Coded q → r.layer ≡ 2 → q.layer ≡ 2 → r.coder ≡ q.coder

-- no N is more than the mode carries
abbrev pub Low : Mode → List Record → Type 0
Low mode rs = (r : Record) → Among r rs → r.layer ≤ most_layers mode

-- ---- the record at fault

pub record ModeAt (mode : Mode) (rs : List Record) (i : ℕ) : Type 0 where
  pub within : i < length rs
  pub before : Low mode (take i rs)
  pub above : most_layers mode < (nth rs i).layer

pub record ShortAt (main : ℕ) (d : List ℕ) (rs : List Record) (i : ℕ) : Type 0 where
  pub within : i < length rs
  pub before : Fine main d (take i rs)
  pub short : length d < (nth rs i).start + (nth rs i).len

pub record MismatchAt (main : ℕ) (d : List ℕ) (rs : List Record) (i : ℕ) : Type 0 where
  pub within : i < length rs
  pub before : Fine main d (take i rs)
  pub fits : (nth rs i).start + (nth rs i).len ≤ length d
  pub broken : Fine main d (take (i + 1) rs) → ⊥

-- ---- the answers, in the paper's order

-- the start of page and its termination take 22 octets, whatever they say (`length_start`); the end is two fields of FF D9 (9.6.2)
abbrev pub start_size : ℕ
start_size = 22

abbrev pub page_end : List ℕ
page_end = 0xFF ∷ 0xD9 ∷ 0xFF ∷ 0xD9 ∷ []

-- what it comes to in Mode 1 is told by `size_told` (proofs/Mode1Size.antt)
unfoldable pub size_of : Mode → List Record → ℕ
unfolding sum_of
size_of mode rs = start_size + length page_end + sum_of (head_in mode) rs + sum_of (λ (r : Record). r.len) rs

pub record Sound (s d : List ℕ) : Type 0 where
  pub sheet : Sheet (records s)
  pub whole : rest s ≡ 0
  pub low : Low One (records s)
  pub fine : Fine (sheet_main (records s)) d (records s)

-- one line for each answer that writing gives; it gives no other
pub data Gives (s d : List ℕ) (room : ℕ) : Answer → Type 0 where
  no_sheet : {i : ℕ} → BadSheetAt s i → Gives s d room (Err (BadSheet i))
  above : {i : ℕ} → Accepted s → ModeAt One (records s) i → Gives s d room (Err (BadMode i))
  passing : {i : ℕ} → Accepted s → Low One (records s) → ShortAt (sheet_main (records s)) d (records s) i → Gives s d room (Err (Short i))
  differing : {i : ℕ} → Accepted s → Low One (records s) → MismatchAt (sheet_main (records s)) d (records s) i → Gives s d room (Err (Mismatch i))
  too_long : Sound s d → longest_page < size_of One (records s) → Gives s d room (Err TooLong)
  no_room : Sound s d → size_of One (records s) ≤ longest_page → room < size_of One (records s) → Gives s d room (Err NoRoom)
  written : {n : ℕ} → Sound s d → n ≡ size_of One (records s) → n ≤ longest_page → n ≤ room → Gives s d room (Ok n)
