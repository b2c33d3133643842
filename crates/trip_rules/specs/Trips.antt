-- What exported calls leave one after the other: a sheet that was written and read back, a page that was read and written (01, the writer).
--
--   Stays s i j               octet j of record i of the sheet s is none of octets 18 to 21 of a coded record
--   SameButStarts s t         two sheets are the same octet for octet, but for octets 18 to 21 of coded records
--   SameLayers s d t p        what each record of the sheet t names in p is what the record of the same number in s names in d
--   Returned s d p q t        the page p, written from the sheet s and its data d, is read: the report is q, and the sheet t
--   Restored p q out out'     the page p, read and written again into the buffer out: the report is q, and the buffer is then out'
use Rattle.std.specs.Prelude.{ℕ, ◌+◌, ◌*◌, ◌/◌, ◌<◌, ◌≡◌, ◌⊎◌, List, length, get_or, take, drop}
use Rattle.octets.specs.Octets.{be32_at}
use Rattle.answers_report.specs.declared.Report.{Report}
use Rattle.sheet_rules.specs.Record.{record_size, record_at}
use Rattle.write_rules.specs.Layer.{layer_octets}

-- it stands before them, or behind them, or the record's length, octets 22 to 25, is 0
abbrev pub Stays : List ℕ → ℕ → ℕ → Type 0
Stays s i j = (j < 18) ⊎ (21 < j) ⊎ (be32_at s (i * record_size + 22) ≡ 0)

pub record SameButStarts (s t : List ℕ) : Type 0 where
  pub long : length t ≡ length s
  pub octets : (i j : ℕ) → j < record_size → i * record_size + j < length s → Stays s i j → get_or t (i * record_size + j) 0 ≡ get_or s (i * record_size + j) 0

-- of a coded record these are its layer's octets, so that this says what octets 18 to 21 are
abbrev pub SameLayers : List ℕ → List ℕ → List ℕ → List ℕ → Type 0
SameLayers s d t p = (i : ℕ) → i < length s / record_size → layer_octets p (record_at t i) ≡ layer_octets d (record_at s i)

pub record Returned (s d p : List ℕ) (q : Report) (t : List ℕ) : Type 0 where
  pub report : q ≡ record { number = 0; place = 0; count = length s / record_size }
  pub same : SameButStarts s t
  pub layers : SameLayers s d t p

pub record Restored (p : List ℕ) (q : Report) (out out' : List ℕ) : Type 0 where
  pub report : q ≡ record { number = 0; place = 0; count = length p }
  pub page : take (length p) out' ≡ p
  pub behind : drop (length p) out' ≡ drop (length p) out
