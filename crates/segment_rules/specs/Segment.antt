-- A segment behind the start of page (9.2.2, 9.3): marker, length, ident, body. It is said three times: the octets by concatenation (`Segment`), the
-- reading (`segment_of`), and where it is refused (`BadSegment`). Nobody else knows where a length or an ident stands: callers name the body.
--
--   begin_of n size       a segment's beginning: the last octet of its ident is n, and its length is this
--   Need                 what a body must be: any, which is passed over; or of so many octets, whose fields are read one by one
--   Due                  what may stand at a place: which idents, which of them would be one too many, and the body of each
--   Named due n          the ident n may stand there, and is not one too many
--   Opening              the octets of a beginning whose ident is n and whose body has so many octets, as the version has it
--   Segment              a segment as far as it is passed, and its ident
--   open_table            its beginning, field by field: marker, length, ident, one too many; size_in, ident_in: the numbers read
--   behind_of             its body
--   segment_of            its ident, and where reading goes on: behind a body that is passed over, at the first octet of a body whose fields are read
--   BadSegment           each way in which it is refused
use Rattle.std.specs.Prelude.{ℕ, ◌+◌, ◌-◌, ◌≤◌, ◌<◌, ◌≡◌, ◌≢◌, Bool, true, false, ◌&&◌, not, cond, List, [], ◌∷◌, ◌++◌, length, get_or, eqb, leb}
use Rattle.octets.specs.Octets.{octets16}
use Rattle.answers.specs.declared.Refusal.{Refusal}
use Rattle.answers.specs.declared.Refusal.TheVariants.{Short, BadMark, BadLength, BadStripe}
use Rattle.field_rules.specs.Field.{Res, ok, no, bind, one, two, Field, mark, val, again, fields, is}
use Rattle.field_rules.specs.Part.{span_of}
use Rattle.field_rules.specs.Fault.{BadMarked, BadNumbers, the}
use Rattle.segment_rules.specs.declared.Version.{Version}
use Rattle.segment_rules.specs.declared.Version.TheVariants.{Base}

-- ---- what is due

pub data Need : Type 0 where
  passed : Need
  sized : ℕ → Need

pub record Due : Type 0 where
  pub may : ℕ → Bool
  pub full : ℕ → Bool
  pub body : ℕ → Need

pub record Named (due : Due) (n : ℕ) : Type 0 where
  pub octet : n < 256
  pub may : due.may n ≡ true
  pub room : due.full n ≡ false

-- ---- the octets

unfoldable pub begin_of : ℕ → ℕ → List ℕ
begin_of n size = 0xFF ∷ 0xED ∷ octets16 size ++ (0x4D ∷ 0x52 ∷ 0x43 ∷ n ∷ [])

-- the length counts itself, the ident and the body: version 00 has this form alone
pub data Opening (version : Version) (n size : ℕ) : List ℕ → Type 0 where
  short : size + 6 < 65536 → Opening version n size (begin_of n (size + 6))

pub data Segment (version : Version) (due : Due) : List ℕ → ℕ → Type 0 where
  whole : (n : ℕ) (begin body : List ℕ) → Named due n → due.body n ≡ passed → Opening version n (length body) begin → Segment version due (begin ++ body) n
  begun : {begin : List ℕ} (n size : ℕ) → Named due n → due.body n ≡ sized size → Opening version n size begin → Segment version due begin n

-- ---- the reading: a length below 6 is judged at once, one that depends on the ident behind it; an ident too many before its length

-- a length may be 6 at the least
abbrev pub length_ok : Version → ℕ → Bool
length_ok Base size = leb 6 size

abbrev pub mrc : (ℕ → Bool) → List ℕ → List ℕ → Bool
mrc good before vs = eqb (get_or vs 0 0) 0x4D && eqb (get_or vs 1 0) 0x52 && eqb (get_or vs 2 0) 0x43 && good (get_or vs 3 0)

abbrev pub size_in : List ℕ → ℕ
size_in vs = get_or vs 0 0

abbrev pub ident_in : List ℕ → ℕ
ident_in vs = get_or vs 4 0

unfoldable pub open_table : Version → Due → List Field
open_table version due =
    mark (0xFF ∷ 0xED ∷ []) BadMark
    ∷ val (two ∷ []) (is (length_ok version)) BadLength
    ∷ val (one ∷ one ∷ one ∷ one ∷ []) (mrc due.may) BadMark
    ∷ again 4 (λ (vs : List ℕ). not (due.full (ident_in vs))) BadStripe
    ∷ []

-- the body of a segment whose ident is n, whose length tells so many octets of body, and whose length stands there
unfoldable pub behind_of : Need → ℕ → ℕ → ℕ → List ℕ → ℕ → Res ℕ
unfolding bind span_of
behind_of passed n size length_at s at = bind (span_of s at size) (λ (m e : ℕ). ok n e)
behind_of (sized due) n size length_at s at = cond (eqb size due) (ok n at) (no (BadLength length_at))

unfoldable pub segment_of : Version → Due → List ℕ → ℕ → Res ℕ
unfolding bind behind_of
segment_of version due s at =
    bind (fields (open_table version due) [] s at) (λ (vs : List ℕ) (n : ℕ). behind_of (due.body (ident_in vs)) (ident_in vs) (size_in vs - 6) (at + 2) s n)

-- ---- the refusals

-- the four octets of an ident that may stand there
pub data Ident (due : Due) : List ℕ → Type 0 where
  ident : (n : ℕ) → due.may n ≡ true → Ident due (0x4D ∷ 0x52 ∷ 0x43 ∷ n ∷ [])

pub data BadSegment (version : Version) (due : Due) (at : ℕ) : List ℕ → Refusal → Type 0 where
  bad_marker : {l : List ℕ} {x : Refusal} → BadMarked (0xFF ∷ 0xED ∷ []) BadMark at l x → BadSegment version due at l x
  bad_length : {x : Refusal} (rest : List ℕ) → BadNumbers (two ∷ []) (the (λ (size : ℕ). 6 ≤ size)) BadLength (at + 2) rest x
      → BadSegment version due at (0xFF ∷ 0xED ∷ rest) x
  bad_ident : {x : Refusal} (size : ℕ) (rest : List ℕ) → 6 ≤ size → size < 65536
      → BadNumbers (one ∷ one ∷ one ∷ one ∷ []) (Ident due) BadMark (at + 4) rest x → BadSegment version due at (0xFF ∷ 0xED ∷ octets16 size ++ rest) x
  -- one too many, whatever its length: at the ident
  too_many : (n size : ℕ) (rest : List ℕ) → 6 ≤ size → size < 65536 → n < 256 → due.may n ≡ true → due.full n ≡ true
      → BadSegment version due at (begin_of n size ++ rest) (BadStripe (at + 4))
  -- a length other than its fields need: at the length
  wrong_size : (n size need : ℕ) (begin rest : List ℕ) → Named due n → due.body n ≡ sized need → Opening version n size begin → size ≢ need
      → BadSegment version due at (begin ++ rest) (BadLength (at + 2))
  -- a body that passes the end: at its first octet
  cut_body : (n size : ℕ) (begin rest : List ℕ) → Named due n → due.body n ≡ passed → Opening version n size begin → length rest < size
      → BadSegment version due at (begin ++ rest) (Short (at + length begin))
