-- The steps of handing out coded data (01, "The sheet", its last paragraph; the order, the values and the places under "Numbers that a call returns").
-- Read Sentences.antt first, which says when each answer is given and what the part is: `data_exactly` (proofs/Exactly.antt) and `part_handed`
-- (proofs/Handed.antt) tie these steps to it.
-- s is the sheet, k the stripe and l the layer that are asked for.
--
--   source_in mode l              what holds the coded data of a layer of that number, by the mode; source_of l: in Mode 1, which the call is for
--   source_number x               its number, as the viewer is given it: 0 the page, 1 the pencil file
--   octets_in page pencil x       its octets
--   empty_part                    the part of no octets
--   part_in l r                   the part that the record r of a layer l names
--   record_found .. l i r         Short, or the part: the record r, of number i
--   layer_found, stripe_found      BadLine where there is no such layer, no such stripe
--   sheet_found                   BadSheet
--   found_of s page pencil k l    BadSheet, BadLine, Short: where the data stand, or the refusal
--   data_of ..                    what the call answers; data_by: of what was found
--   part_of ..                    the part itself, its octets; part_by
--   part_source, part_start ..     where the part stands; source_by, start_by
use Rattle.std.specs.Prelude.{ℕ, ◌+◌, cond, List, [], length, take, drop, leb, ltb, Option, Some, None, Result, Ok, Err}
use Rattle.answers.specs.Answers.{Answer}
use Rattle.answers.specs.declared.Refusal.{Refusal}
use Rattle.answers.specs.declared.Refusal.TheVariants.{Short, BadSheet, BadLine}
use Rattle.sheet_rules.specs.declared.Record.{Record}
use Rattle.sheet_rules.specs.declared.Counts.{Counts}
use Rattle.sheet_rules.specs.declared.Extent.{Extent}
use Rattle.sheet_rules.specs.Record.{record_at}
use Rattle.sheet_rules.specs.Judge.{coded, judge_of}
use Rattle.sheet_rules.specs.StripeTable.{find_stripe, find_layer}
use Rattle.segment_rules.specs.declared.Mode.{Mode}
use Rattle.segment_rules.specs.declared.Mode.TheVariants.{One}
use Rattle.data_rules.specs.declared.Source.{Source}
use Rattle.data_rules.specs.declared.Source.TheVariants.{Page, Pencil}
use Rattle.data_rules.specs.declared.Part.{Part}

-- ---- the source

-- in Mode 1 layers 1 to 3 have their coded data in the page, higher ones in the pencil file
unfoldable pub source_in : Mode → ℕ → Source
source_in One l = cond (leb l 3) Page Pencil

unfoldable pub source_of : ℕ → Source
unfolding source_in
source_of l = source_in One l

unfoldable pub source_number : Source → ℕ
source_number Page = 0
source_number Pencil = 1

unfoldable pub octets_in : List ℕ → List ℕ → Source → List ℕ
octets_in page pencil Page = page
octets_in page pencil Pencil = pencil

-- ---- the part of a record

abbrev pub empty_part : Part
empty_part = record { source = Page; start = 0; len = 0 }

-- data of an uncoded layer is an empty part
unfoldable pub part_in : ℕ → Record → Part
unfolding source_of
part_in l r = cond (coded r) (record { source = source_of l; start = r.start; len = r.len }) empty_part

-- coded data that does not fit whole
unfoldable pub record_found : List ℕ → List ℕ → ℕ → ℕ → Record → Result Part Refusal
unfolding source_of octets_in part_in
record_found page pencil l i r =
    cond (ltb (length (octets_in page pencil (source_of l))) (r.start + r.len)) (Err (Short i)) (Ok (part_in l r))

-- ---- BadSheet, BadLine, Short

unfoldable pub layer_found : List ℕ → List ℕ → List ℕ → ℕ → Option ℕ → Result Part Refusal
unfolding record_found
layer_found s page pencil l None = Err BadLine
layer_found s page pencil l (Some i) = record_found page pencil l i (record_at s i)

unfoldable pub stripe_found : List ℕ → List ℕ → List ℕ → ℕ → Option Extent → Result Part Refusal
unfolding layer_found
stripe_found s page pencil l None = Err BadLine
stripe_found s page pencil l (Some extent) = layer_found s page pencil l (find_layer extent l)

unfoldable pub sheet_found : List ℕ → List ℕ → List ℕ → ℕ → ℕ → Result Counts ℕ → Result Part Refusal
unfolding stripe_found
sheet_found s page pencil k l (Err i) = Err (BadSheet i)
sheet_found s page pencil k l (Ok c) = stripe_found s page pencil l (find_stripe s k)

unfoldable pub found_of : List ℕ → List ℕ → List ℕ → ℕ → ℕ → Result Part Refusal
unfolding sheet_found
found_of s page pencil k l = sheet_found s page pencil k l (judge_of s)

-- ---- the answer, the part and where it stands

-- Ok returns the length of the part handed out
unfoldable pub data_by : Result Part Refusal → Answer
data_by (Ok p) = Ok p.len
data_by (Err r) = Err r

unfoldable pub data_of : List ℕ → List ℕ → List ℕ → ℕ → ℕ → Answer
unfolding found_of data_by
data_of s page pencil k l = data_by (found_of s page pencil k l)

-- a refused part is empty
unfoldable pub part_by : List ℕ → List ℕ → Result Part Refusal → List ℕ
unfolding octets_in
part_by page pencil (Ok p) = take p.len (drop p.start (octets_in page pencil p.source))
part_by page pencil (Err r) = []

unfoldable pub part_of : List ℕ → List ℕ → List ℕ → ℕ → ℕ → List ℕ
unfolding found_of part_by
part_of s page pencil k l = part_by page pencil (found_of s page pencil k l)

-- an empty part stands in the page, at 0
unfoldable pub source_by : Result Part Refusal → Source
source_by (Ok p) = p.source
source_by (Err r) = Page

unfoldable pub start_by : Result Part Refusal → ℕ
start_by (Ok p) = p.start
start_by (Err r) = 0

unfoldable pub part_source : List ℕ → List ℕ → List ℕ → ℕ → ℕ → Source
unfolding found_of source_by
part_source s page pencil k l = source_by (found_of s page pencil k l)

unfoldable pub part_start : List ℕ → List ℕ → List ℕ → ℕ → ℕ → ℕ
unfolding found_of start_by
part_start s page pencil k l = start_by (found_of s page pencil k l)
