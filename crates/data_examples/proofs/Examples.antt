-- Requests to a sheet of two stripes of five layers, computed: a layer of the page and one of the pencil file, an uncoded layer, and each refusal.
-- Assumes nothing.
use Prim.Native.Nat.{ℕ}
use mathlib.Core.Path.{◌≡◌, refl, ap}
use mathlib.Core.List.{List, [], ◌∷◌}
use lib.ListN.{take}
use Rattle.octets.specs.Octets.{be16_at, be32_at, octets16, octets32}
use Rattle.octets.specs.Entries.{joined}
use Rattle.answers.specs.Answers.{Answer}
use Rattle.answers.specs.declared.Refusal.TheVariants.{Short, BadSheet, BadLine}
use Rattle.sheet_rules.specs.declared.Record.{Record}
use Rattle.sheet_rules.specs.Record.{record_at, encode, sheet_of, records, sum_of}
use Rattle.sheet_rules.specs.Judge.{keeps, after, after1, after2, after3, step_of, end_of, on_step, walk, judge, judge_of}
use Rattle.sheet_rules.proofs.Make.{made}
use Rattle.sheet_rules.specs.StripeTable.{extent_of, few, found_extent, find_stripe, find_layer}
use Rattle.data_rules.specs.declared.Source.{Source}
use Rattle.data_rules.specs.declared.Source.TheVariants.{Page, Pencil}
use Rattle.std.specs.Prelude.{Result, Ok, Err}
use Rattle.answers.specs.declared.Refusal.{Refusal}
use Rattle.data_rules.specs.declared.Part.{Part}
use Rattle.data_rules.specs.Data.{found_of, data_by, data_of, part_by, part_of, source_by, part_source, start_by, part_start}

-- a record of this sheet: stripe, layer, coder, size, resolution, coded data
layer : ℕ → ℕ → ℕ → ℕ → ℕ → ℕ → ℕ → ℕ → Record
layer s l c w h res from n = made s l c 0 0 w h res 0 0 0 from n

-- layers 3 of stripe 0, 1 and 5 of stripe 1 are not coded
pub sheet : List ℕ
unfolding joined encode octets16 octets32 layer
sheet =
    sheet_of
    (layer 0 1 1 1 1 400 0 2 ∷ layer 0 2 8 3 2 400 2 3 ∷ layer 0 3 0 0 0 400 0 0 ∷ layer 0 4 1 3 2 400 0 2 ∷ layer 0 5 1 1 1 200 2 1
    ∷ layer 1 1 0 0 0 400 0 0 ∷ layer 1 2 4 3 5 400 5 2 ∷ layer 1 3 1 2 2 100 7 1 ∷ layer 1 4 8 3 5 400 3 2 ∷ layer 1 5 0 0 0 400 0 0 ∷ [])

pub page : List ℕ
page = 10 ∷ 11 ∷ 12 ∷ 13 ∷ 14 ∷ 15 ∷ 16 ∷ 17 ∷ []

pub pencil : List ℕ
pencil = 20 ∷ 21 ∷ 22 ∷ 23 ∷ []

-- what a request is answered, the part, and where it stands
abbrev pub Asked : List ℕ → ℕ → ℕ → Answer → List ℕ → Source → ℕ → Type 0
Asked s k l a p x n =
    (data_of s page pencil k l ≡ a) × (part_of s page pencil k l ≡ p) × (part_source s page pencil k l ≡ x) × (part_start s page pencil k l ≡ n)

-- the four at once, of what is found
asked : (s : List ℕ) (k l : ℕ) (f : Result Part Refusal) → found_of s page pencil k l ≡ f → Asked s k l (data_by f) (part_by page pencil f) (source_by f) (start_by f)
unfolding data_of part_of part_source part_start
asked s k l f e = (ap data_by e, ap (part_by page pencil) e, ap source_by e, ap start_by e)

lies : Source → ℕ → ℕ → Result Part Refusal
lies x start len = Ok (record { source = x; start = start; len = len })

-- layers 2 and 3 stand in the page, 4 and 5 in the pencil file
pub in_page : Asked sheet 0 2 (Ok 3) (12 ∷ 13 ∷ 14 ∷ []) Page 2 × Asked sheet 1 3 (Ok 1) (17 ∷ []) Page 7
unfolding found_of data_by part_by source_by start_by judge_of judge walk on_step step_of keeps after after1 after2 after3 end_of records record_at be16_at be32_at extent_of few found_extent find_stripe find_layer sum_of sheet page pencil lies
in_page = (asked sheet 0 2 (lies Page 2 3) refl, asked sheet 1 3 (lies Page 7 1) refl)

pub in_pencil : Asked sheet 0 4 (Ok 2) (20 ∷ 21 ∷ []) Pencil 0 × Asked sheet 0 5 (Ok 1) (22 ∷ []) Pencil 2
unfolding found_of data_by part_by source_by start_by judge_of judge walk on_step step_of keeps after after1 after2 after3 end_of records record_at be16_at be32_at extent_of few found_extent find_stripe find_layer sum_of sheet page pencil lies
in_pencil = (asked sheet 0 4 (lies Pencil 0 2) refl, asked sheet 0 5 (lies Pencil 2 1) refl)

-- an uncoded layer, below and above layer 3
pub uncoded : Asked sheet 0 3 (Ok 0) [] Page 0 × Asked sheet 1 5 (Ok 0) [] Page 0
unfolding found_of data_by part_by source_by start_by judge_of judge walk on_step step_of keeps after after1 after2 after3 end_of records record_at be16_at be32_at extent_of few found_extent find_stripe find_layer sum_of sheet page pencil lies
uncoded = (asked sheet 0 3 (lies Page 0 0) refl, asked sheet 1 5 (lies Page 0 0) refl)

-- the fifth octet of a pencil file of four: record 8 is at fault, not layer 4
pub short : Asked sheet 1 4 (Err (Short 8)) [] Page 0
unfolding found_of data_by part_by source_by start_by judge_of judge walk on_step step_of keeps after after1 after2 after3 end_of records record_at be16_at be32_at extent_of few found_extent find_stripe find_layer sum_of sheet page pencil
short = asked sheet 1 4 (Err (Short 8)) refl

-- no layer 0 and 6, and no stripe 2
pub no_layer : Asked sheet 0 0 (Err BadLine) [] Page 0 × Asked sheet 0 6 (Err BadLine) [] Page 0 × Asked sheet 2 1 (Err BadLine) [] Page 0
unfolding found_of data_by part_by source_by start_by judge_of judge walk on_step step_of keeps after after1 after2 after3 end_of records record_at be16_at be32_at extent_of few found_extent find_stripe find_layer sum_of sheet page pencil
no_layer = (asked sheet 0 0 (Err BadLine) refl, asked sheet 0 6 (Err BadLine) refl, asked sheet 2 1 (Err BadLine) refl)

-- half of a stripe: the record due is at fault
pub no_sheet : Asked (take 196 sheet) 0 2 (Err (BadSheet 7)) [] Page 0
unfolding found_of data_by part_by source_by start_by judge_of judge walk on_step step_of keeps after after1 after2 after3 end_of records record_at be16_at be32_at extent_of few found_extent find_stripe find_layer sum_of sheet page pencil
no_sheet = asked (take 196 sheet) 0 2 (Err (BadSheet 7)) refl
