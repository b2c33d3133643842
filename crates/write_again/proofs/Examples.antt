-- Pages that are written, octet for octet, and sheets that are refused at their records.
-- Assumes nothing.
use Rattle.std.specs.Prelude.{Ok, Err}
use Prim.Native.Nat.{ℕ, ◌+◌}
use mathlib.Core.Path.{◌≡◌, refl}
use mathlib.Core.List.{List, [], ◌∷◌, ◌++◌}
use lib.ListN.{replicate, take}
use Rattle.octets.specs.Octets.{be16_at, be32_at, begins, stands_at, octets16, octets32, put_at}
use Rattle.octets.specs.Entries.{joined}
use Rattle.answers.specs.declared.Refusal.TheVariants.{Short, BadMode, NoRoom, BadSheet, Mismatch, TooLong}
use Rattle.sheet_rules.specs.declared.Record.{Record}
use Rattle.sheet_rules.specs.Record.{marked, record_at, encode, sheet_of, records}
use Rattle.sheet_rules.specs.Judge.{keeps, after, after1, after2, after3, step_of, end_of, on_step, walk, judge, judge_of, answer_of}
use Rattle.jpeg_rules.specs.Marker.{class_of, marker_of}
use Rattle.jpeg_rules.specs.Walk.{seg_of, scan_of, tag_of, frame_body_of, frame_of, scan_step_of, segment_of, turn_of, walk_of}
use Rattle.jpeg_rules.specs.Walk as W
use Rattle.mode1_rules.specs.declared.Fields.{Fields}
use Rattle.segment_rules.specs.Rules.{mode1}
use Rattle.sheet_rules.specs.declared.Colour.{Colour}
use Rattle.start_rules.specs.Grammar.{start_of}
use Rattle.mode1_rules.specs.Grammar.{colour_of, fields_of}
use Rattle.segment_rules.specs.Segment.{begin_of}
use Rattle.page_rules.proofs.Samples.{coded_mask, stripe_head, page}
use Rattle.page_rules.proofs.Examples.{picture}
use Rattle.write_rules.specs.Layer.{agrees}
use Rattle.sheet_rules.proofs.Make.{made}
use Rattle.write_rules.specs.Writing.{counted, matches, size_answer, write_of, write_into}

-- a record: stripe, layer, coder, offsets, size, resolution, base colour, coded data
abbrev layer : ℕ → ℕ → ℕ → ℕ → ℕ → ℕ → ℕ → ℕ → Colour → ℕ → ℕ → Record
layer s l c x y w h res base from n = made s l c x y w h res base.c0 base.c1 base.c2 from n

abbrev white : Colour
white = record { c0 = 0xFF; c1 = 0x80; c2 = 0x60 }

abbrev black : Colour
black = record { c0 = 0x00; c1 = 0x80; c2 = 0x60 }

abbrev none : Colour
none = record { c0 = 0; c1 = 0; c2 = 0 }

-- ---- the four by two page of 01, "A listing": its sheet, with the mask's five octets at 60, gives the page that reading reads

unfoldable pub example : List ℕ
unfolding joined encode octets16 octets32
example = sheet_of (layer 0 1 0 0 0 0 0 200 white 0 0 ∷ layer 0 2 4 0 0 4 2 200 none 60 5 ∷ layer 0 3 0 0 0 0 0 200 black 0 0 ∷ [])

unfoldable pub buffer : List ℕ
buffer = replicate 60 0 ++ coded_mask

pub written : (write_of example buffer 70 ≡ Ok 70) × (write_into example buffer (replicate 72 7) ≡ page ++ (7 ∷ 7 ∷ []))
unfolding write_of write_into put_at page start_of begin_of fields_of colour_of octets16 octets32 buffer example counted matches size_answer judge_of judge walk on_step step_of keeps after after1 after2 after3 end_of records record_at be16_at be32_at
written = (refl, refl)

pub no_room : write_of example buffer 69 ≡ Err NoRoom
unfolding write_of buffer example counted matches size_answer judge_of judge walk on_step step_of keeps after after1 after2 after3 end_of records record_at be16_at be32_at
no_room = refl

pub short : write_of example (take 64 buffer) 70 ≡ Err (Short 1)
unfolding write_of buffer example counted matches size_answer judge_of judge walk on_step step_of keeps after after1 after2 after3 end_of records record_at be16_at be32_at
short = refl

pub bad_sheet : write_of (take 83 example) buffer 70 ≡ Err (BadSheet 2)
unfolding write_of buffer example counted matches size_answer judge_of judge walk on_step step_of keeps after after1 after2 after3 end_of records record_at be16_at be32_at answer_of
bad_sheet = refl

-- 16,777,216 octets are too long, which is said before the room, and 16,777,215 are not
pub too_long : (size_answer 0 16777216 ≡ Err TooLong) × (size_answer 16777215 16777215 ≡ Ok 16777215) × (size_answer 16777214 16777215 ≡ Err NoRoom)
unfolding size_answer
too_long = (refl, refl, refl)

-- ---- all three layers coded, the two image layers from the same octets, of one component; `grey` is octet 17 of layer 1

unfoldable pub layers : ℕ → ℕ → ℕ → List Record
layers grey width coder =
    marked grey (layer 0 1 1 2 3 width 16 200 white 0 40) ∷ layer 0 2 8 0 0 100 40 400 none 40 5 ∷ marked 1 (layer 0 3 1 4 5 8 16 200 black 0 40)
    ∷ layer 1 1 0 0 0 0 0 400 white 0 0 ∷ layer 1 2 coder 0 0 100 7 400 none 41 4 ∷ layer 1 3 0 0 0 0 0 400 black 0 0 ∷ []

abbrev first : Fields
first =
    record {
      kind = 7;
      back = white;
      fore = black;
      back_x = 2;
      back_y = 3;
      fore_x = 4;
      fore_y = 5;
      height = 40;
      mask_length = 5;
    }

abbrev second : Fields
second =
    record {
      kind = 2;
      back = white;
      fore = black;
      back_x = 0;
      back_y = 0;
      fore_x = 0;
      fore_y = 0;
      height = 7;
      mask_length = 4;
    }

-- mask, background, foreground
pub two_stripes : write_into (sheet_of (layers 1 8 8)) (picture ++ coded_mask) (replicate 193 7)
    ≡ start_of (record { rules = mode1; mask = 8; image = 1; main = 400; width = 100 })
    ++ (stripe_head first ++ (coded_mask ++ (picture ++ (picture ++ (stripe_head second ++ ((2 ∷ 3 ∷ 4 ∷ 5 ∷ []) ++ (0xFF ∷ 0xD9 ∷ 0xFF ∷ 0xD9 ∷ [])))))))
unfolding write_into put_at start_of begin_of fields_of colour_of octets16 octets32 joined encode layers picture counted matches agrees judge_of judge walk on_step step_of keeps after after1 after2 after3 end_of records record_at be16_at be32_at walk_of turn_of marker_of class_of seg_of scan_of tag_of frame_of frame_body_of scan_step_of segment_of W.end_of stands_at begins
two_stripes = refl

-- a width or a count of components that the layer does not have, at its record, before the mask that is cut; another mask coder, at the later mask
pub mismatch : (write_of (sheet_of (layers 1 9 8)) picture 193 ≡ Err (Mismatch 0)) × (write_of (sheet_of (layers 0 8 8)) picture 193 ≡ Err (Mismatch 0))
    × (write_of (sheet_of (layers 1 8 4)) (picture ++ coded_mask) 193 ≡ Err (Mismatch 4))
unfolding write_of octets16 octets32 joined encode layers picture counted matches agrees judge_of judge walk on_step step_of keeps after after1 after2 after3 end_of records record_at be16_at be32_at walk_of turn_of marker_of class_of seg_of scan_of tag_of frame_of frame_body_of scan_step_of segment_of W.end_of stands_at begins
mismatch = (refl, refl, refl)

-- an image layer that is cut is Short, although its walk fails too
pub short_image : write_of (sheet_of (layers 1 8 8)) (take 39 picture) 193 ≡ Err (Short 0)
unfolding write_of octets16 octets32 joined encode layers picture counted matches agrees judge_of judge walk on_step step_of keeps after after1 after2 after3 end_of records record_at be16_at be32_at
short_image = refl

-- a fifth layer
pub bad_mode : write_of (sheet_of (layers 1 8 8 ++ (layer 1 4 0 0 0 0 0 400 none 0 0 ∷ layer 1 5 0 0 0 0 0 400 white 0 0 ∷ []))) [] 0 ≡ Err (BadMode 6)
unfolding write_of octets16 octets32 joined encode layers judge_of judge walk on_step step_of keeps after after1 after2 after3 end_of records record_at be16_at be32_at
bad_mode = refl
