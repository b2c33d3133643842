-- Sheets that are accepted, so that the rules are no empty ones: the paper's example, and two stripes of different layers, coders,
-- resolutions and heights; and a record of which no two octets are alike, by which each field has its place.
-- Assumes nothing.
use Prim.Native.Nat.{ℕ}
use mathlib.Core.Path.{◌≡◌, refl}
use mathlib.Core.List.{List, [], ◌∷◌}
use Rattle.sheet_rules.specs.declared.Record.{Record}
use Rattle.sheet_rules.proofs.Make.{made}
use Rattle.std.specs.Prelude.{Ok, Err}
use Rattle.sheet_rules.specs.Record.{marked, record_at, encode, records}
use Rattle.sheet_rules.specs.Judge.{keeps, after, after1, after2, after3, step_of, end_of, on_step, walk, judge, judge_of}
use Rattle.octets.specs.Octets.{be16_at, be32_at, octets16, octets32}

-- 01, "A listing": a four by two page, only its mask coded
pub example : List ℕ
example =
    0x00 ∷ 0x00 ∷ 0x01 ∷ 0x00 ∷ 0x00 ∷ 0x00 ∷ 0x00 ∷ 0x00 ∷ 0x00 ∷ 0x00 ∷ 0x00 ∷ 0x00 ∷ 0x00 ∷ 0xC8
    ∷ 0xFF ∷ 0x80 ∷ 0x60 ∷ 0x00 ∷ 0x00 ∷ 0x00 ∷ 0x00 ∷ 0x00 ∷ 0x00 ∷ 0x00 ∷ 0x00 ∷ 0x00 ∷ 0x00 ∷ 0x00
    ∷ 0x00 ∷ 0x00 ∷ 0x02 ∷ 0x04 ∷ 0x00 ∷ 0x00 ∷ 0x00 ∷ 0x00 ∷ 0x00 ∷ 0x04 ∷ 0x00 ∷ 0x02 ∷ 0x00 ∷ 0xC8
    ∷ 0x00 ∷ 0x00 ∷ 0x00 ∷ 0x00 ∷ 0x00 ∷ 0x00 ∷ 0x00 ∷ 0x3C ∷ 0x00 ∷ 0x00 ∷ 0x00 ∷ 0x05 ∷ 0x00 ∷ 0x00
    ∷ 0x00 ∷ 0x00 ∷ 0x03 ∷ 0x00 ∷ 0x00 ∷ 0x00 ∷ 0x00 ∷ 0x00 ∷ 0x00 ∷ 0x00 ∷ 0x00 ∷ 0x00 ∷ 0x00 ∷ 0xC8
    ∷ 0x00 ∷ 0x80 ∷ 0x60 ∷ 0x00 ∷ 0x00 ∷ 0x00 ∷ 0x00 ∷ 0x00 ∷ 0x00 ∷ 0x00 ∷ 0x00 ∷ 0x00 ∷ 0x00 ∷ 0x00 ∷ []

pub example_accepted : judge_of example ≡ Ok (record { records = 3; stripes = 1 })
unfolding judge_of judge walk on_step step_of keeps after after1 after2 after3 end_of records record_at be16_at be32_at example
example_accepted = refl

-- a record of these sheets: stripe, layer, coder, offsets, size, resolution, coded data
pub layer : ℕ → ℕ → ℕ → ℕ → ℕ → ℕ → ℕ → ℕ → ℕ → ℕ → Record
layer s l c x y w h res from n = made s l c x y w h res 0 0 0 from n

pub stripes : List Record
unfolding layer
stripes =
    layer 0 1 1 3 5 40 70 200 100 50 ∷ layer 0 2 8 0 0 300 400 400 150 60 ∷ layer 0 3 0 0 0 0 0 400 0 0
    ∷ layer 1 1 0 0 0 0 0 400 0 0 ∷ layer 1 2 0 0 0 300 7 400 0 0 ∷ layer 1 3 1 9 9 8 8 100 210 30
    ∷ layer 1 4 1 2 2 10 10 400 240 5 ∷ layer 1 5 1 2 2 5 5 200 245 9 ∷ []

pub stripes_accepted : judge stripes 0 ≡ Ok (record { records = 8; stripes = 2 })
unfolding judge walk on_step step_of keeps after after1 after2 after3 end_of stripes
stripes_accepted = refl

-- ---- the paper's exceptions, at their places

-- layer 1 under 300 is no fault by itself; it is met at layer 2, whose 400 it does not divide, in stripe 0 and in a later one
pub resolution_at_2 : judge (layer 0 1 1 0 0 5 5 300 9 9 ∷ layer 0 2 4 0 0 8 8 400 9 9 ∷ layer 0 3 0 0 0 0 0 400 0 0 ∷ []) 0 ≡ Err 1
unfolding judge walk on_step step_of keeps after after1 after2 after3 end_of layer
resolution_at_2 = refl

pub resolution_at_2_later : judge (layer 0 1 0 0 0 0 0 400 0 0 ∷ layer 0 2 4 0 0 8 8 400 9 9 ∷ layer 0 3 0 0 0 0 0 400 0 0
    ∷ layer 1 1 1 0 0 5 5 300 9 9 ∷ layer 1 2 4 0 0 8 8 400 9 9 ∷ layer 1 3 0 0 0 0 0 400 0 0 ∷ []) 0 ≡ Err 4
unfolding judge walk on_step step_of keeps after after1 after2 after3 end_of layer
resolution_at_2_later = refl

-- the choice of coded layers 1 to 3 is met at layer 3: none, and 1 and 3 without 2
pub choice_at_3 : judge (layer 0 1 0 0 0 0 0 400 0 0 ∷ layer 0 2 0 0 0 8 8 400 0 0 ∷ layer 0 3 0 0 0 0 0 400 0 0 ∷ []) 0 ≡ Err 2
unfolding judge walk on_step step_of keeps after after1 after2 after3 end_of layer
choice_at_3 = refl

pub mask_at_3 : judge (layer 0 1 1 0 0 5 5 400 9 9 ∷ layer 0 2 0 0 0 8 8 400 0 0 ∷ layer 0 3 1 0 0 5 5 400 9 9 ∷ []) 0 ≡ Err 2
unfolding judge walk on_step step_of keeps after after1 after2 after3 end_of layer
mask_at_3 = refl

-- a part record, and a stripe that stops at an even layer, are at the record that was due
pub part_due : judge (layer 0 1 0 0 0 0 0 400 0 0 ∷ layer 0 2 4 0 0 8 8 400 9 9 ∷ layer 0 3 0 0 0 0 0 400 0 0 ∷ []) 27 ≡ Err 3
unfolding judge walk on_step step_of keeps after after1 after2 after3 end_of layer
part_due = refl

pub even_due : judge (layer 0 1 0 0 0 0 0 400 0 0 ∷ layer 0 2 4 0 0 8 8 400 9 9 ∷ layer 1 1 0 0 0 0 0 400 0 0 ∷ []) 0 ≡ Err 2
unfolding judge walk on_step step_of keeps after after1 after2 after3 end_of layer
even_due = refl

-- ---- octet 17: 1 in a coded image layer, above a mask and below all, and nowhere else, and no other value

-- layers 1 to 3 coded, with this octet 17 in each
pub marks : ℕ → ℕ → ℕ → List Record
unfolding layer
marks a b c = marked a (layer 0 1 1 0 0 5 5 400 9 9) ∷ marked b (layer 0 2 1 0 0 8 8 400 9 9) ∷ marked c (layer 0 3 1 0 0 5 5 200 9 9) ∷ []

pub grey_accepted : judge (marks 1 0 1) 0 ≡ Ok (record { records = 3; stripes = 1 })
unfolding judge walk on_step step_of keeps after after1 after2 after3 end_of marks
grey_accepted = refl

pub grey_mask : judge (marks 1 1 1) 0 ≡ Err 1
unfolding judge walk on_step step_of keeps after after1 after2 after3 end_of marks
grey_mask = refl

pub grey_two : judge (marks 1 0 2) 0 ≡ Err 2
unfolding judge walk on_step step_of keeps after after1 after2 after3 end_of marks
grey_two = refl

pub grey_uncoded : judge (marked 1 (layer 0 1 0 0 0 0 0 400 0 0) ∷ layer 0 2 4 0 0 8 8 400 9 9 ∷ layer 0 3 0 0 0 0 0 400 0 0 ∷ []) 0 ≡ Err 0
unfolding judge walk on_step step_of keeps after after1 after2 after3 end_of layer
grey_uncoded = refl

-- ---- where each field stands

-- 28 octets, each another: so no two fields, and no two octets of one, can stand for each other
pub octets_apart : List ℕ
octets_apart =
    0x01 ∷ 0x02 ∷ 0x03 ∷ 0x04 ∷ 0x05 ∷ 0x06 ∷ 0x07 ∷ 0x08 ∷ 0x09 ∷ 0x0A ∷ 0x0B ∷ 0x0C ∷ 0x0D ∷ 0x0E
    ∷ 0x0F ∷ 0x10 ∷ 0x11 ∷ 0x12 ∷ 0x13 ∷ 0x14 ∷ 0x15 ∷ 0x16 ∷ 0x17 ∷ 0x18 ∷ 0x19 ∷ 0x1A ∷ 0x1B ∷ 0x1C ∷ []

pub record_apart : Record
record_apart =
    record {
      stripe = 0x0102;
      layer = 0x03;
      coder = 0x04;
      x = 0x0506;
      y = 0x0708;
      width = 0x090A;
      height = 0x0B0C;
      res = 0x0D0E;
      base0 = 0x0F;
      base1 = 0x10;
      base2 = 0x11;
      octet17 = 0x12;
      start = 0x13141516;
      len = 0x1718191A;
      octets26 = 0x1B1C;
    }

pub layout_read : record_at octets_apart 0 ≡ record_apart
unfolding record_at be16_at be32_at octets_apart record_apart
layout_read = refl

pub layout_put : encode record_apart ≡ octets_apart
unfolding encode octets16 octets32 octets_apart record_apart
layout_put = refl
