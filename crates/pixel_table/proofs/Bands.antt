-- A band by example (02, 2026-12): two by two pixels, the second of two stripes, in a buffer of two octets more, under every unseen colour.
-- Assumes nothing.
use Prim.Native.Nat.{ℕ}
use mathlib.Core.Path.{◌≡◌, refl}
use mathlib.Core.List.{List, [], ◌∷◌}
use Rattle.octets.specs.Octets.{be16_at, be32_at, octets16, octets32, put_at}
use Rattle.octets.specs.Entries.{joined}
use Rattle.answers.specs.declared.Refusal.TheVariants.{NoRoom}
use Rattle.std.specs.Prelude.{Ok, Err}
use Rattle.sheet_rules.specs.declared.Colour.{Colour}
use Rattle.sheet_rules.specs.Record.{record_at, encode, sheet_of, records}
use Rattle.sheet_rules.specs.Judge.{keeps, after, after1, after2, after3, step_of, end_of, on_step, walk, judge, judge_of}
use Rattle.sheet_rules.specs.StripeTable.{find_stripe, layer_record}
use Rattle.pixel_rules.specs.Planes.{plane_at, list_of}
use Rattle.pixel_rules.specs.Samples.{mask_at, image_at}
use Rattle.pixel_rules.specs.Place.{scale}
use Rattle.band_rules.specs.Band.{band_of, band_into}
use Rattle.pixel_table.proofs.Pixels.{white, black, none, layer, blank_image, entry, below}

-- a stripe one line high, and one of two lines whose layer 3, one sample of two by two main pixels, is not read
abbrev pub sheet : List ℕ
sheet =
    sheet_of
    (blank_image 1 black ∷ layer 2 4 0 0 2 1 400 none 5 ∷ blank_image 3 black
    ∷ below (blank_image 1 white) ∷ below (layer 2 4 0 0 2 2 400 none 5) ∷ below (layer 3 1 0 0 1 1 200 black 5) ∷ [])

-- the mask: 1 0 above 0 1
abbrev pub samples : List ℕ
samples = 1 ∷ 0 ∷ 0 ∷ 1 ∷ []

pub band_holds_lem : (judge_of sheet ≡ Ok (record { records = 6; stripes = 2 }))
    × (band_of sheet (list_of (entry 2 0)) samples 1 18 ≡ Ok 16)
    × (band_of sheet (list_of (entry 2 0)) samples 1 15 ≡ Err NoRoom)
    × ((u : Colour) → band_into sheet (list_of (entry 2 0)) samples 1 u (7 ∷ 7 ∷ 7 ∷ 7 ∷ 7 ∷ 7 ∷ 7 ∷ 7 ∷ 7 ∷ 7 ∷ 7 ∷ 7 ∷ 7 ∷ 7 ∷ 7 ∷ 7 ∷ 7 ∷ 7 ∷ [])
    ≡ u.c0 ∷ u.c1 ∷ u.c2 ∷ 0 ∷ 255 ∷ 128 ∷ 96 ∷ 1 ∷ 255 ∷ 128 ∷ 96 ∷ 1 ∷ u.c0 ∷ u.c1 ∷ u.c2 ∷ 0 ∷ 7 ∷ 7 ∷ [])
unfolding octets16 octets32 joined encode judge_of judge walk on_step step_of keeps after after1 after2 after3 end_of records record_at be16_at be32_at band_of band_into put_at find_stripe plane_at layer_record mask_at image_at scale
band_holds_lem = (refl, refl, refl, λ u. refl)
