-- A grey plane, and the same plane in colour (02, 2026-07).
--
--   Clears s t      the sheet t is s with octet 17 cleared in some records: each record is the same, or the same with 0 there
--   cleared s i     the sheet s with octet 17 of record i cleared
--   spread l        each octet v of a grey plane as the three v 128 96
--   restarted l n   the entries of a plane list, that of layer l starting at n
--   colour_sheet     the sheet, list and samples of a line call whose layer l of stripe k is in colour:
--   colour_list      its octet 17 cleared, its entry starting behind the samples lent, and there its plane spread;
--   colour_samples   a is where the grey plane starts
--   Alike v w       two scenes whose records differ in octet 17 alone, and whose planes show the same samples
use Rattle.std.specs.Prelude.{ℕ, ◌+◌, ◌-◌, ◌*◌, ◌%◌, ◌≤◌, ◌<◌, ◌≡◌, ◌⊎◌, cond, List, [], ◌∷◌, ◌++◌, map, length, take, drop, eqb}
use Rattle.octets.specs.Octets.{put_at}
use Rattle.sheet_rules.specs.declared.Record.{Record}
use Rattle.sheet_rules.specs.Record.{record_size, record_at, records, marked}
use Rattle.sheet_rules.specs.StripeTable.{extent_of}
use Rattle.pixel_rules.specs.declared.Plane.{Plane}
use Rattle.pixel_rules.specs.Planes.{PlaneList, plane_start}
use Rattle.pixel_rules.specs.Samples.{Scene, record_of, depth, plane_span, mask_read, image_read}

pub record Clears (s t : List ℕ) : Type 0 where
  pub long : length t ≡ length s
  pub each : (i : ℕ) → (record_at t i ≡ record_at s i) ⊎ (record_at t i ≡ marked 0 (record_at s i))

abbrev pub cleared : List ℕ → ℕ → List ℕ
cleared s i = put_at s (i * record_size + 17) (0 ∷ [])

unfoldable pub spread : List ℕ → List ℕ
spread [] = []
spread (v ∷ l) = v ∷ 128 ∷ 96 ∷ spread l

abbrev pub starting_at : ℕ → ℕ → Plane → Plane
starting_at l n p = record { layer = p.layer; start = cond (eqb p.layer l) n p.start }

abbrev pub restarted : ℕ → ℕ → List Plane → List Plane
restarted l n ps = map (starting_at l n) ps

abbrev pub colour_sheet : List ℕ → ℕ → ℕ → List ℕ
colour_sheet s k l = cleared s ((extent_of k (records s)).first + (l - 1))

abbrev pub colour_list : PlaneList → List ℕ → ℕ → PlaneList
colour_list pl d l = record { entries = restarted l (length d) pl.entries; part = pl.part }

abbrev pub colour_samples : List ℕ → Record → ℕ → List ℕ
colour_samples d r a = d ++ spread (take (plane_span r) (drop a d))

-- of samples that the layer has: so many along as it is wide, so many down as it is high
abbrev pub Has : Scene → ℕ → ℕ → Type 0
Has v l i = i < (record_of v l).width * (record_of v l).height

pub record Alike (v w : Scene) : Type 0 where
  pub layers : w.extent.layers ≡ v.extent.layers
  pub records : (l : ℕ) → marked 0 (record_of w l) ≡ marked 0 (record_of v l)
  pub masks : (l : ℕ) → 1 ≤ l → l % 2 ≡ 0 → (i : ℕ) → Has v l i
      → mask_read w.samples (plane_start w.planes l) i ≡ mask_read v.samples (plane_start v.planes l) i
  pub images : (l : ℕ) → l % 2 ≡ 1 → (i : ℕ) → Has v l i
      → image_read w.samples (depth (record_of w l)) (plane_start w.planes l) i ≡ image_read v.samples (depth (record_of v l)) (plane_start v.planes l) i
