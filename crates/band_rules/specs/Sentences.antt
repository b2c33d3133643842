-- The band call as sentences (02, 2026-12): when each answer is given, and the octets of a band by the line call. How both are found, in the steps of
-- Band.antt, comes last.
--
--   HasStripe s k         the sheet has a stripe k
--   line_size, band_octets  four octets a pixel: of a line, and of width by height of the stripe
--   GivesBand .. room a   the call answers a, where the buffer holds so many octets
--   LineByLine ..         what a call that answers Ok n leaves: each line as a line call puts it, and the octets past the band
use Rattle.std.specs.Prelude.{ℕ, ◌*◌, ◌≤◌, ◌<◌, ◌≡◌, List, length, take, drop, Ok, Err}
use Rattle.answers.specs.Answers.{Answer}
use Rattle.answers.specs.declared.Refusal.TheVariants.{NoRoom, BadSheet, BadPlane, BadLine}
use Rattle.sheet_rules.specs.declared.Colour.{Colour}
use Rattle.sheet_rules.specs.Record.{records}
use Rattle.sheet_rules.specs.Sentences.{stripe_count, Accepted, BadSheetAt}
use Rattle.pixel_rules.specs.Planes.{PlaneList}
use Rattle.pixel_rules.specs.Samples.{Scene, width_of}
use Rattle.picture_rules.specs.Line.{line_of, line_into}
use Rattle.picture_rules.specs.Sentences.{scene_of, PlaneAt, AllFine}

abbrev pub HasStripe : List ℕ → ℕ → Type 0
HasStripe s k = k < stripe_count (records s)

abbrev pub line_size : Scene → ℕ
line_size v = width_of v * 4

abbrev pub band_octets : Scene → ℕ
band_octets v = 4 * width_of v * v.extent.height

-- ---- the answers, in the paper's order for a line

-- one line for each answer that a band call gives; it gives no other
pub data GivesBand (s : List ℕ) (pl : PlaneList) (d : List ℕ) (k room : ℕ) : Answer → Type 0 where
  no_sheet : {i : ℕ} → BadSheetAt s i → GivesBand s pl d k room (Err (BadSheet i))
  no_stripe : Accepted s → (HasStripe s k → ⊥) → GivesBand s pl d k room (Err BadLine)
  no_plane_lem : {i : ℕ} → Accepted s → HasStripe s k → PlaneAt (scene_of s pl d k) pl i → GivesBand s pl d k room (Err (BadPlane i))
  no_room : Accepted s → HasStripe s k → AllFine (scene_of s pl d k) pl → room < band_octets (scene_of s pl d k) → GivesBand s pl d k room (Err NoRoom)
  banded : {n : ℕ} → Accepted s → HasStripe s k → AllFine (scene_of s pl d k) pl → n ≡ band_octets (scene_of s pl d k) → n ≤ room
      → GivesBand s pl d k room (Ok n)

-- ---- the octets

-- the buffer was `out` and is `e`
pub record LineByLine (s : List ℕ) (pl : PlaneList) (d : List ℕ) (k : ℕ) (u : Colour) (out : List ℕ) (n : ℕ) (e : List ℕ) : Type 0 where
  -- line 0 has no fault, and the band's own size fits
  pub lined : (room : ℕ) → line_size (scene_of s pl d k) ≤ room → line_of s pl d k 0 room ≡ Ok (line_size (scene_of s pl d k))
  pub size : n ≡ band_octets (scene_of s pl d k)
  pub room : n ≤ length out
  -- line y stands y lines down, as the line call puts it in front of any buffer that has room
  pub lines : (y : ℕ) → y < (scene_of s pl d k).extent.height → (buffer : List ℕ) → line_size (scene_of s pl d k) ≤ length buffer
      → take (line_size (scene_of s pl d k)) (drop (y * line_size (scene_of s pl d k)) e) ≡ take (line_size (scene_of s pl d k)) (line_into s pl d k y u buffer)
  -- the octets past the band stay
  pub past : drop n e ≡ drop n out
  pub same : length e ≡ length out
