-- Places, counted in main mask pixels or in a layer's samples, and a layer's area (01, "Colour of a pixel").
--
--   ratio main r     main pixels a sample: main resolution / layer resolution
--   left_of r         a layer's offset along, as a place; top_of r: its offset down
--   area_end o n q    behind n samples of q main pixels each, from the offset on
--   scale q o p      the one step from a main place to a sample's: the offset taken away, then divided by q and rounded down
--   covers o n q p   n samples of q main pixels each, from the offset on, cover the place p
--   inside main r    a place of the stripe lies in the layer's area
use Rattle.std.specs.Prelude.{ℕ, ◌+◌, ◌-◌, ◌*◌, ◌/◌, Bool, ◌&&◌, leb, ltb}
use Rattle.sheet_rules.specs.declared.Record.{Record}
use Rattle.pixel_rules.specs.declared.MainPos.{MainPos}
use Rattle.pixel_rules.specs.declared.SamplePos.{SamplePos}

abbrev pub ratio : ℕ → Record → ℕ
ratio main r = main / r.res

-- the sheet has offsets as plain numbers; they count main mask pixels, and here alone they become places, so that none passes for a ratio
abbrev pub left_of : Record → MainPos
left_of r = record { 0 = r.x }

abbrev pub top_of : Record → MainPos
top_of r = record { 0 = r.y }

abbrev pub area_end : MainPos → ℕ → ℕ → MainPos
area_end o n q = record { 0 = o.0 + n * q }

unfoldable pub scale : ℕ → MainPos → MainPos → SamplePos
scale q o p = record { 0 = (p.0 - o.0) / q }

unfoldable pub covers : MainPos → ℕ → ℕ → MainPos → Bool
covers o n q p = leb o.0 p.0 && ltb p.0 (area_end o n q).0

unfoldable pub inside : ℕ → Record → MainPos → MainPos → Bool
unfolding covers
inside main r x y = covers (left_of r) r.width (ratio main r) x && covers (top_of r) r.height (ratio main r) y

-- the sample of a layer that a place of its area takes, along and down
abbrev pub along_of : ℕ → Record → MainPos → SamplePos
along_of main r x = scale (ratio main r) (left_of r) x

abbrev pub down_of : ℕ → Record → MainPos → SamplePos
down_of main r y = scale (ratio main r) (top_of r) y
