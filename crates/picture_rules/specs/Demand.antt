-- Demand 3, as a statement about octets: what a line says of each pixel, without a word about how it is found.
--
--   four_at l x         the octets 4x to 4x + 3
--   seen_in c           the colour, and 1 for seen
--   unseen_in u         the unseen colour, and 0
--   at x               the place x along a line, or down a stripe
--   Tells u v y x four   the four octets are what is seen of pixel x of line y: a colour if every possible content gives it, and else none
--   Shown ..           what a call that answers Ok n was lent, and what it leaves: each pixel of the line, and the octets past it
--   Reread v w         all that was read in v was read in w, the same
--   AllRead v          every coded layer of the stripe was read
use Rattle.std.specs.Prelude.{ℕ, ◌+◌, ◌*◌, ◌<◌, ◌≤◌, ◌≡◌, ◌↔◌, ◌⊎◌, length, get_or, take, drop}
use mathlib.Core.List.{List, [], ◌∷◌, Memᴰ}
use Rattle.sheet_rules.specs.Sentences.{Coded}
use Rattle.pixel_rules.specs.declared.MainPos.{MainPos}
use Rattle.sheet_rules.specs.declared.Colour.{Colour}
use Rattle.pixel_rules.specs.declared.Plane.{Plane}
use Rattle.pixel_rules.specs.Planes.{PlaneList}
use Rattle.pixel_rules.specs.Samples.{Scene, record_of, width_of, plane_span}
use Rattle.pixel_rules.specs.Content.{SeenAs}
use Rattle.picture_rules.specs.Sentences.{HasLine, scene_of, AllFine}
use Rattle.sheet_rules.specs.Sentences.{Accepted}

abbrev pub four_at : List ℕ → ℕ → List ℕ
four_at l x = take 4 (drop (x * 4) l)

abbrev pub seen_in : Colour → List ℕ
seen_in c = c.c0 ∷ c.c1 ∷ c.c2 ∷ 1 ∷ []

abbrev pub unseen_in : Colour → List ℕ
unseen_in u = u.c0 ∷ u.c1 ∷ u.c2 ∷ 0 ∷ []

abbrev pub at : ℕ → MainPos
at x = record { 0 = x }

pub record Tells (u : Colour) (v : Scene) (y x : ℕ) (four : List ℕ) : Type 0 where
  -- c and 1, exactly if every possible content gives c
  pub seen : (c : Colour) → four ≡ seen_in c ↔ SeenAs v (at x) (at y) c
  -- u and 0, exactly if no colour is given by all of them
  pub unseen : four ≡ unseen_in u ↔ ((c : Colour) → SeenAs v (at x) (at y) c → ⊥)
  -- and there is no third
  pub either : ((c : Colour) × (four ≡ seen_in c)) ⊎ (four ≡ unseen_in u)

-- the call answered Ok n; the buffer was `out` and is `e`
pub record Shown (s : List ℕ) (pl : PlaneList) (d : List ℕ) (k y : ℕ) (u : Colour) (out e : List ℕ) (n : ℕ) : Type 0 where
  -- a sheet with this line, and a plane list without fault
  pub accepted : Accepted s
  pub line : HasLine s k y
  pub listed : AllFine (scene_of s pl d k) pl
  -- four octets a pixel, and they fit
  pub size : n ≡ width_of (scene_of s pl d k) * 4
  pub room : n ≤ length out
  -- each pixel of the line, in stripe k of this sheet with these entries and samples
  pub pixels : (x : ℕ) → x < width_of (scene_of s pl d k) → Tells u (scene_of s pl d k) y x (four_at e x)
  -- the octets past the line stay
  pub past : drop n e ≡ drop n out
  pub same : length e ≡ length out

-- ---- more that was read

-- each entry of the first list has one of the same layer in the second, with the same samples
abbrev pub Reread : Scene → Scene → Type 0
Reread v w =
    (p : Plane) → Memᴰ p v.planes
    → (q : Plane) × Memᴰ q w.planes × (q.layer ≡ p.layer)
    × ((i : ℕ) → i < plane_span (record_of v p.layer) → get_or w.samples (q.start + i) 0 ≡ get_or v.samples (p.start + i) 0)

-- each coded layer of the stripe is listed
abbrev pub AllRead : Scene → Type 0
AllRead v =
    (l : ℕ) → 1 ≤ l → l ≤ v.extent.layers → Coded (record_of v l) → (p : Plane) × Memᴰ p v.planes × (p.layer ≡ l)
