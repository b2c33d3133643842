-- The line call as sentences: when each answer is given (01, "Numbers that a call returns": BadSheet, BadLine, BadPlane, NoRoom). What a line shows is
-- said in Demand.antt; how both are found, in the steps of Line.antt, comes last.
--
--   HasLine s k y       the sheet has a stripe k, and that a line y
--   scene_of s pl d k    stripe k of the sheet, the entries of the plane list, and the samples
--   layer_before ps i    the layer of the entry before entry i; 0 before the first
--   FineEntry v ps i    entry i: its layer is above the one before it, present and coded, and its samples lie within the buffer
--   PlaneAt v pl i      the entry at fault: the first that is not fine, or a part entry after fine ones
--   AllFine v pl        no entry is at fault
--   Gives .. room a     the call answers a, where the buffer holds so many octets
use Rattle.std.specs.Prelude.{ℕ, zero, suc, ◌+◌, ◌*◌, ◌≤◌, ◌<◌, ◌≡◌, ◌⊎◌, true, false, List, length, get_or, Ok, Err}
use Rattle.answers.specs.Answers.{Answer}
use Rattle.answers.specs.declared.Refusal.TheVariants.{NoRoom, BadSheet, BadPlane, BadLine}
use Rattle.sheet_rules.specs.Record.{records}
use Rattle.sheet_rules.specs.Sentences.{Coded, stripe_count, Accepted, BadSheetAt}
use Rattle.sheet_rules.specs.StripeTable.{extent_of}
use Rattle.pixel_rules.specs.declared.Plane.{Plane}
use Rattle.pixel_rules.specs.Planes.{PlaneList}
use Rattle.pixel_rules.specs.Samples.{Scene, record_of, width_of, plane_span}

pub record HasLine (s : List ℕ) (k y : ℕ) : Type 0 where
  pub stripe : k < stripe_count (records s)
  pub line : y < (extent_of k (records s)).height

abbrev pub scene_of : List ℕ → PlaneList → List ℕ → ℕ → Scene
scene_of s pl d k = record { sheet = s; extent = extent_of k (records s); planes = pl.entries; samples = d }

abbrev pub no_plane : Plane
no_plane = record { layer = 0; start = 0 }

abbrev pub plane : List Plane → ℕ → Plane
plane ps i = get_or ps i no_plane

abbrev pub layer_before : List Plane → ℕ → ℕ
layer_before ps zero = 0
layer_before ps (suc i) = (plane ps i).layer

pub record FineEntry (v : Scene) (ps : List Plane) (i : ℕ) : Type 0 where
  pub rises : layer_before ps i < (plane ps i).layer
  pub present : (plane ps i).layer ≤ v.extent.layers
  pub coded : Coded (record_of v (plane ps i).layer)
  pub within : (plane ps i).start + plane_span (record_of v (plane ps i).layer) ≤ length v.samples

pub record AllFine (v : Scene) (pl : PlaneList) : Type 0 where
  pub entries : (i : ℕ) → i < length pl.entries → FineEntry v pl.entries i
  pub whole : pl.part ≡ false

-- the first entry that is not fine
pub record PlaneBreaks (v : Scene) (ps : List Plane) (i : ℕ) : Type 0 where
  pub within : i < length ps
  pub before : (j : ℕ) → j < i → FineEntry v ps j
  pub broken : FineEntry v ps i → ⊥

-- all are fine, and a part entry follows
pub record PlaneStops (v : Scene) (pl : PlaneList) (i : ℕ) : Type 0 where
  pub due : i ≡ length pl.entries
  pub before : (j : ℕ) → j < length pl.entries → FineEntry v pl.entries j
  pub part : pl.part ≡ true

abbrev pub PlaneAt : Scene → PlaneList → ℕ → Type 0
PlaneAt v pl i = PlaneBreaks v pl.entries i ⊎ PlaneStops v pl i

-- ---- the answers, in the paper's order

-- one line for each answer that a line call gives; it gives no other
pub data Gives (s : List ℕ) (pl : PlaneList) (d : List ℕ) (k y room : ℕ) : Answer → Type 0 where
  no_sheet : {i : ℕ} → BadSheetAt s i → Gives s pl d k y room (Err (BadSheet i))
  no_line : Accepted s → (HasLine s k y → ⊥) → Gives s pl d k y room (Err BadLine)
  no_plane_lem : {i : ℕ} → Accepted s → HasLine s k y → PlaneAt (scene_of s pl d k) pl i → Gives s pl d k y room (Err (BadPlane i))
  no_room : Accepted s → HasLine s k y → AllFine (scene_of s pl d k) pl → room < width_of (scene_of s pl d k) * 4 → Gives s pl d k y room (Err NoRoom)
  lined : {n : ℕ} → Accepted s → HasLine s k y → AllFine (scene_of s pl d k) pl → n ≡ width_of (scene_of s pl d k) * 4 → n ≤ room
      → Gives s pl d k y room (Ok n)
