-- What is known of records that are written under a start of page.
-- Assumes nothing.
use Prim.Native.Nat.{ℕ, ◌≤◌, ◌<◌}
use mathlib.Core.Path.{◌≡◌}
use mathlib.Core.Logic.{◌≢◌}
use mathlib.Core.List.{List}
use lib.ListN.{length}
use Rattle.segment_rules.specs.declared.Mode.{Mode}
use Rattle.sheet_rules.specs.declared.Record.{Record}
use Rattle.sheet_rules.specs.Record.{nth}
use Rattle.sheet_rules.specs.Sentences.{Among, Coded, Sheet}
use Rattle.jpeg_rules.specs.Said.{record_said}
use Rattle.jpeg_rules.specs.Grammar.{Layer}
use Rattle.start_rules.specs.declared.Head.{Head}
use Rattle.write_rules.specs.Layer.{layer_octets}
use Rattle.write_rules.specs.Sentences.{Low}

-- the numbers of a record that a stripe's fields hold
pub record Sized (r : Record) : Type 0 where
  pub base : (r.base0 < 256) × (r.base1 < 256) × (r.base2 < 256)
  pub offset : (r.x ≤ 65535) × (r.y ≤ 65535)
  pub len : r.len < 4294967296

-- a sheet's records, no layer above those of the mode, and a start that names the mode and says their main resolution and width
pub record Under (mode : Mode) (hd : Head) (rs : List Record) : Type 0 where
  pub named : hd.rules.mode ≡ mode
  pub sheet : Sheet rs
  pub low : Low mode rs
  pub main : hd.main ≡ (nth rs 1).res
  pub width : hd.width ≡ (nth rs 1).width

-- what the start says of their coders, and what is known of their data in the buffer d
pub record Ready (d : List ℕ) (hd : Head) (rs : List Record) : Type 0 where
  pub sized : (r : Record) → Among r rs → Sized r
  pub long : (r : Record) → Among r rs → length (layer_octets d r) ≡ r.len
  pub layer : (r : Record) → Among r rs → Coded r → r.layer ≢ 2 → Layer hd.main (layer_octets d r) (record_said r)
  pub mask : (r : Record) → Among r rs → Coded r → r.layer ≡ 2 → hd.mask ≡ r.coder
  pub image : (r : Record) → Among r rs → Coded r → r.layer ≢ 2 → hd.image ≡ 1
