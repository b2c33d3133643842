-- A record and the octets of a buffer that it names (01, "The sheet"; "Numbers that a call returns", 16).
--
--   layer_octets d r        the octets of the buffer d that the record r names
--   ends_as x r        the walk x ends so
--   agrees d main r   an image layer's data agrees with its record: the walk of these octets, and of no other, ends at their end with the record's
--                     width, height, resolution and count of components, under a main resolution
use Rattle.std.specs.Prelude.{ℕ, Bool, false, ◌&&◌, List, take, drop, eqb, Result, Ok, Err}
use Rattle.sheet_rules.specs.declared.Record.{Record}
use Rattle.jpeg_rules.specs.declared.Fault.{Fault}
use Rattle.jpeg_rules.specs.declared.Said.{Said}
use Rattle.jpeg_rules.specs.Said.{record_said}
use Rattle.jpeg_rules.specs.Walk.{walk_of}

abbrev pub layer_octets : List ℕ → Record → List ℕ
layer_octets d r = take r.len (drop r.start d)

-- the walk begins at the first of them, so that it ends where as many were passed as the record has
abbrev pub ends_as : Result (ℕ × Said) Fault → Record → Bool
ends_as (Ok (next, said)) r =
    eqb next r.len && eqb said.width r.width && eqb said.height r.height && eqb said.res r.res
    && eqb said.components (record_said r).components
ends_as (Err f) r = false

unfoldable pub agrees : List ℕ → ℕ → Record → Bool
agrees d main r = ends_as (walk_of (layer_octets d r) 0 main) r
