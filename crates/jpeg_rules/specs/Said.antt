-- What a JPEG layer says of itself, and what a record says of its layer (01, "The sheet").
--
--   grey_octet c     octet 17 of the record of a layer of c components: 1 for one, 0 for three (02, 2026-07)
--   record_said r    what a record says of its layer; it says nothing of other counts
use Rattle.std.specs.Prelude.{ℕ, cond, eqb}
use Rattle.sheet_rules.specs.declared.Record.{Record}
use Rattle.sheet_rules.specs.Record.{is_grey}
use Rattle.jpeg_rules.specs.declared.Said.{Said}

unfoldable pub grey_octet : ℕ → ℕ
grey_octet c = cond (eqb c 1) 1 0

abbrev pub record_said : Record → Said
record_said r = record { width = r.width; height = r.height; res = r.res; components = cond (is_grey r) 1 3 }
