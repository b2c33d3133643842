-- The parts in which a page's beginning is put.
--
--   begin_with size ident   a segment's marker, length and ident
--   start_fields hd         the start of page behind its ident
use Rattle.std.specs.Prelude.{List, [], ◌∷◌, ◌++◌, ℕ}
use Rattle.octets.specs.Octets.{octets16, octets32}
use Rattle.segment_rules.specs.Rules.{version_octet, mode_octet}
use Rattle.start_rules.specs.declared.Head.{Head}

abbrev pub begin_with : ℕ → List ℕ → List ℕ
begin_with size ident = 0xFF ∷ 0xED ∷ octets16 size ++ ident

abbrev pub start_fields : Head → List ℕ
start_fields hd =
    version_octet hd.rules.version ∷ mode_octet hd.rules.mode ∷ hd.mask ∷ hd.image ∷ octets16 hd.main ++ (octets32 hd.width ++ (0xFF ∷ 0xD9 ∷ []))
