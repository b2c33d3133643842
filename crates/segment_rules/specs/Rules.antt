-- The rules in force on a page: the version and the mode that its start names (9.2.1). What differs between them is defined by cases on these.
--
--   mode1                      version 00, Mode 1: the only rules that are taken for now
--   version_octet, mode_octet    the octets that name them
--   most_layers                 how many layers a stripe of the mode has at the most
--   longest_page                the octets of the longest page that is read or written
use Rattle.std.specs.Prelude.{ℕ}
use Rattle.segment_rules.specs.declared.Version.{Version}
use Rattle.segment_rules.specs.declared.Version.TheVariants.{Base}
use Rattle.segment_rules.specs.declared.Mode.{Mode}
use Rattle.segment_rules.specs.declared.Mode.TheVariants.{One}
use Rattle.segment_rules.specs.declared.Rules.{Rules}

abbrev pub mode1 : Rules
mode1 = record { version = Base; mode = One }

abbrev pub version_octet : Version → ℕ
version_octet Base = 0

abbrev pub mode_octet : Mode → ℕ
mode_octet One = 1

abbrev pub most_layers : Mode → ℕ
most_layers One = 3

abbrev pub longest_page : ℕ
longest_page = 16777215
