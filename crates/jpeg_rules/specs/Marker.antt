-- The class of a marker, by its code, and the marker at a place (01, "Where an image layer ends"; 02, 2026-03; T.81 B.1.1.2 and B.1.1.3).
--
--   codes           the classes of the codes, range by range
--   class_of c       what a code makes of a marker
--   marker_of s at   what stands at a place where a marker is due: a run of FF and a code
use Rattle.std.specs.Prelude.{ℕ, ◌+◌, cond, List, [], ◌∷◌, length, get_or, drop, ltb, eqb}
use Rattle.laws.specs.Tests.{within}
use Rattle.jpeg_rules.specs.declared.Class.{Class}
use Rattle.jpeg_rules.specs.declared.Class.TheVariants.{Alone, Frame, Scan, End, Wrong, Segment}
use Rattle.jpeg_rules.specs.declared.Marker.{Marker}
use Rattle.jpeg_rules.specs.declared.Marker.TheVariants.{Code, Missing, Cut}

-- a row: its first code, its last, and their class
pub data Row : Type 0 where
  row : ℕ → ℕ → Class → Row

-- T.81 table B.1 as 01 restricts it, in the order of the codes
unfoldable pub codes : List Row
codes =
    -- 00 in scan data, TEM, reserved
    row 0x00 0x00 Wrong
    ∷ row 0x01 0x01 Alone
    ∷ row 0x02 0xBF Wrong
    -- SOF0 to SOF15, among them DHT, JPG and DAC
    ∷ row 0xC0 0xC3 Frame
    ∷ row 0xC4 0xC4 Segment
    ∷ row 0xC5 0xC7 Frame
    ∷ row 0xC8 0xC8 Segment
    ∷ row 0xC9 0xCB Frame
    ∷ row 0xCC 0xCC Segment
    ∷ row 0xCD 0xCF Frame
    -- RST0 to RST7, SOI, EOI, SOS
    ∷ row 0xD0 0xD7 Wrong
    ∷ row 0xD8 0xD8 Wrong
    ∷ row 0xD9 0xD9 End
    ∷ row 0xDA 0xDA Scan
    -- DQT to COM, fill
    ∷ row 0xDB 0xFE Segment
    ∷ row 0xFF 0xFF Wrong
    ∷ []

-- the first row that a code lies in; what is no octet lies in none
unfoldable pub class_in : List Row → ℕ → Class
class_in [] c = Segment
class_in (row low high class ∷ rows) c = cond (within low high c) class (class_in rows c)

unfoldable pub class_of : ℕ → Class
unfolding codes class_in
class_of c = class_in codes c

-- octets from i on, after an FF: more FF are fill, and the first other octet is the code, unless the list ends before it
unfoldable pub code_from : List ℕ → ℕ → Marker
code_from [] i = Cut
code_from (x ∷ l) i = cond (eqb x 0xFF) (code_from l (i + 1)) (Code x (i + 1))

unfoldable pub marker_of : List ℕ → ℕ → Marker
unfolding code_from
marker_of s at =
    cond (ltb (length s) (at + 2)) Cut
    (cond (eqb (get_or s at 0) 0xFF) (code_from (drop (at + 1) s) (at + 1)) Missing)
