-- The start of page by concatenation, to be read beside 9.2.1 and 9.2.3 of T.44: FF D8, the start of page segment of length 16, and the termination number
-- FF D9. It is the same in every version and mode; which coder octets may be named hangs on the mode.
--
--   mark_of               FF D8, the marker, length 16 and the ident
--   start_of hd           the whole
--   MaskCoder, ImageCoder, GoodHead   what may be said there
--   Start l hd           the octets l are a start of page that says hd
use Rattle.std.specs.Prelude.{ℕ, ◌≤◌, ◌≡◌, ◌⊎◌, List, [], ◌∷◌, ◌++◌}
use Rattle.octets.specs.Octets.{octets16, octets32}
use Rattle.sheet_rules.specs.Sentences.{Listed}
use Rattle.segment_rules.specs.declared.Mode.{Mode}
use Rattle.segment_rules.specs.declared.Mode.TheVariants.{One}
use Rattle.segment_rules.specs.Rules.{version_octet, mode_octet}
use Rattle.start_rules.specs.declared.Head.{Head}

abbrev pub mark_of : List ℕ
mark_of = 0xFF ∷ 0xD8 ∷ 0xFF ∷ 0xED ∷ 0x00 ∷ 0x10 ∷ 0x4D ∷ 0x52 ∷ 0x43 ∷ 0x00 ∷ []

unfoldable pub start_of : Head → List ℕ
start_of hd =
    mark_of
    ++ (version_octet hd.rules.version ∷ mode_octet hd.rules.mode ∷ hd.mask ∷ hd.image
    ∷ octets16 hd.main ++ (octets32 hd.width ++ (0xFF ∷ 0xD9 ∷ [])))

-- of Mode 1: one coder or none
abbrev pub MaskCoder : Mode → ℕ → Type 0
MaskCoder One c = (c ≡ 0) ⊎ (c ≡ 1) ⊎ (c ≡ 2) ⊎ (c ≡ 4) ⊎ (c ≡ 8)

abbrev pub ImageCoder : Mode → ℕ → Type 0
ImageCoder One c = (c ≡ 0) ⊎ (c ≡ 1)

pub record GoodHead (hd : Head) : Type 0 where
  pub mask : MaskCoder hd.rules.mode hd.mask
  pub image : ImageCoder hd.rules.mode hd.image
  pub main : Listed hd.main
  pub width : (1 ≤ hd.width) × (hd.width ≤ 32768)

pub data Start : List ℕ → Head → Type 0 where
  start : (hd : Head) → GoodHead hd → Start (start_of hd) hd
