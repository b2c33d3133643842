-- When the start of page is refused, with which number and where (01, "Numbers that a call returns"): the fields in front stand there, and the next one is
-- cut short, or is there and is not as it must be. No step of the reading is in it.
use Rattle.std.specs.Prelude.{ℕ, ◌≤◌, ◌<◌, ◌≡◌, ◌≢◌, List, [], ◌∷◌, ◌++◌}
use Rattle.octets.specs.Octets.{octets16, octets32}
use Rattle.answers.specs.declared.Refusal.{Refusal}
use Rattle.answers.specs.declared.Refusal.TheVariants.{BadMark, BadLength, BadVersion, BadMode, BadCoder, BadRes, BadWidth}
use Rattle.field_rules.specs.Field.{one, two, four}
use Rattle.field_rules.specs.Fault.{BadMarked, BadNumbers, the}
use Rattle.sheet_rules.specs.Sentences.{Listed}
use Rattle.segment_rules.specs.declared.Version.{Version}
use Rattle.segment_rules.specs.declared.Rules.{Rules}
use Rattle.segment_rules.specs.Rules.{version_octet, mode_octet}
use Rattle.start_rules.specs.declared.Head.{Head}
use Rattle.start_rules.specs.Grammar.{mark_of, MaskCoder, ImageCoder, GoodHead}

-- the octets up to each field
abbrev pub up_to_mode : Version → List ℕ → List ℕ
up_to_mode v rest = mark_of ++ (version_octet v ∷ rest)

abbrev pub up_to_mask : Rules → List ℕ → List ℕ
up_to_mask r rest = up_to_mode r.version (mode_octet r.mode ∷ rest)

abbrev pub up_to_end : Head → List ℕ → List ℕ
up_to_end hd rest = up_to_mask hd.rules (hd.mask ∷ hd.image ∷ octets16 hd.main ++ (octets32 hd.width ++ rest))

pub data BadStart : List ℕ → Refusal → Type 0 where
  bad_soi : {l : List ℕ} {x : Refusal} → BadMarked (0xFF ∷ 0xD8 ∷ []) BadMark 0 l x → BadStart l x
  bad_marker : {x : Refusal} (rest : List ℕ) → BadMarked (0xFF ∷ 0xED ∷ []) BadMark 2 rest x → BadStart (0xFF ∷ 0xD8 ∷ rest) x
  bad_length : {x : Refusal} (rest : List ℕ) → BadNumbers (two ∷ []) (the (λ (size : ℕ). 6 ≤ size)) BadLength 4 rest x
      → BadStart (0xFF ∷ 0xD8 ∷ 0xFF ∷ 0xED ∷ rest) x
  bad_ident : {x : Refusal} (size : ℕ) (rest : List ℕ) → 6 ≤ size → size < 65536 → BadMarked (0x4D ∷ 0x52 ∷ 0x43 ∷ 0x00 ∷ []) BadMark 6 rest x
      → BadStart (0xFF ∷ 0xD8 ∷ 0xFF ∷ 0xED ∷ octets16 size ++ rest) x
  -- a length other than 16, judged behind the ident
  wrong_length : (size : ℕ) (rest : List ℕ) → 6 ≤ size → size < 65536 → size ≢ 16
      → BadStart (0xFF ∷ 0xD8 ∷ 0xFF ∷ 0xED ∷ octets16 size ++ (0x4D ∷ 0x52 ∷ 0x43 ∷ 0x00 ∷ rest)) (BadLength 4)
  bad_version : {x : Refusal} (rest : List ℕ) → BadNumbers (one ∷ []) (the (λ (v : ℕ). v ≡ 0)) BadVersion 10 rest x → BadStart (mark_of ++ rest) x
  bad_mode : {x : Refusal} (v : Version) (rest : List ℕ) → BadNumbers (one ∷ []) (the (λ (m : ℕ). m ≡ 1)) BadMode 11 rest x → BadStart (up_to_mode v rest) x
  bad_mask : {x : Refusal} (r : Rules) (rest : List ℕ) → BadNumbers (one ∷ []) (the (MaskCoder r.mode)) BadCoder 12 rest x → BadStart (up_to_mask r rest) x
  bad_image : {x : Refusal} (r : Rules) (mask : ℕ) (rest : List ℕ) → MaskCoder r.mode mask
      → BadNumbers (one ∷ []) (the (ImageCoder r.mode)) BadCoder 13 rest x → BadStart (up_to_mask r (mask ∷ rest)) x
  bad_main : {x : Refusal} (r : Rules) (mask image : ℕ) (rest : List ℕ) → MaskCoder r.mode mask → ImageCoder r.mode image
      → BadNumbers (two ∷ []) (the Listed) BadRes 14 rest x → BadStart (up_to_mask r (mask ∷ image ∷ rest)) x
  bad_width : {x : Refusal} (r : Rules) (mask image main : ℕ) (rest : List ℕ) → MaskCoder r.mode mask → ImageCoder r.mode image → Listed main
      → BadNumbers (four ∷ []) (the (λ (w : ℕ). (1 ≤ w) × (w ≤ 32768))) BadWidth 16 rest x → BadStart (up_to_mask r (mask ∷ image ∷ octets16 main ++ rest)) x
  bad_termination : {x : Refusal} (hd : Head) (rest : List ℕ) → GoodHead hd → BadMarked (0xFF ∷ 0xD9 ∷ []) BadMark 20 rest x → BadStart (up_to_end hd rest) x
