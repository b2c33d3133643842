-- How far reading looked at pages that are refused, and that one octet less would not do: with that octet changed, or gone, the answer is another.
-- Assumes nothing.
use Prim.Native.Nat.{ℕ}
use mathlib.Core.Path.{◌≡◌, refl}
use mathlib.Core.List.{List, [], ◌∷◌, ◌++◌}
use lib.ListN.{take}
use Rattle.octets.specs.Octets.{be16_at, be32_at, begins, stands_at, octets16, octets32}
use Rattle.answers.specs.declared.Refusal.TheVariants.{Short, BadMark, BadLength, BadLayer, Trailing}
use Rattle.field_rules.specs.Field.{no, fields}
use Rattle.jpeg_rules.specs.Marker.{class_of, marker_of}
use Rattle.jpeg_rules.specs.Walk.{seg_of, scan_of, tag_of, frame_body_of, frame_of, scan_step_of, segment_of, end_of, turn_of, walk_of}
use Rattle.jpeg_looks.proofs.Look.{turn_look, walk_look}
use Rattle.jpeg_rules.proofs.Examples as J
use Rattle.segment_rules.specs.Segment.{begin_of, open_table}
use Rattle.start_rules.specs.Coders.{mask_coder, image_coder}
use Rattle.start_rules.specs.Grammar.{start_of}
use Rattle.start_rules.specs.Reading.{start_table}
use Rattle.mode1_rules.specs.Kinds.{type_ok}
use Rattle.mode1_rules.specs.Grammar.{colour_of, fields_of}
use Rattle.mode1_rules.specs.Reading.{stripe_table}
use Rattle.page_rules.specs.Reading.{end_table, page_of}
use Rattle.page_looks.proofs.Hangs.{reach}
use Rattle.page_looks.proofs.Page.{page_look}
use Rattle.page_rules.proofs.Samples.{head, page, colours, typed, stripe_head}

-- a start of page of length 17: decided by the ident after the length, whose last octet is `ident`
pub long_start : ℕ → List ℕ
long_start ident = 0xFF ∷ 0xD8 ∷ 0xFF ∷ 0xED ∷ 0x00 ∷ 0x11 ∷ 0x4D ∷ 0x52 ∷ 0x43 ∷ ident ∷ 0x00 ∷ []

pub start_length : (page_of (long_start 0) ≡ no (BadLength 4)) × (page_look (long_start 0) ≡ 10) × (page_of (long_start 1) ≡ no (BadMark 6))
unfolding page_of page_look long_start start_table fields reach be16_at stands_at begins
start_length = (refl, refl, refl)

-- a stripe of length 38, likewise
pub long_stripe_lem : ℕ → List ℕ
long_stripe_lem ident = start_of head ++ (0xFF ∷ 0xED ∷ 0x00 ∷ 0x26 ∷ 0x4D ∷ 0x52 ∷ 0x43 ∷ ident ∷ 0x00 ∷ [])

pub stripe_length : (page_of (long_stripe_lem 1) ≡ no (BadLength 24)) × (page_look (long_stripe_lem 1) ≡ 30) × (page_of (long_stripe_lem 2) ≡ no (BadMark 26))
unfolding page_of page_look long_stripe_lem start_of octets16 octets32 start_table open_table fields reach mask_coder image_coder be16_at be32_at stands_at begins
stripe_length = (refl, refl, refl)

-- a frame of height 0: decided by the octets up to the end of its body, which ends the layer's first 26 octets
pub flat_frame : List ℕ
flat_frame = 0xFF ∷ 0xC0 ∷ 0x00 ∷ 0x08 ∷ 0x08 ∷ 0x00 ∷ 0x00 ∷ 0x00 ∷ 0x08 ∷ 0x01 ∷ []

pub flat_page : List ℕ
flat_page = start_of colours ++ (stripe_head (typed 1 0) ++ (J.opening ++ (J.tag200 ++ (flat_frame ++ J.closing))))

pub frame_body : (page_of flat_page ≡ no (BadLayer 82)) × (page_look flat_page ≡ 87) × (page_of (take 86 flat_page) ≡ no (Short 81))
unfolding page_of page_look flat_page flat_frame colours typed J.opening J.tag200 J.closing start_of begin_of fields_of colour_of octets16 octets32 start_table open_table stripe_table fields reach mask_coder image_coder type_ok be16_at be32_at stands_at begins walk_of walk_look turn_of turn_look marker_of class_of seg_of scan_of tag_of frame_of frame_body_of scan_step_of segment_of end_of
frame_body = (refl, refl, refl)

-- an octet that is not zero after the end
pub trailing_octet : (page_of (page ++ (0 ∷ 7 ∷ 7 ∷ [])) ≡ no (Trailing 71)) × (page_look (page ++ (0 ∷ 7 ∷ 7 ∷ [])) ≡ 72) × (page_of (page ++ (0 ∷ 0 ∷ 7 ∷ [])) ≡ no (Trailing 72))
unfolding page_of page_look page start_of begin_of fields_of colour_of octets16 octets32 start_table open_table stripe_table end_table fields reach mask_coder image_coder type_ok be16_at be32_at stands_at begins
trailing_octet = (refl, refl, refl)
