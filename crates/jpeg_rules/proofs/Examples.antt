-- Layers that the walk takes, so that the grammar is no empty one, and walks that it refuses, at their places.
-- Assumes nothing.
use Prim.Native.Nat.{ℕ}
use mathlib.Core.Path.{◌≡◌, refl}
use mathlib.Core.List.{List, [], ◌∷◌, ◌++◌}
use Rattle.octets.specs.Octets.{be16_at, begins, stands_at}
use Rattle.jpeg_rules.specs.declared.Fault.TheVariants.{Short, BadRes, BadLayer}
use Rattle.jpeg_rules.specs.declared.Said.{Said}
use Rattle.std.specs.Prelude.{Ok, Err}
use Rattle.jpeg_rules.specs.Marker.{class_of, marker_of}
use Rattle.jpeg_rules.specs.Walk.{seg_of, scan_of, tag_of, frame_body_of, frame_of, scan_step_of, segment_of, end_of, turn_of, walk_of}

-- the parts: the resolution's segment, the frame of 8 by 16, a scan with a stuffed FF and a restart marker, and the ends
unfoldable pub opening : List ℕ
opening = 0xFF ∷ 0xD8 ∷ []

unfoldable pub closing : List ℕ
closing = 0xFF ∷ 0xD9 ∷ []

-- 200 to the inch
unfoldable pub tag200 : List ℕ
tag200 = 0xFF ∷ 0xE1 ∷ 0x00 ∷ 0x0C ∷ 0x47 ∷ 0x33 ∷ 0x46 ∷ 0x41 ∷ 0x58 ∷ 0x00 ∷ 0x00 ∷ 0x01 ∷ 0x00 ∷ 0xC8 ∷ []

unfoldable pub tag300 : List ℕ
tag300 = 0xFF ∷ 0xE1 ∷ 0x00 ∷ 0x0C ∷ 0x47 ∷ 0x33 ∷ 0x46 ∷ 0x41 ∷ 0x58 ∷ 0x00 ∷ 0x00 ∷ 0x01 ∷ 0x01 ∷ 0x2C ∷ []

-- of so many lines and components
unfoldable pub counting : ℕ → ℕ → List ℕ
counting lines count = 0xFF ∷ 0xC0 ∷ 0x00 ∷ 0x08 ∷ 0x08 ∷ 0x00 ∷ lines ∷ 0x00 ∷ 0x08 ∷ count ∷ []

unfoldable pub frame : List ℕ
unfolding counting
frame = counting 0x10 1

unfoldable pub scan : List ℕ
scan = 0xFF ∷ 0xDA ∷ 0x00 ∷ 0x03 ∷ 0x00 ∷ 0x12 ∷ 0xFF ∷ 0x00 ∷ 0x34 ∷ 0xFF ∷ 0xD0 ∷ 0x56 ∷ []

unfoldable pub alone : List ℕ
alone = 0xFF ∷ 0x01 ∷ []

-- what that frame and that segment say
abbrev pub small : Said
small = record { width = 8; height = 16; res = 200; components = 1 }

-- two scans, a marker that stands alone, and octets after the layer, FF D9 FF D9 among them
pub walk_ends : walk_of (opening ++ tag200 ++ alone ++ frame ++ scan ++ tag300 ++ scan ++ closing ++ closing ++ closing) 0 400 ≡ Ok (68, small)
unfolding walk_of turn_of marker_of class_of seg_of scan_of tag_of frame_of frame_body_of scan_step_of segment_of end_of stands_at begins be16_at opening closing tag200 tag300 frame scan alone
walk_ends = refl

-- under 400, 300 is refused where it stands
pub walk_resolution : walk_of (opening ++ tag300 ++ frame ++ scan ++ closing) 0 400 ≡ Err (BadRes 14)
unfolding walk_of turn_of marker_of class_of seg_of scan_of tag_of frame_of frame_body_of scan_step_of segment_of end_of stands_at begins be16_at opening closing tag300 frame scan
walk_resolution = refl

-- a missing frame, scan and resolution at the marker where each was due; a second frame at its marker
pub walk_no_frame : walk_of (opening ++ tag200 ++ scan ++ closing) 0 400 ≡ Err (BadLayer 16)
unfolding walk_of turn_of marker_of class_of seg_of scan_of tag_of frame_of frame_body_of scan_step_of segment_of end_of stands_at begins be16_at opening closing tag200 scan
walk_no_frame = refl

pub walk_no_scan : walk_of (opening ++ tag200 ++ frame ++ closing) 0 400 ≡ Err (BadLayer 26)
unfolding walk_of turn_of marker_of class_of seg_of scan_of tag_of frame_of frame_body_of scan_step_of segment_of end_of stands_at begins be16_at opening closing tag200 frame
walk_no_scan = refl

pub walk_no_resolution : walk_of (opening ++ frame ++ tag200 ++ scan ++ closing) 0 400 ≡ Err (BadLayer 2)
unfolding walk_of turn_of marker_of class_of seg_of scan_of tag_of frame_of frame_body_of scan_step_of segment_of end_of stands_at begins be16_at opening closing tag200 frame scan
walk_no_resolution = refl

pub walk_two_frames : walk_of (opening ++ tag200 ++ frame ++ frame ++ scan ++ closing) 0 400 ≡ Err (BadLayer 26)
unfolding walk_of turn_of marker_of class_of seg_of scan_of tag_of frame_of frame_body_of scan_step_of segment_of end_of stands_at begins be16_at opening closing tag200 frame scan
walk_two_frames = refl

-- ---- fill

unfoldable pub fill : List ℕ
fill = 0xFF ∷ 0xFF ∷ []

-- before each marker but the first, a restart marker in scan data too: the end is so much later, and nothing else changes
pub walk_filled : walk_of (opening ++ fill ++ tag200 ++ fill ++ frame ++ fill ++ scan ++ fill ++ (0xFF ∷ 0xD3 ∷ 0x12 ∷ []) ++ fill ++ closing ++ closing) 0 400 ≡ Ok (53, small)
unfolding walk_of turn_of marker_of class_of seg_of scan_of tag_of frame_of frame_body_of scan_step_of segment_of end_of stands_at begins be16_at opening closing tag200 frame scan fill
walk_filled = refl

-- FF FF 00 in a scan and outside, at the first FF; fill before FF D8
pub walk_stuffed : (walk_of (opening ++ tag200 ++ frame ++ scan ++ (0xFF ∷ 0xFF ∷ 0x00 ∷ []) ++ closing) 0 400 ≡ Err (BadLayer 38))
    × (walk_of (opening ++ tag200 ++ (0xFF ∷ 0xFF ∷ 0x00 ∷ []) ++ frame ++ scan ++ closing) 0 400 ≡ Err (BadLayer 16))
    × (walk_of (0xFF ∷ opening ++ tag200 ++ frame ++ scan ++ closing) 0 400 ≡ Err (BadLayer 0))
unfolding walk_of turn_of marker_of class_of seg_of scan_of tag_of frame_of frame_body_of scan_step_of segment_of end_of stands_at begins be16_at opening closing tag200 frame scan
walk_stuffed = (refl, refl, refl)

-- a run that the list cuts: outside a scan at its first FF, in scan data at the data's first octet
pub walk_cut : (walk_of (opening ++ tag200 ++ fill) 0 400 ≡ Err (Short 16)) × (walk_of (opening ++ tag200 ++ frame ++ scan ++ fill) 0 400 ≡ Err (Short 31))
unfolding walk_of turn_of marker_of class_of seg_of scan_of tag_of frame_of frame_body_of scan_step_of segment_of end_of stands_at begins be16_at opening tag200 frame scan fill
walk_cut = (refl, refl)

-- ---- the count of components

-- three are taken, whatever the scan's header says; two and four are refused where the frame counts them, but a height of 0 comes before
pub walk_three : walk_of (opening ++ tag200 ++ counting 0x10 3 ++ (0xFF ∷ 0xDA ∷ 0x00 ∷ 0x03 ∷ 0x01 ∷ 0x12 ∷ []) ++ closing) 0 400
    ≡ Ok (34, record { width = 8; height = 16; res = 200; components = 3 })
unfolding walk_of turn_of marker_of class_of seg_of scan_of tag_of frame_of frame_body_of scan_step_of segment_of end_of stands_at begins be16_at opening closing tag200 counting
walk_three = refl

pub walk_miscounted : (walk_of (opening ++ tag200 ++ counting 0x10 2 ++ scan ++ closing) 0 400 ≡ Err (BadLayer 25))
    × (walk_of (opening ++ tag200 ++ counting 0x10 4 ++ scan ++ closing) 0 400 ≡ Err (BadLayer 25))
    × (walk_of (opening ++ tag200 ++ counting 0x10 0 ++ scan ++ closing) 0 400 ≡ Err (BadLayer 25))
    × (walk_of (opening ++ tag200 ++ counting 0x00 2 ++ scan ++ closing) 0 400 ≡ Err (BadLayer 21))
unfolding walk_of turn_of marker_of class_of seg_of scan_of tag_of frame_of frame_body_of scan_step_of segment_of end_of stands_at begins be16_at opening closing tag200 scan counting
walk_miscounted = (refl, refl, refl, refl)
