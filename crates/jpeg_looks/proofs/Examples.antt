-- How far the walk looked, by example.
-- Assumes nothing.
use mathlib.Core.Path.{◌≡◌, refl}
use mathlib.Core.List.{[], ◌∷◌, ◌++◌}
use Rattle.octets.specs.Octets.{be16_at, begins, stands_at}
use Rattle.jpeg_rules.specs.declared.Fault.TheVariants.{Short, BadLayer}
use Rattle.std.specs.Prelude.{Err}
use Rattle.jpeg_rules.specs.Marker.{class_of, marker_of}
use Rattle.jpeg_rules.specs.Walk.{seg_of, scan_of, tag_of, frame_body_of, frame_of, scan_step_of, segment_of, end_of, turn_of, walk_of}
use Rattle.jpeg_rules.proofs.Examples.{opening, tag200, frame, scan, fill}
use Rattle.jpeg_looks.proofs.Look.{mark_end, turn_look, walk_look}

-- a second FF D8 after scan data is decided by its own octets: FF 00 there would be data, without an end
pub walk_looks : (walk_of (opening ++ tag200 ++ frame ++ scan ++ opening) 0 400 ≡ Err (BadLayer 38))
    × (walk_look (opening ++ tag200 ++ frame ++ scan ++ opening) 0 400 ≡ 40)
    × (walk_of (opening ++ tag200 ++ frame ++ scan ++ (0xFF ∷ 0x00 ∷ [])) 0 400 ≡ Err (Short 31))
unfolding walk_of walk_look turn_of turn_look mark_end marker_of class_of seg_of scan_of tag_of frame_of frame_body_of scan_step_of segment_of end_of stands_at begins be16_at opening tag200 frame scan
walk_looks = (refl, refl, refl)

-- with fill before it, so much further
pub walk_looks_filled : (walk_of (opening ++ tag200 ++ frame ++ scan ++ fill ++ opening) 0 400 ≡ Err (BadLayer 38))
    × (walk_look (opening ++ tag200 ++ frame ++ scan ++ fill ++ opening) 0 400 ≡ 42)
unfolding walk_of walk_look turn_of turn_look mark_end marker_of class_of seg_of scan_of tag_of frame_of frame_body_of scan_step_of segment_of end_of stands_at begins be16_at opening tag200 frame scan fill
walk_looks_filled = (refl, refl)
