-- Layers that the frozen walk takes, so that `conservative` speaks of some, and layers with fill that only the walk of today takes.
-- Assumes nothing.
use mathlib.Core.Path.{◌≡◌, refl}
use mathlib.Core.List.{[], ◌∷◌, ◌++◌}
use Rattle.octets.specs.Octets.{be16_at, begins, stands_at}
use Rattle.jpeg_rules.specs.declared.Fault.TheVariants.{BadLayer}
use Rattle.std.specs.Prelude.{Ok, Err}
use Rattle.jpeg_rules.specs.Marker.{class_of, marker_of}
use Rattle.jpeg_rules.specs.Walk.{seg_of, scan_of, tag_of, frame_body_of, frame_of, scan_step_of, segment_of, end_of, turn_of, walk_of}
use Rattle.jpeg_rules.proofs.Examples.{opening, closing, tag200, tag300, frame, scan, alone, fill, small}
use Rattle.jpeg_padding.specs.Frozen.{frozen_class_of, frozen_marker_of, frozen_seg_of, frozen_scan_of, frozen_tag_of, any_count, frozen_frame_body_of, frozen_frame_of, frozen_scan_step_of, frozen_segment_of, frozen_end_of, frozen_turn_of, frozen_walk_of}

-- two scans, a marker that stands alone, and octets after the layer, FF D9 FF D9 among them
pub frozen_ends : frozen_walk_of any_count (opening ++ tag200 ++ alone ++ frame ++ scan ++ tag300 ++ scan ++ closing ++ closing ++ closing) 0 400 ≡ Ok (68, small)
unfolding frozen_walk_of frozen_turn_of frozen_marker_of frozen_class_of frozen_seg_of frozen_scan_of frozen_tag_of frozen_frame_of frozen_frame_body_of frozen_scan_step_of frozen_segment_of frozen_end_of stands_at begins be16_at opening closing tag200 tag300 frame scan alone
frozen_ends = refl

-- fill before the first marker after FF D8
pub frozen_filled : (frozen_walk_of any_count (opening ++ fill ++ tag200 ++ frame ++ scan ++ closing) 0 400 ≡ Err (BadLayer 2))
    × (walk_of (opening ++ fill ++ tag200 ++ frame ++ scan ++ closing) 0 400 ≡ Ok (42, small))
unfolding frozen_walk_of frozen_turn_of frozen_marker_of frozen_class_of walk_of turn_of marker_of class_of seg_of scan_of tag_of frame_of frame_body_of scan_step_of segment_of end_of stands_at begins be16_at opening closing tag200 frame scan fill
frozen_filled = (refl, refl)

-- fill before a restart marker in scan data
pub frozen_restart : (frozen_walk_of any_count (opening ++ tag200 ++ frame ++ scan ++ fill ++ (0xFF ∷ 0xD3 ∷ 0x12 ∷ []) ++ closing) 0 400 ≡ Err (BadLayer 38))
    × (walk_of (opening ++ tag200 ++ frame ++ scan ++ fill ++ (0xFF ∷ 0xD3 ∷ 0x12 ∷ []) ++ closing) 0 400 ≡ Ok (45, small))
unfolding frozen_walk_of frozen_turn_of frozen_marker_of frozen_class_of frozen_seg_of frozen_scan_of frozen_tag_of frozen_frame_of frozen_frame_body_of frozen_scan_step_of frozen_segment_of walk_of turn_of marker_of class_of seg_of scan_of tag_of frame_of frame_body_of scan_step_of segment_of end_of stands_at begins be16_at opening closing tag200 frame scan fill
frozen_restart = (refl, refl)
