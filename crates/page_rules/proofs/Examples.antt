-- Pages that are read, and pages that are refused at their places.
-- Assumes nothing.
use Rattle.std.specs.Prelude.{Ok, Err}
use Prim.Native.Nat.{ℕ, ◌+◌}
use mathlib.Core.Path.{◌≡◌, refl}
use mathlib.Core.List.{List, [], ◌∷◌, ◌++◌}
use lib.ListN.{length}
use Rattle.octets.specs.Octets.{be16_at, be32_at, begins, stands_at, octets16, octets32}
use Rattle.answers.specs.declared.Refusal.TheVariants.{BadStripe, Trailing, NoRoom}
use Rattle.field_rules.specs.Field.{fields}
use Rattle.jpeg_rules.specs.Marker.{class_of, marker_of}
use Rattle.jpeg_rules.specs.Walk.{seg_of, scan_of, tag_of, frame_body_of, frame_of, scan_step_of, segment_of, end_of, turn_of, walk_of}
use Rattle.jpeg_rules.proofs.Examples as J
use Rattle.segment_rules.specs.Segment.{begin_of, open_table}
use Rattle.body_rules.specs.Body.{end_mark}
use Rattle.start_rules.specs.Coders.{mask_coder, image_coder}
use Rattle.start_rules.specs.Grammar.{start_of}
use Rattle.start_rules.specs.Reading.{start_table}
use Rattle.mode1_rules.specs.Kinds.{type_ok}
use Rattle.mode1_rules.specs.Grammar.{colour_of, fields_of}
use Rattle.mode1_rules.specs.Reading.{stripe_table}
use Rattle.page_rules.specs.Reading.{end_table, read_of}
use Rattle.page_rules.proofs.Samples.{head, coded_mask, stripe_head, page, colours, typed}

-- an optional segment
unfoldable pub optional_of : ℕ → List ℕ → List ℕ
unfolding begin_of
optional_of n body = begin_of n (length body + 6) ++ body

pub read : read_of page 84 ≡ Ok 3
unfolding read_of page start_of begin_of fields_of colour_of octets16 octets32 start_table open_table stripe_table end_table fields mask_coder image_coder type_ok be16_at be32_at stands_at begins
read = refl

pub no_room : read_of page 83 ≡ Err NoRoom
unfolding read_of page start_of begin_of fields_of colour_of octets16 octets32 start_table open_table stripe_table end_table fields mask_coder image_coder type_ok be16_at be32_at stands_at begins
no_room = refl

pub padded : read_of (page ++ (0 ∷ 0 ∷ [])) 84 ≡ Ok 3
unfolding read_of page start_of begin_of fields_of colour_of octets16 octets32 start_table open_table stripe_table end_table fields mask_coder image_coder type_ok be16_at be32_at stands_at begins
padded = refl

pub trailing : read_of (page ++ (0 ∷ 7 ∷ [])) 84 ≡ Err (Trailing 71)
unfolding read_of page start_of begin_of fields_of colour_of octets16 octets32 start_table open_table stripe_table end_table fields mask_coder image_coder type_ok be16_at be32_at stands_at begins
trailing = refl

pub no_stripe : read_of (start_of head ++ (optional_of 10 (1 ∷ 2 ∷ []) ++ (end_mark ++ end_mark))) 84 ≡ Err (BadStripe 32)
unfolding read_of start_of optional_of octets16 octets32 start_table open_table end_table fields mask_coder image_coder be16_at be32_at stands_at begins
no_stripe = refl

-- ---- a page of each of the six types, and of two different stripes

-- a JPEG layer of 8 by 16 samples at 200, whose own FF D9 stands before the page's end
unfoldable pub picture : List ℕ
unfolding J.opening J.tag200 J.frame J.scan J.closing
picture = J.opening ++ (J.tag200 ++ (J.frame ++ (J.scan ++ J.closing)))

pub back_only : List ℕ
unfolding typed picture
back_only = stripe_head (typed 1 0) ++ picture

pub mask_only : List ℕ
unfolding typed
mask_only = stripe_head (typed 2 5) ++ coded_mask

pub mask_back : List ℕ
unfolding typed picture
mask_back = stripe_head (typed 3 5) ++ (coded_mask ++ picture)

pub fore_only : List ℕ
unfolding typed picture
fore_only = stripe_head (typed 4 0) ++ picture

pub mask_fore : List ℕ
unfolding typed picture
mask_fore = stripe_head (typed 6 5) ++ (coded_mask ++ picture)

pub all_three : List ℕ
unfolding typed picture
all_three = stripe_head (typed 7 5) ++ (coded_mask ++ (picture ++ picture))

-- the sheets' sizes, with an optional segment before and zeros after
pub six_types : (read_of (start_of colours ++ (back_only ++ (end_mark ++ end_mark))) 84 ≡ Ok 3)
    × (read_of (start_of colours ++ (mask_only ++ (end_mark ++ end_mark))) 84 ≡ Ok 3)
    × (read_of (start_of colours ++ (mask_back ++ (end_mark ++ end_mark))) 84 ≡ Ok 3)
    × (read_of (start_of colours ++ (fore_only ++ (end_mark ++ end_mark))) 84 ≡ Ok 3)
    × (read_of (start_of colours ++ (mask_fore ++ (end_mark ++ end_mark))) 84 ≡ Ok 3)
    × (read_of (start_of colours ++ (optional_of 3 (7 ∷ []) ++ (all_three ++ (mask_only ++ (end_mark ++ (end_mark ++ (0 ∷ []))))))) 168 ≡ Ok 6)
unfolding read_of colours back_only mask_only mask_back fore_only mask_fore all_three typed start_of begin_of fields_of colour_of optional_of octets16 octets32 start_table open_table stripe_table end_table fields mask_coder image_coder type_ok be16_at be32_at stands_at begins walk_of turn_of marker_of class_of seg_of scan_of tag_of frame_of frame_body_of scan_step_of segment_of end_of
six_types = (refl, refl, refl, refl, refl, refl)
