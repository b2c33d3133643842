-- When a JPEG layer is refused, with which fault and where (01, "Where an image layer ends" and "Numbers that a call returns"; 02, 2026-03),
-- independent of the walk: FF D8 and pieces of the grammar stand there, and the marker that is due after them is cut short or breaks a rule. The
-- place is the first octet of the field at fault; a marker's is the first FF of its run.
--
--   Known            what is known where a marker is due: a frame came, a scan came, the resolution (0 where none is yet), the last piece is a scan
--   height_of, width_of, components_of, res_of   the numbers in the body of a frame and of a tagged segment
--   gives k c b      a segment gives the resolution: it is tagged, and none before it was
--   Resolves         a resolution that a layer may have
--   FrameDue k c     a frame may stand here
--   FrameLong b      a body long enough for a frame
--   May, past        a piece that may stand here, and what is known after it; `framing`: after the frame
--   Next             after scan data stands a run of FF and a code that is not data; after all else anything may
--   Endless          scan data with no next marker
--   Least k c n      a marker that may stand here has a length, of n at the least
--   BadLength        the length of a marker, or the size of its body, is at fault
--   BadMarker        the marker that is due is at fault, each way in which it can be
--   BadFrom          pieces that may stand there, and then such a marker
--   BadLayer         the layer is at fault
use Rattle.std.specs.Prelude.{ℕ, ◌+◌, ◌≤◌, ◌<◌, ◌≡◌, ◌≢◌, Bool, true, false, ◌&&◌, cond, List, ◌∷◌, ◌++◌, length, get_or, replicate, eqb}
use Rattle.std.specs.Int.{◌∣◌}
use Rattle.octets.specs.Octets.{be16_at, octets16}
use Rattle.sheet_rules.specs.Sentences.{Listed}
use Rattle.jpeg_rules.specs.declared.Fault.{Fault}
use Rattle.jpeg_rules.specs.Codes.{IsFrame, IsFault, HasLength}
use Rattle.jpeg_rules.specs.Grammar.{marker, DataRun, Data, Piece, alone, segment, scan, lengthed, octets_of, Fits, Good, tagged, Components}

-- ---- what may stand where a marker is due

pub record Known : Type 0 where
  pub framed : Bool
  pub scanned : Bool
  pub res : ℕ
  pub in_scan : Bool

-- after FF D8
abbrev pub nothing : Known
nothing = record { framed = false; scanned = false; res = 0; in_scan = false }

abbrev pub height_of : List ℕ → ℕ
height_of body = be16_at body 1

abbrev pub width_of : List ℕ → ℕ
width_of body = be16_at body 3

abbrev pub components_of : List ℕ → ℕ
components_of body = get_or body 5 0

abbrev pub res_of : List ℕ → ℕ
res_of body = be16_at body 8

-- the first such segment counts
abbrev pub gives : Known → ℕ → List ℕ → Bool
gives k c body = eqb k.res 0 && tagged c body

-- listed, and a divisor of the main one
abbrev pub Resolves : ℕ → ℕ → Type 0
Resolves main r = Listed r × (r ∣ main)

-- exactly one frame, and before it the resolution
pub record FrameDue (k : Known) (c : ℕ) : Type 0 where
  pub code : IsFrame c
  pub first : k.framed ≡ false
  pub resolved : k.res ≢ 0

-- its length at least 8
abbrev pub FrameLong : List ℕ → Type 0
FrameLong body = Fits body × (8 ≤ length body + 2)

-- a scan comes after the frame
unfoldable pub May : ℕ → Known → Piece → Type 0
May main k (alone fill) = Unit {0}
May main k (segment fill c body) = gives k c body ≡ true → Resolves main (res_of body)
May main k (scan fill header scanned) = k.framed ≡ true

unfoldable pub past : Known → Piece → Known
past k (alone fill) = record { framed = k.framed; scanned = k.scanned; res = k.res; in_scan = false }
past k (segment fill c body) =
    record { framed = k.framed; scanned = k.scanned; res = cond (gives k c body) (res_of body) k.res; in_scan = false }
past k (scan fill header scanned) = record { framed = k.framed; scanned = true; res = k.res; in_scan = true }

abbrev pub framing : Known → Known
framing k = record { framed = true; scanned = k.scanned; res = k.res; in_scan = false }

-- a run with a code other than D0 to D7 is the next marker, but for FF 00
pub data Next : Bool → List ℕ → Type 0 where
  any : {l : List ℕ} → Next false l
  no_data : (fill c : ℕ) (r : List ℕ) → c ≢ 0xFF → (DataRun fill c → ⊥) → Next true (marker fill c ++ r)

-- ---- a marker at fault

-- data to the end, with or without a run that the end cuts
pub data Endless : List ℕ → Type 0 where
  all_data : {d : List ℕ} → Data d → Endless d
  in_run : {d : List ℕ} (fill : ℕ) → Data d → Endless (d ++ (0xFF ∷ replicate fill 0xFF))

pub data Least (k : Known) : ℕ → ℕ → Type 0 where
  of_segment : {c : ℕ} → HasLength c → Least k c 2
  of_scan : k.framed ≡ true → Least k 0xDA 2
  of_frame : {c : ℕ} → FrameDue k c → Least k c 8

-- the length stands at n: it does not fit, it is below the least, or the body after it passes the end, and is not judged
pub data BadLength (least n : ℕ) : List ℕ → Fault → Type 0 where
  cut_length : {r : List ℕ} → length r < 2 → BadLength least n r (Fault.Short n)
  small : (v : ℕ) (r : List ℕ) → v < 65536 → v < least → BadLength least n (octets16 v ++ r) (Fault.BadLength n)
  cut_body : (v : ℕ) (r : List ℕ) → v < 65536 → least ≤ v → length r + 2 < v → BadLength least n (octets16 v ++ r) (Fault.Short (n + 2))

-- the marker is due at p; with fill its length stands at p + fill + 2, its body at p + fill + 4. Its own rule comes before its length, the length
-- before a body that passes the end, and that before what stands in the body
pub data BadMarker (main : ℕ) (k : Known) (p : ℕ) : List ℕ → Fault → Type 0 where
  -- a marker is a run of FF and a code that is not FF
  cut : {l : List ℕ} → length l < 2 → BadMarker main k p l (Fault.Short p)
  cut_run : (fill : ℕ) → BadMarker main k p (0xFF ∷ replicate fill 0xFF) (Fault.Short p)
  no_marker : (x y : ℕ) (r : List ℕ) → x ≢ 0xFF → BadMarker main k p (x ∷ y ∷ r) (Fault.BadLayer p)
  -- D0 to D7 and a second D8, 00 and 02 to BF
  wrong_code : (fill c : ℕ) (r : List ℕ) → c ≢ 0xFF → IsFault c → BadMarker main k p (marker fill c ++ r) (Fault.BadLayer p)
  -- exactly one frame; a missing frame, scan or resolution is faulted at the marker where it was due
  second_frame : (fill c : ℕ) (r : List ℕ) → IsFrame c → k.framed ≡ true → BadMarker main k p (marker fill c ++ r) (Fault.BadLayer p)
  no_resolution : (fill c : ℕ) (r : List ℕ) → IsFrame c → k.framed ≡ false → k.res ≡ 0
      → BadMarker main k p (marker fill c ++ r) (Fault.BadLayer p)
  no_frame : (fill : ℕ) (r : List ℕ) → k.framed ≡ false → BadMarker main k p (marker fill 0xDA ++ r) (Fault.BadLayer p)
  no_scan : (fill : ℕ) (r : List ℕ) → k.scanned ≡ false → BadMarker main k p (marker fill 0xD9 ++ r) (Fault.BadLayer p)
  -- the length, or a body that passes the end
  bad_length : {f : Fault} (fill c least : ℕ) (r : List ℕ) → Least k c least → BadLength least (p + fill + 2) r f
      → BadMarker main k p (marker fill c ++ r) f
  -- a frame's height, 5 octets after the last FF, and then its width, 7 after it, are not 0
  no_height : (fill c : ℕ) (body r : List ℕ) → FrameDue k c → FrameLong body → height_of body ≡ 0
      → BadMarker main k p (lengthed fill c body ++ r) (Fault.BadLayer (p + fill + 5))
  no_width : (fill c : ℕ) (body r : List ℕ) → FrameDue k c → FrameLong body → height_of body ≢ 0 → width_of body ≡ 0
      → BadMarker main k p (lengthed fill c body ++ r) (Fault.BadLayer (p + fill + 7))
  -- its components, counted 9 octets after the last FF, are one or three
  bad_components : (fill c : ℕ) (body r : List ℕ) → FrameDue k c → FrameLong body → height_of body ≢ 0 → width_of body ≢ 0
      → (Components (components_of body) → ⊥) → BadMarker main k p (lengthed fill c body ++ r) (Fault.BadLayer (p + fill + 9))
  -- a resolution, 12 octets after the last FF, that is not listed or no divisor
  bad_resolution : (fill c : ℕ) (body r : List ℕ) → Good (segment fill c body) → gives k c body ≡ true → (Resolves main (res_of body) → ⊥)
      → BadMarker main k p (lengthed fill c body ++ r) (Fault.BadRes (p + fill + 12))
  -- scan data with no next marker, at its first octet
  endless : (fill : ℕ) (header r : List ℕ) → Fits header → k.framed ≡ true → Endless r
      → BadMarker main k p (lengthed fill 0xDA header ++ r) (Fault.Short (p + fill + 4 + length header))

-- ---- the layer

pub data BadFrom (main : ℕ) : Known → ℕ → List ℕ → Fault → Type 0 where
  here : {k : Known} {p : ℕ} {l : List ℕ} {f : Fault} → Next k.in_scan l → BadMarker main k p l f → BadFrom main k p l f
  past_piece : {k : Known} {p : ℕ} {f : Fault} (q : Piece) (l : List ℕ) → Good q → May main k q
      → BadFrom main (past k q) (p + length (octets_of q)) l f → BadFrom main k p (octets_of q ++ l) f
  past_frame : {k : Known} {p : ℕ} {f : Fault} (fill c : ℕ) (body l : List ℕ) → FrameDue k c → FrameLong body → height_of body ≢ 0
      → width_of body ≢ 0 → Components (components_of body) → BadFrom main (framing k) (p + length (lengthed fill c body)) l f → BadFrom main k p (lengthed fill c body ++ l) f

-- the layer begins at `at`, with FF D8 and no fill before it
pub data BadLayer (main at : ℕ) : List ℕ → Fault → Type 0 where
  cut_start : {l : List ℕ} → length l < 2 → BadLayer main at l (Fault.Short at)
  no_start : (x y : ℕ) (r : List ℕ) → ((x ≡ 0xFF) × (y ≡ 0xD8) → ⊥) → BadLayer main at (x ∷ y ∷ r) (Fault.BadLayer at)
  started : {f : Fault} (l : List ℕ) → BadFrom main nothing (at + 2) l f → BadLayer main at (0xFF ∷ 0xD8 ∷ l) f
