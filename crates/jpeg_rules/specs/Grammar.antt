-- A JPEG layer by concatenation (01, "Where an image layer ends"; 02, 2026-03), independent of the walk.
--
--   marker f c      a marker: FF, f more of them as fill, and a code
--   Data d          scan data: no FF in it but FF 00 and markers D0 to D7, with fill or without
--   Piece           what stands between FF D8 and the end apart from the frame: a marker that stands alone, a segment with its body, or a scan
--                   with its header and its data; each with its marker's fill
--   lengthed f c b  a marker, a length that counts itself and the body, and the body
--   resolution ps   the resolution that the first tagged segment gives, 0 where none is
--   said_by b r      what a layer says of itself, by its frame's body and its resolution
--   Layer ..        FF D8, pieces without a scan, the frame, pieces with a scan, the marker D9
use Rattle.std.specs.Prelude.{ℕ, ◌+◌, ◌≤◌, ◌<◌, ◌≡◌, ◌⊎◌, ◌≢◌, Bool, true, false, ◌&&◌, cond, List, [], ◌∷◌, ◌++◌, length, get_or, replicate, eqb, leb}
use Rattle.std.specs.Int.{◌∣◌}
use Rattle.octets.specs.Octets.{be16_at, octets16, begins}
use Rattle.sheet_rules.specs.Sentences.{Listed}
use Rattle.jpeg_rules.specs.declared.Said.{Said}
use Rattle.jpeg_rules.specs.Codes.{IsFrame, HasLength}

-- T.81 B.1.1.2: any marker may be preceded by octets FF
unfoldable pub marker : ℕ → ℕ → List ℕ
marker fill c = 0xFF ∷ replicate fill 0xFF ++ (c ∷ [])

-- FF 00 without fill, or D0 to D7
abbrev pub DataRun : ℕ → ℕ → Type 0
DataRun fill c = ((c ≡ 0x00) × (fill ≡ 0)) ⊎ ((0xD0 ≤ c) × (c ≤ 0xD7))

pub data Data : List ℕ → Type 0 where
  none : Data []
  plain : {x : ℕ} {d : List ℕ} → x ≢ 0xFF → Data d → Data (x ∷ d)
  stuffed : {fill c : ℕ} {d : List ℕ} → DataRun fill c → Data d → Data (marker fill c ++ d)

pub data Piece : Type 0 where
  alone : ℕ → Piece
  segment : ℕ → ℕ → List ℕ → Piece
  scan : ℕ → List ℕ → List ℕ → Piece

unfoldable pub lengthed : ℕ → ℕ → List ℕ → List ℕ
unfolding marker
lengthed fill c body = marker fill c ++ (octets16 (length body + 2) ++ body)

unfoldable pub octets_of : Piece → List ℕ
unfolding lengthed
octets_of (alone fill) = marker fill 0x01
octets_of (segment fill c body) = lengthed fill c body
octets_of (scan fill header scanned) = lengthed fill 0xDA header ++ scanned

unfoldable pub pieces_of : List Piece → List ℕ
unfolding octets_of
pieces_of [] = []
pieces_of (p ∷ ps) = octets_of p ++ pieces_of ps

-- a body whose length can be told in two octets
abbrev pub Fits : List ℕ → Type 0
Fits body = length body + 2 < 65536

unfoldable pub Good : Piece → Type 0
Good (alone fill) = Unit {0}
Good (segment fill c body) = HasLength c × Fits body
Good (scan fill header scanned) = Fits header × Data scanned

unfoldable pub is_scan : Piece → Bool
is_scan (alone fill) = false
is_scan (segment fill c body) = false
is_scan (scan fill header scanned) = true

-- 47 33 46 41 58 00
abbrev pub g3fax : List ℕ
g3fax = 0x47 ∷ 0x33 ∷ 0x46 ∷ 0x41 ∷ 0x58 ∷ 0x00 ∷ []

-- an FF E1 segment of length 12 or more that begins so
unfoldable pub tagged : ℕ → List ℕ → Bool
tagged c body = eqb c 0xE1 && leb 12 (length body + 2) && begins body g3fax

-- two octets after the tag are not tested, then comes the resolution
unfoldable pub resolution : List Piece → ℕ
unfolding tagged
resolution [] = 0
resolution (alone fill ∷ ps) = resolution ps
resolution (segment fill c body ∷ ps) = cond (tagged c body) (be16_at body 8) (resolution ps)
resolution (scan fill header scanned ∷ ps) = resolution ps

-- each of the pieces
unfoldable pub Each : (Piece → Type 0) → List Piece → Type 0
Each P [] = Unit {0}
Each P (p ∷ ps) = P p × Each P ps

-- one of the pieces is a scan
unfoldable pub Scanned : List Piece → Type 0
Scanned [] = ⊥
Scanned (p ∷ ps) = (is_scan p ≡ true) ⊎ Scanned ps

-- lightness alone, or lightness and chroma (02, 2026-07)
abbrev pub Components : ℕ → Type 0
Components c = (c ≡ 1) ⊎ (c ≡ 3)

-- what a frame's body says, beside the resolution: T.81 B.2.2 has a precision octet, the number of lines, the samples a line, the components
abbrev pub said_by : List ℕ → ℕ → Said
said_by body res = record { width = be16_at body 3; height = be16_at body 1; res = res; components = get_or body 5 0 }

pub record Layer (main : ℕ) (l : List ℕ) (said : Said) : Type 0 where
  pub before : List Piece
  pub fill : ℕ
  pub code : ℕ
  pub body : List ℕ
  pub after : List Piece
  pub last : ℕ
  -- FF D8 without fill, then markers; exactly one frame comes before the first scan and none after; D9
  pub octets : l ≡ 0xFF ∷ 0xD8 ∷ pieces_of before ++ (lengthed fill code body ++ (pieces_of after ++ marker last 0xD9))
  pub early : Each (λ p. Good p × (is_scan p ≡ false)) before
  pub late : Each Good after
  -- the frame: its length at least 8, its width and height not 0, its components one or three
  pub frame : IsFrame code
  pub long : 8 ≤ length body + 2
  pub fits : Fits body
  pub says : said ≡ said_by body (resolution before)
  pub high : said.height ≢ 0
  pub wide : said.width ≢ 0
  pub counted : Components said.components
  -- before the frame stands the segment that gives the resolution, which is listed and divides the main one
  pub listed : Listed said.res
  pub divides : said.res ∣ main
  -- at least one scan is needed
  pub scanned : Scanned after
