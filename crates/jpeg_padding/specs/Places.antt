-- Where in a JPEG layer's octets a marker begins (01, "Where an image layer ends"; T.81 B.1.1.2 and B.1.1.3), by the grammar of `jpeg_rules`, and octets FF
-- put in there (02, 2026-03).
--
--   InPiece q a b       the octets of the piece q are a and then b, and a marker begins where b does: its own, or a restart marker in a scan's data
--   InPieces ps a b     the same of pieces one behind the other
--   MarkerIn y a b      the same of the layer y, for each of its markers but FF D8: those of the pieces before the frame, the frame's, those of the pieces
--                       after it, and the last
--   BeginsAt y start p  where the layer y stands at `start`, one of these markers begins at p
--   padded k a b        a, then k octets FF, then b
--   padded_at s p k      the list s with k octets FF put in at the place p
--   Comes s main st t   the walk that looks for a marker at the place of st comes, turn by turn, to look for one at the place of t
use Rattle.std.specs.Prelude.{ℕ, ◌+◌, ◌≤◌, ◌≡◌, List, [], ◌∷◌, ◌++◌, length, replicate, take, drop}
use Rattle.jpeg_rules.specs.declared.Said.{Said}
use Rattle.jpeg_rules.specs.declared.Reach.{Reach}
use Rattle.std.specs.declared.ops.ControlFlow.TheVariants.{Continue}
use Rattle.jpeg_rules.specs.Grammar.{marker, Data, Piece, scan, lengthed, octets_of, pieces_of, Layer}
use Rattle.jpeg_rules.specs.Walk.{turn_of}

-- ---- the places

-- a restart marker is D0 to D7, with fill or without; FF 00 is none
pub data InPiece : Piece → List ℕ → List ℕ → Type 0 where
  own : {q : Piece} → InPiece q [] (octets_of q)
  restart : (f : ℕ) (header d more : List ℕ) (fill c : ℕ) → Data d → (0xD0 ≤ c) × (c ≤ 0xD7) → Data more
      → InPiece (scan f header (d ++ (marker fill c ++ more))) (lengthed f 0xDA header ++ d) (marker fill c ++ more)

pub data InPieces : List Piece → List ℕ → List ℕ → Type 0 where
  first : {q : Piece} {ps : List Piece} {a b : List ℕ} → InPiece q a b → InPieces (q ∷ ps) a (b ++ pieces_of ps)
  later : {q : Piece} {ps : List Piece} {a b : List ℕ} → InPieces ps a b → InPieces (q ∷ ps) (octets_of q ++ a) b

module _ {main : ℕ} {l : List ℕ} {said : Said} (y : Layer main l said) where
  pub data MarkerIn : List ℕ → List ℕ → Type 0 where
    before_frame : {a b : List ℕ} → InPieces y.before a b
        → MarkerIn (0xFF ∷ 0xD8 ∷ a) (b ++ (lengthed y.fill y.code y.body ++ (pieces_of y.after ++ marker y.last 0xD9)))
    at_frame : MarkerIn (0xFF ∷ 0xD8 ∷ pieces_of y.before) (lengthed y.fill y.code y.body ++ (pieces_of y.after ++ marker y.last 0xD9))
    after_frame : {a b : List ℕ} → InPieces y.after a b
        → MarkerIn (0xFF ∷ 0xD8 ∷ pieces_of y.before ++ (lengthed y.fill y.code y.body ++ a)) (b ++ marker y.last 0xD9)
    at_last : MarkerIn (0xFF ∷ 0xD8 ∷ pieces_of y.before ++ (lengthed y.fill y.code y.body ++ pieces_of y.after)) (marker y.last 0xD9)

  pub record BeginsAt (start p : ℕ) : Type 0 where
    pub front : List ℕ
    pub back : List ℕ
    pub begins : MarkerIn front back
    pub place : p ≡ start + length front

-- ---- octets FF put in

abbrev pub padded : ℕ → List ℕ → List ℕ → List ℕ
padded k a b = a ++ (replicate k 0xFF ++ b)

abbrev pub padded_at : List ℕ → ℕ → ℕ → List ℕ
padded_at s p k = padded k (take p s) (drop p s)

-- ---- the places that the walk comes to

pub data Comes (s : List ℕ) (main : ℕ) : Reach → Reach → Type 0 where
  here : {st : Reach} → Comes s main st st
  onward : {st t u : Reach} → turn_of s main st ≡ Continue t → Comes s main t u → Comes s main st u
