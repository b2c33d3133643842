-- Octets FF put in before a marker of a layer are fill of that marker: the octets are a layer again, of the same size and resolution.
-- Assumes nothing.
use Prim.Native.Nat.{ℕ, zero, suc, ◌+◌}
use native.Mathlib.Omega.{arith}
use mathlib.Core.Path.{◌≡◌, refl, sym, ap, subst, ◌∙◌}
use mathlib.Core.Logic.{inl, inr, ⊎_elim}
use mathlib.Core.Bool.{true, false, cond}
use mathlib.Core.List.{List, ◌∷◌, ◌++◌, append_assoc}
use lib.ListN.{length, replicate}
use Rattle.octets.specs.Octets.{be16_at, octets16}
use Rattle.jpeg_rules.specs.declared.Said.{Said}
use Rattle.jpeg_rules.specs.Grammar.{marker, Data, none, plain, stuffed, Piece, alone, segment, scan, lengthed, octets_of, pieces_of, Good, is_scan, tagged, resolution, Each, Scanned, said_by, Layer}
use Rattle.jpeg_padding.specs.Places.{InPiece, own, restart, InPieces, first, later, MarkerIn, before_frame, at_frame, after_frame, at_last, padded}

-- ---- a marker

pub marker_more : (k f c : ℕ) → replicate k 0xFF ++ marker f c ≡ marker (k + f) c
unfolding marker
marker_more zero f c = let z : f ≡ 0 + f = omega arith in ap (λ (n : ℕ). marker n c) z
marker_more (suc k) f c =
    let z : suc (k + f) ≡ suc k + f = omega arith in ap (λ (l : List ℕ). 0xFF ∷ l) (marker_more k f c) ∙ ap (λ (n : ℕ). marker n c) z

marker_before : (k f c : ℕ) (l : List ℕ) → replicate k 0xFF ++ (marker f c ++ l) ≡ marker (k + f) c ++ l
marker_before k f c l = sym (append_assoc (replicate k 0xFF) (marker f c) l) ∙ ap (λ (x : List ℕ). x ++ l) (marker_more k f c)

lengthed_before : (k f c : ℕ) (body : List ℕ) → replicate k 0xFF ++ lengthed f c body ≡ lengthed (k + f) c body
unfolding lengthed
lengthed_before k f c body = marker_before k f c (octets16 (length body + 2) ++ body)

-- ---- scan data one behind the other

data_append : {d e : List ℕ} → Data d → Data e → Data (d ++ e)
data_append none m = m
data_append (plain n k) m = plain n (data_append k m)
data_append {e = e} (stuffed {fill = fill} {c = c} {d = d} r k) m = subst Data (sym (append_assoc (marker fill c) d e)) (stuffed r (data_append k m))

-- ---- a piece

-- another piece in place of one: nothing that a layer asks of it has changed
record Alike (q p : Piece) : Type 0 where
  good : Good q → Good p
  scans : is_scan p ≡ is_scan q
  resolves : (ps rs : List Piece) → resolution rs ≡ resolution ps → resolution (p ∷ rs) ≡ resolution (q ∷ ps)

-- one of these octets
record Instead (q : Piece) (l : List ℕ) : Type 0 where
  piece : Piece
  octets : octets_of piece ≡ l
  alike : Alike q piece

own_more : (k : ℕ) (q : Piece) → Instead q (replicate k 0xFF ++ octets_of q)
unfolding octets_of Good is_scan resolution
own_more k (alone f) =
    record { piece = alone (k + f); octets = sym (marker_more k f 0x01); alike = record { good = λ g. g; scans = refl; resolves = λ ps rs e. e } }
own_more k (segment f c body) =
    record {
      piece = segment (k + f) c body;
      octets = sym (lengthed_before k f c body);
      alike = record { good = λ g. g; scans = refl; resolves = λ ps rs e. ap (cond (tagged c body) (be16_at body 8)) e };
    }
own_more k (scan f header d) =
    record {
      piece = scan (k + f) header d;
      octets =
          sym (sym (append_assoc (replicate k 0xFF) (lengthed f 0xDA header) d) ∙ ap (λ (x : List ℕ). x ++ d) (lengthed_before k f 0xDA header));
      alike = record { good = λ g. g; scans = refl; resolves = λ ps rs e. e };
    }

piece_more : (k : ℕ) {q : Piece} {a b : List ℕ} → InPiece q a b → Instead q (padded k a b)
unfolding octets_of Good is_scan resolution
piece_more k (own {q = q}) = own_more k q
piece_more k (restart f header d more fill c dd within dm) =
    record {
      piece = scan f header (d ++ (marker (k + fill) c ++ more));
      octets =
          sym
          (append_assoc (lengthed f 0xDA header) d (replicate k 0xFF ++ (marker fill c ++ more))
          ∙ ap (λ (x : List ℕ). lengthed f 0xDA header ++ (d ++ x)) (marker_before k fill c more));
      alike =
          record { good = λ g. (g.0, data_append dd (stuffed {fill = k + fill} {c = c} (inr within) dm)); scans = refl; resolves = λ ps rs e. e };
    }

-- ---- pieces one behind the other

record AlikeAll (ps rs : List Piece) : Type 0 where
  early : Each (λ p. Good p × (is_scan p ≡ false)) ps → Each (λ p. Good p × (is_scan p ≡ false)) rs
  late : Each Good ps → Each Good rs
  resolves : resolution rs ≡ resolution ps
  scanned : Scanned ps → Scanned rs

alike_same : (ps : List Piece) → AlikeAll ps ps
alike_same ps = record { early = λ g. g; late = λ g. g; resolves = refl; scanned = λ g. g }

alike_first : {q p : Piece} (ps : List Piece) → Alike q p → AlikeAll (q ∷ ps) (p ∷ ps)
unfolding Each Scanned
alike_first ps a =
    record {
      early = λ g. ((a.good g.0.0, a.scans ∙ g.0.1), g.1);
      late = λ g. (a.good g.0, g.1);
      resolves = a.resolves ps ps refl;
      scanned = λ g. ⊎_elim (λ (x : is_scan _ ≡ true). inl (a.scans ∙ x)) (λ (x : Scanned ps). inr x) g;
    }

alike_later : (q : Piece) {ps rs : List Piece} → AlikeAll ps rs → AlikeAll (q ∷ ps) (q ∷ rs)
unfolding Each Scanned resolution
alike_later q {ps} {rs} a =
    record {
      early = λ g. (g.0, a.early g.1);
      late = λ g. (g.0, a.late g.1);
      resolves = by q;
      scanned = λ g. ⊎_elim (λ (x : is_scan q ≡ true). inl x) (λ (x : Scanned ps). inr (a.scanned x)) g;
    }
  where
    by : (q : Piece) → resolution (q ∷ rs) ≡ resolution (q ∷ ps)
    by (alone f) = a.resolves
    by (segment f c body) = ap (cond (tagged c body) (be16_at body 8)) a.resolves
    by (scan f header d) = a.resolves

record InsteadAll (ps : List Piece) (l : List ℕ) : Type 0 where
  pieces : List Piece
  octets : pieces_of pieces ≡ l
  alike : AlikeAll ps pieces

pieces_more : (k : ℕ) {ps : List Piece} {a b : List ℕ} → InPieces ps a b → InsteadAll ps (padded k a b)
unfolding pieces_of
pieces_more k (first {q = q} {ps = ps} {a = a} {b = b} m) =
    let i = piece_more k m in
    record {
      pieces = i.piece ∷ ps;
      octets =
          ap (λ (x : List ℕ). x ++ pieces_of ps) i.octets ∙ append_assoc a (replicate k 0xFF ++ b) (pieces_of ps)
          ∙ ap (λ (x : List ℕ). a ++ x) (append_assoc (replicate k 0xFF) b (pieces_of ps));
      alike = alike_first ps i.alike;
    }
pieces_more k (later {q = q} {a = a} {b = b} m) =
    let i = pieces_more k m in
    record {
      pieces = q ∷ i.pieces;
      octets = ap (λ (x : List ℕ). octets_of q ++ x) i.octets ∙ sym (append_assoc (octets_of q) a (replicate k 0xFF ++ b));
      alike = alike_later q i.alike;
    }

-- ---- the layer

module _ {main : ℕ} {l : List ℕ} {said : Said} (y : Layer main l said) where
  -- other fill
  refilled : (before : List Piece) (fill : ℕ) (after : List Piece) (last : ℕ) → AlikeAll y.before before → AlikeAll y.after after
      → Layer main (0xFF ∷ 0xD8 ∷ pieces_of before ++ (lengthed fill y.code y.body ++ (pieces_of after ++ marker last 0xD9))) said
  refilled before fill after last b a =
      record {
        before = before;
        fill = fill;
        code = y.code;
        body = y.body;
        after = after;
        last = last;
        octets = refl;
        early = b.early y.early;
        late = a.late y.late;
        frame = y.frame;
        long = y.long;
        fits = y.fits;
        says = y.says ∙ ap (said_by y.body) (sym b.resolves);
        high = y.high;
        wide = y.wide;
        counted = y.counted;
        listed = y.listed;
        divides = y.divides;
        scanned = a.scanned y.scanned;
      }

  pub layer_more : (k : ℕ) {a b : List ℕ} → MarkerIn y a b → Layer main (padded k a b) said
  layer_more k (before_frame {a = a} {b = b} m) =
      let i = pieces_more k m in
      let rest : List ℕ = lengthed y.fill y.code y.body ++ (pieces_of y.after ++ marker y.last 0xD9) in
      subst (λ (x : List ℕ). Layer main x said)
      (ap (λ (x : List ℕ). 0xFF ∷ 0xD8 ∷ x ++ rest) i.octets ∙ simp append_assoc)
      (refilled i.pieces y.fill y.after y.last i.alike (alike_same y.after))
  layer_more k at_frame =
      let rest : List ℕ = pieces_of y.after ++ marker y.last 0xD9 in
      subst (λ (x : List ℕ). Layer main x said)
      (ap (λ (x : List ℕ). 0xFF ∷ 0xD8 ∷ pieces_of y.before ++ (x ++ rest)) (sym (lengthed_before k y.fill y.code y.body))
      ∙ ap (λ (x : List ℕ). 0xFF ∷ 0xD8 ∷ pieces_of y.before ++ x) (append_assoc (replicate k 0xFF) (lengthed y.fill y.code y.body) rest))
      (refilled y.before (k + y.fill) y.after y.last (alike_same y.before) (alike_same y.after))
  layer_more k (after_frame {a = a} {b = b} m) =
      let i = pieces_more k m in
      subst (λ (x : List ℕ). Layer main x said)
      (ap (λ (x : List ℕ). 0xFF ∷ 0xD8 ∷ pieces_of y.before ++ (lengthed y.fill y.code y.body ++ (x ++ marker y.last 0xD9))) i.octets
      ∙ simp append_assoc)
      (refilled y.before y.fill i.pieces y.last (alike_same y.before) i.alike)
  layer_more k at_last =
      subst (λ (x : List ℕ). Layer main x said)
      (ap (λ (x : List ℕ). 0xFF ∷ 0xD8 ∷ pieces_of y.before ++ (lengthed y.fill y.code y.body ++ (pieces_of y.after ++ x)))
      (sym (marker_more k y.last 0xD9))
      ∙ simp append_assoc)
      (refilled y.before y.fill y.after (k + y.last) (alike_same y.before) (alike_same y.after))

-- ---- the two parts are the layer's octets

piece_parts : {q : Piece} {a b : List ℕ} → InPiece q a b → octets_of q ≡ a ++ b
unfolding octets_of
piece_parts own = refl
piece_parts (restart f header d more fill c dd within dm) = sym (append_assoc (lengthed f 0xDA header) d (marker fill c ++ more))

pieces_parts : {ps : List Piece} {a b : List ℕ} → InPieces ps a b → pieces_of ps ≡ a ++ b
unfolding pieces_of
pieces_parts (first {ps = ps} {a = a} {b = b} m) = ap (λ (x : List ℕ). x ++ pieces_of ps) (piece_parts m) ∙ append_assoc a b (pieces_of ps)
pieces_parts (later {q = q} {a = a} {b = b} m) = ap (λ (x : List ℕ). octets_of q ++ x) (pieces_parts m) ∙ sym (append_assoc (octets_of q) a b)

pub layer_parts : {main : ℕ} {l : List ℕ} {said : Said} (y : Layer main l said) {a b : List ℕ} → MarkerIn y a b → l ≡ a ++ b
layer_parts y (before_frame {a = a} {b = b} m) =
    let rest : List ℕ = lengthed y.fill y.code y.body ++ (pieces_of y.after ++ marker y.last 0xD9) in
    y.octets ∙ ap (λ (x : List ℕ). 0xFF ∷ 0xD8 ∷ x ++ rest) (pieces_parts m) ∙ simp append_assoc
layer_parts y at_frame = y.octets
layer_parts y (after_frame {a = a} {b = b} m) =
    y.octets
    ∙ ap (λ (x : List ℕ). 0xFF ∷ 0xD8 ∷ pieces_of y.before ++ (lengthed y.fill y.code y.body ++ (x ++ marker y.last 0xD9))) (pieces_parts m)
    ∙ simp append_assoc
layer_parts y at_last = y.octets ∙ simp append_assoc
