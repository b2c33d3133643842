-- Every place where a walk that ends looks for a marker is one where a marker of its layer begins.
-- Assumes nothing.
use Prim.Native.Nat.{ℕ, ◌+◌, ◌≤◌}
use native.Mathlib.Omega.{arith}
use mathlib.Core.Path.{◌≡◌, refl, sym, ap, subst, ◌∙◌}
use mathlib.Core.Logic.{◌≢◌, ⊎_elim}
use mathlib.Core.Bool.{true, false, cond}
use mathlib.Core.List.{List, [], ◌∷◌, ◌++◌, append_assoc}
use lib.ListN.{length, get_or, drop, length-append}
use lib.Dec.{eqb}
use Rattle.octets.specs.Octets.{be16_at, octets16}
use Rattle.octets.proofs.Laws.{drop_next}
use Rattle.laws.proofs.Cases.{cond_with, clash, bool_else}
use Rattle.jpeg_rules.specs.declared.Said.{Said}
use Rattle.jpeg_rules.specs.declared.Class.TheVariants.{Frame, Scan, End}
use Rattle.jpeg_rules.specs.declared.Fault.TheVariants.{BadRes, BadLayer}
use Rattle.std.specs.Prelude.{Option, Some, None, Result}
use Rattle.jpeg_rules.specs.declared.Fault.{Fault}
use Rattle.jpeg_rules.specs.declared.Reach.{Reach}
use Rattle.jpeg_rules.specs.Walk.{Turn, resolves, tag_of, framed, moved, passed, refused, on_body, on_tag, frame_said, components_ok, frame_body_of, frame_of, scan_step_of, end_of, mark_of, turn_of, begun}
use Rattle.std.specs.declared.ops.ControlFlow.TheVariants.{Continue}
use Rattle.jpeg_rules.specs.Codes.{IsFrame, HasLength}
use Rattle.jpeg_rules.specs.Grammar.{marker, Data, Piece, alone, segment, scan, lengthed, octets_of, pieces_of, Good, Each, Layer}
use Rattle.jpeg_rules.proofs.Codes.{end_right, frame_right, frame_other, segment_other}
use Rattle.jpeg_rules.proofs.Runs.{length_marker}
use Rattle.jpeg_rules.proofs.Scans.{Opens}
use Rattle.jpeg_rules.proofs.Turns.{turn_class, turn_alone, turn_scan, scan_other, opened, seg_is, segment_opened}
use Rattle.jpeg_rules.proofs.There.{length_lengthed, pieces_open, lengthed_opens, marker_opens, each_good}
use Rattle.jpeg_padding.specs.Places.{InPieces, first, later, own, before_frame, at_frame, after_frame, at_last, BeginsAt, Comes, here, onward}

module _ (s : List ℕ) (main : ℕ) where
  -- ---- a turn that goes on over a piece, the frame or the end goes on to what stands after it

  abbrev To : ℕ → Turn → Type 0
  To n x = (u : Reach) → x ≡ Continue u → u.at ≡ n

  to_place : (t : Reach) (n : ℕ) → t.at ≡ n → To n (Continue t)
  to_place t n e u q = let z : t ≡ u = cc in ap (λ (x : Reach). x.at) (sym z) ∙ e

  to_none : (n : ℕ) (f : _) → To n (refused f)
  to_none n f u q = clash cc

  module _ (st : Reach) where
    alone_to : (f : ℕ) (l : List ℕ) → drop st.at s ≡ marker f 0x01 ++ l → To (st.at + f + 2) (turn_of s main st)
    alone_to f l e = subst (To (st.at + f + 2)) (sym (turn_alone s main st f l e)) (to_place (moved st (st.at + f + 2) st.said.res) (st.at + f + 2) refl)

    module _ (f c : ℕ) (body l : List ℕ) (other : c ≢ 0xFF) (e : drop st.at s ≡ lengthed f c body ++ l) where
      abbrev next : ℕ
      next = st.at + f + 2 + (length body + 2)

      segment_to : HasLength c → To next (turn_of s main st)
      segment_to k =
          subst (To next) (sym (segment_opened s main st f c body l other e (tag_of s st c (st.at + f + 2)) refl k)) (by (tag_of s st c (st.at + f + 2)))
        where
          by : (t : Option ℕ)
              → To next (on_tag t (Continue (moved st next st.said.res)) (λ (v : ℕ). cond (resolves main v) (Continue (moved st next v)) (refused (BadRes (st.at + f + 2 + 10)))))
          by None = to_place (moved st next st.said.res) next refl
          by (Some v) = cond_with (To next) (resolves main v) (λ t. to_place (moved st next v) next refl) (λ t. to_none next _)

      frame_to : IsFrame c → 8 ≤ length body + 2 → To next (turn_of s main st)
      unfolding mark_of frame_of frame_body_of
      frame_to k h =
          subst (To next) (sym (turn_class s main st f c (octets16 (length body + 2) ++ (body ++ l)) Frame other (opened s main st f c body l other e) k))
          (cond_with (To next) st.framed (λ t. to_none next _) λ t.
          cond_with (To next) (eqb st.said.res 0) (λ t. to_none next _) λ t.
          subst (λ (g : Result ℕ Fault). To next (on_body g (λ (n : ℕ). frame_body_of s st (st.at + f + 2) n))) (sym (seg_is s main st f c body l other e 8 h))
          (cond_with (To next) (eqb (be16_at s (st.at + f + 2 + 3)) 0) (λ t. to_none next _) λ t.
          cond_with (To next) (eqb (be16_at s (st.at + f + 2 + 5)) 0) (λ t. to_none next _) λ t.
          cond_with (To next) (components_ok (get_or s (st.at + f + 2 + 7) 0)) (λ t. to_place (framed st next (frame_said s st (st.at + f + 2))) next refl) (λ t. to_none next _)))

    scan_to : (f : ℕ) (header d l : List ℕ) → drop st.at s ≡ lengthed f 0xDA header ++ (d ++ l) → Data d → Opens l
        → To (st.at + f + 2 + (length header + 2) + length d) (turn_of s main st)
    unfolding mark_of scan_step_of
    scan_to f header d l e k o =
        let n : ℕ = st.at + f + 2 + (length header + 2) + length d in
        ⊎_elim
        (λ (t : st.framed ≡ true). subst (To n) (sym (turn_scan s main st f header d l e k o t).0) (to_place (passed st n) n refl))
        (λ (t : st.framed ≡ false).
        subst (To n)
        (sym
        (turn_class s main st f 0xDA (octets16 (length header + 2) ++ (header ++ (d ++ l))) Scan scan_other
        (opened s main st f 0xDA header (d ++ l) scan_other e) refl
        ∙ simp t))
        (to_none n (BadLayer st.at)))
        (bool_else st.framed)

    piece_to : (q : Piece) (l : List ℕ) → Good q → drop st.at s ≡ octets_of q ++ l → Opens l → To (st.at + length (octets_of q)) (turn_of s main st)
    unfolding Good octets_of
    piece_to (alone f) l g e o =
        let n = length_marker f 0x01 in
        let z : st.at + f + 2 ≡ st.at + length (marker f 0x01) = omega arith in
        subst (λ (n : ℕ). To n (turn_of s main st)) z (alone_to f l e)
    piece_to (segment f c body) l g e o =
        let n = length_lengthed f c body in
        let z : st.at + f + 2 + (length body + 2) ≡ st.at + length (lengthed f c body) = omega arith in
        subst (λ (n : ℕ). To n (turn_of s main st)) z (segment_to f c body l (segment_other c g.0) e g.0)
    piece_to (scan f header d) l g e o =
        let n = length_lengthed f 0xDA header in
        let m = length-append (lengthed f 0xDA header) d in
        let z : st.at + f + 2 + (length header + 2) + length d ≡ st.at + length (lengthed f 0xDA header ++ d) = omega arith in
        subst (λ (n : ℕ). To n (turn_of s main st)) z (scan_to f header d l (e ∙ append_assoc (lengthed f 0xDA header) d l) g.1 o)

-- ---- pieces

module _ (s : List ℕ) (main : ℕ) where
  -- a place that is come to from the first of pieces: a marker in them, or one that is come to from behind them
  data Meets (ps : List Piece) (at : ℕ) (t : Reach) : Type 0 where
    among : {a b : List ℕ} → InPieces ps a b → t.at ≡ at + length a → Meets ps at t
    beyond : (u : Reach) → u.at ≡ at + length (pieces_of ps) → Comes s main u t → Meets ps at t

  meets_more : (q : Piece) (ps : List Piece) (at : ℕ) (t : Reach) → Meets ps (at + length (octets_of q)) t → Meets (q ∷ ps) at t
  unfolding pieces_of
  meets_more q ps at t (among {a = a} m e) = let l = length-append (octets_of q) a in among (later m) (omega arith)
  meets_more q ps at t (beyond u e c) = let l = length-append (octets_of q) (pieces_of ps) in beyond u (omega arith) c

  pieces_meet : (ps : List Piece) (st t : Reach) (l : List ℕ) → Each Good ps → Opens l → drop st.at s ≡ pieces_of ps ++ l → Comes s main st t
      → Meets ps st.at t
  unfolding Each pieces_of
  pieces_meet [] st t l g o e c = beyond st (omega arith) c
  pieces_meet (q ∷ ps) st t l g o e here = among (first own) (omega arith)
  pieces_meet (q ∷ ps) st t l g o e (onward {t = u} k c) =
      let tail : List ℕ = pieces_of ps ++ l in
      let e' : drop st.at s ≡ octets_of q ++ tail = e ∙ append_assoc (octets_of q) (pieces_of ps) l in
      let z = piece_to s main st q tail g.0 e' (pieces_open ps l g.1 o) u k in
      meets_more q ps st.at t
      (subst (λ (n : ℕ). Meets ps n t) z
      (pieces_meet ps u t l g.1 o (ap (λ (n : ℕ). drop n s) z ∙ drop_next s (octets_of q) tail st.at e') c))

-- ---- the layer

-- at the end's marker no turn goes on
end_stops : (s : List ℕ) (main : ℕ) (st : Reach) (f : ℕ) (l : List ℕ) → drop st.at s ≡ marker f 0xD9 ++ l → (u : Reach) → turn_of s main st ≡ Continue u → ⊥
unfolding mark_of end_of
end_stops s main st f l e u =
    subst (λ (x : Turn). x ≡ Continue u → ⊥) (sym (turn_class s main st f 0xD9 l End (λ z. omega arith) e refl))
    (cond_with (λ x. x ≡ Continue u → ⊥) st.scanned (λ t q. clash cc) (λ t q. clash cc))

module _ (s : List ℕ) (start main : ℕ) {l : List ℕ} (rest : List ℕ) {said : Said} (y : Layer main l said) (e : drop start s ≡ l ++ rest) where
  abbrev frame : List ℕ
  frame = lengthed y.fill y.code y.body

  abbrev end : List ℕ
  end = marker y.last 0xD9

  -- where the frame stands, the pieces after it, and the end
  abbrev frame_at : ℕ
  frame_at = start + 2 + length (pieces_of y.before)

  abbrev after_at : ℕ
  after_at = frame_at + length frame

  pieces_there : drop (start + 2) s ≡ pieces_of y.before ++ (frame ++ (pieces_of y.after ++ (end ++ rest)))
  pieces_there =
      drop_next s (0xFF ∷ 0xD8 ∷ []) (pieces_of y.before ++ (frame ++ (pieces_of y.after ++ (end ++ rest)))) start
      (e ∙ ap (λ (x : List ℕ). x ++ rest) y.octets ∙ simp append_assoc)

  frame_there : drop frame_at s ≡ frame ++ (pieces_of y.after ++ (end ++ rest))
  frame_there = drop_next s (pieces_of y.before) (frame ++ (pieces_of y.after ++ (end ++ rest))) (start + 2) pieces_there

  after_there : drop after_at s ≡ pieces_of y.after ++ (end ++ rest)
  after_there = drop_next s frame (pieces_of y.after ++ (end ++ rest)) frame_at frame_there

  end_there : drop (after_at + length (pieces_of y.after)) s ≡ end ++ rest
  end_there = drop_next s (pieces_of y.after) (end ++ rest) after_at after_there

  at_place : {m n : ℕ} {x : List ℕ} → m ≡ n → drop n s ≡ x → drop m s ≡ x
  at_place z q = ap (λ (k : ℕ). drop k s) z ∙ q

  end_met : (u t : Reach) → u.at ≡ after_at + length (pieces_of y.after) → Comes s main u t → BeginsAt y start t.at
  end_met u t z here =
      let a = length-append (pieces_of y.before) (frame ++ pieces_of y.after) in
      let b = length-append frame (pieces_of y.after) in
      record { front = _; back = _; begins = at_last; place = omega arith }
  end_met u t z (onward {t = v} k c) = absurd (end_stops s main u y.last rest (at_place z end_there) v k)

  after_met : (u t : Reach) → u.at ≡ after_at → Comes s main u t → BeginsAt y start t.at
  after_met u t z c =
      by (pieces_meet s main y.after u t (end ++ rest) y.late (marker_opens y.last 0xD9 rest end_right) (at_place z after_there) c)
    where
      by : Meets s main y.after u.at t → BeginsAt y start t.at
      by (among {a = a} m q) =
          let x = length-append (pieces_of y.before) (frame ++ a) in
          let b = length-append frame a in
          record { front = _; back = _; begins = after_frame m; place = omega arith }
      by (beyond v q c) = end_met v t (omega arith) c

  frame_met : (u t : Reach) → u.at ≡ frame_at → Comes s main u t → BeginsAt y start t.at
  frame_met u t z here = record { front = _; back = _; begins = at_frame; place = omega arith }
  frame_met u t z (onward {t = v} k c) =
      let n = length_lengthed y.fill y.code y.body in
      let q =
      frame_to s main u y.fill y.code y.body (pieces_of y.after ++ (end ++ rest)) (frame_other y.code y.frame)
      (at_place z frame_there) y.frame y.long v k in
      after_met v t (omega arith) c

  pub layer_met : (t : Reach) → Comes s main (begun (start + 2)) t → BeginsAt y start t.at
  layer_met t c =
      by
      (pieces_meet s main y.before (begun (start + 2)) t (frame ++ (pieces_of y.after ++ (end ++ rest))) (each_good y.before y.early)
      (lengthed_opens y.fill y.code y.body (pieces_of y.after ++ (end ++ rest)) (frame_right y.code y.frame)) pieces_there c)
    where
      by : Meets s main y.before (start + 2) t → BeginsAt y start t.at
      by (among {a = a} m q) = record { front = _; back = _; begins = before_frame m; place = omega arith }
      by (beyond v q c) = frame_met v t (omega arith) c
