-- Where the octets of a layer are at fault, the walk refuses them so.
-- Assumes nothing.
use Prim.Native.Nat.{ℕ, ◌+◌, ◌≤◌, ◌<◌}
use native.Mathlib.Omega.{arith}
use mathlib.Core.Path.{◌≡◌, refl, sym, ap, subst, ◌∙◌}
use mathlib.Core.Logic.{◌≢◌, ⊎_elim}
use mathlib.Core.Bool.{Bool, true, false, cond, false≢true}
use mathlib.Core.List.{List, ◌∷◌, ◌++◌, append_assoc}
use lib.ListN.{length, get_or, drop, replicate, length-drop, length-append}
use borrow.Author.Tests.{le-ltb, lt-ltb, eq-eqb, ne_eqb}
use Rattle.octets.specs.Octets.{be16_at, octets16}
use Rattle.octets.proofs.Laws.{be16_there, length_octets16}
use Rattle.laws.proofs.Says.{says_eq, says_and, says_true, says_fails}
use Rattle.laws.proofs.Cases.{bool_else}
use Rattle.jpeg_rules.specs.declared.Class.TheVariants.{Frame, Scan, End, Wrong, Segment}
use Rattle.jpeg_rules.specs.declared.Marker.{Marker}
use Rattle.jpeg_rules.specs.declared.Fault.{Fault}
use Rattle.std.specs.Prelude.{Some, None, Result, Err}
use Rattle.jpeg_rules.specs.declared.Said.{Said}
use Rattle.jpeg_rules.specs.declared.Reach.{Reach}
use Rattle.std.specs.declared.ops.ControlFlow.TheVariants.{Continue}
use Rattle.jpeg_rules.specs.Codes.{IsFrame}
use Rattle.jpeg_rules.specs.Marker.{class_of, marker_of}
use Rattle.jpeg_rules.specs.Grammar.{marker, Piece, alone, segment, scan, lengthed, octets_of, Good, tagged, said_by}
use Rattle.jpeg_rules.specs.Walk.{seg_of, resolves, tag_of, framed, passed, moved, refused, on_body, on_tag, frame_said, frame_body_of, frame_of, scan_step_of, segment_of, end_of, mark_of, on_marker, turn_of, begun, walk_of}
use Rattle.jpeg_rules.specs.Faults.{Known, height_of, width_of, components_of, res_of, gives, FrameDue, May, past, framing, Next, any, no_data, Least, of_segment, of_scan, of_frame, BadLength, cut_length, small, cut_body, BadMarker, cut, cut_run, no_marker, wrong_code, second_frame, no_resolution, no_frame, no_scan, bad_length, no_height, no_width, bad_components, bad_resolution, endless, BadFrom, here, past_piece, past_frame, BadLayer, cut_start, no_start, started}
use Rattle.jpeg_rules.proofs.Codes.{frame_right, frame_other, segment_other}
use Rattle.jpeg_rules.proofs.Leaves.{two_there}
use Rattle.jpeg_rules.proofs.Runs.{length_marker, begins_there, marker_cut}
use Rattle.jpeg_rules.proofs.Scans.{Opens, endless_none}
use Rattle.jpeg_rules.proofs.Turns.{scan_other, turn_class, turn_alone, turn_plain, turn_tag, turn_frame, turn_scan, frame_says, opened, seg_is, segment_opened, number_is, tag_of_lem, rest_at}
use Rattle.jpeg_rules.proofs.Walks.{Walks, stops, goes, walks_count}
use Rattle.jpeg_rules.proofs.There.{length_lengthed, lengthed_opens, piece_opens, says_resolves, says_components, tagged_long}

-- what a walk's state says
abbrev pub known_of : Reach → Bool → Known
known_of st o = record { framed = st.framed; scanned = st.scanned; res = st.said.res; in_scan = o }

-- ---- a length

length_bad : (s : List ℕ) (least n : ℕ) {l : List ℕ} {f : Fault} → drop n s ≡ l → BadLength least n l f → seg_of s n least ≡ Err f
unfolding seg_of
length_bad s least n e (cut_length c) =
    let d = length-drop n s in let q = ap length e in simp (lt-ltb (length s) (n + 2) (omega arith))
length_bad s least n e (small v r b c) =
    let w = be16_there s r n v e in
    let l2 = length_octets16 v in
    let d = length-drop n s in
    let q = ap length e ∙ length-append (octets16 v) r in
    simp (w, le-ltb (length s) (n + 2) (omega arith), lt-ltb v least c) refl
length_bad s least n e (cut_body v r b lo c) =
    let w = be16_there s r n v e in
    let l2 = length_octets16 v in
    let d = length-drop n s in
    let q = ap length e ∙ length-append (octets16 v) r in
    simp (w, le-ltb (length s) (n + 2) (omega arith), le-ltb v least lo, lt-ltb (length s) (n + v) (omega arith)) refl

-- ---- a marker

module _ (s : List ℕ) (main : ℕ) (st : Reach) (o : Bool) where
  abbrev k : Known
  k = known_of st o

  bodied : (i : ℕ) {c least : ℕ} (r : List ℕ) (f : Fault) → drop st.at s ≡ marker i c ++ r → Least k c least → seg_of s (st.at + i + 2) least ≡ Err f
      → turn_of s main st ≡ refused f
  unfolding mark_of segment_of scan_step_of frame_of
  bodied i {c = c} r f e (of_segment w) q =
      turn_class s main st i c r Segment (segment_other c w) e w
      ∙ ap
      (λ (g : Result ℕ Fault).
      on_body g (λ (next : ℕ).
      on_tag (tag_of s st c (st.at + i + 2)) (Continue (moved st next st.said.res)) (λ (v : ℕ).
      cond (resolves main v) (Continue (moved st next v)) (refused (Fault.BadRes (st.at + i + 2 + 10))))))
      q
  bodied i r f e (of_scan fr) q = turn_class s main st i 0xDA r Scan scan_other e refl ∙ simp (fr, q)
  bodied i {c = c} r f e (of_frame w) q =
      turn_class s main st i c r Frame (frame_other c w.code) e w.code
      ∙ simp (w.first, ne_eqb st.said.res 0 w.resolved, q)

  -- a fault at a place that is counted in another way
  placed : (F : ℕ → Fault) (i j : ℕ) → i ≡ j → turn_of s main st ≡ refused (F i) → turn_of s main st ≡ refused (F j)
  placed F i j z q = q ∙ ap (λ (n : ℕ). refused (F n)) z

  -- a frame as the walk sees it: its length, its height, its width and its count of components
  module _ (i c : ℕ) (body r : List ℕ) (e : drop st.at s ≡ lengthed i c body ++ r) (w : FrameDue k c) (lo : 8 ≤ length body + 2) where
    other_frame : c ≢ 0xFF
    other_frame = frame_other c w.code

    said_is : frame_said s st (st.at + i + 2) ≡ said_by body st.said.res
    said_is = frame_says s main st i c body r other_frame e lo

    height_is : be16_at s (st.at + i + 2 + 3) ≡ height_of body
    height_is = ap (λ (x : Said). x.height) said_is

    width_is : be16_at s (st.at + i + 2 + 5) ≡ width_of body
    width_is = ap (λ (x : Said). x.width) said_is

    count_is : get_or s (st.at + i + 2 + 7) 0 ≡ components_of body
    count_is = ap (λ (x : Said). x.components) said_is

    frame_opens : turn_of s main st ≡ frame_body_of s st (st.at + i + 2) (st.at + i + 2 + (length body + 2))
    unfolding mark_of frame_of
    frame_opens =
        turn_class s main st i c (octets16 (length body + 2) ++ (body ++ r)) Frame other_frame (opened s main st i c body r other_frame e) w.code
        ∙ simp (w.first, ne_eqb st.said.res 0 w.resolved, seg_is s main st i c body r other_frame e 8 lo)

  -- a frame by its code alone
  refused_frame : (i c : ℕ) (r : List ℕ) → drop st.at s ≡ marker i c ++ r → IsFrame c
      → turn_of s main st ≡ mark_of s main st c (st.at + i + 2) Frame
  refused_frame i c r e w = turn_class s main st i c r Frame (frame_other c w) e w

  turn_cut : {l : List ℕ} → drop st.at s ≡ l → length l < 2 → turn_of s main st ≡ refused (Fault.Short st.at)
  unfolding turn_of marker_of
  turn_cut e c = let d = length-drop st.at s in let q = ap length e in simp (lt-ltb (length s) (st.at + 2) (omega arith))

  turn_stray : (x y : ℕ) (r : List ℕ) → drop st.at s ≡ x ∷ y ∷ r → x ≢ 0xFF → turn_of s main st ≡ refused (Fault.BadLayer st.at)
  unfolding turn_of marker_of
  turn_stray x y r e d =
      let t = two_there s st.at x y r e in
      simp (le-ltb (length s) (st.at + 2) t.0, ne_eqb (get_or s st.at 0) 0xFF (λ q. d (sym t.1 ∙ q)))

  turn_run : (i : ℕ) → drop st.at s ≡ 0xFF ∷ replicate i 0xFF → turn_of s main st ≡ refused (Fault.Short st.at)
  unfolding turn_of
  turn_run i e =
      ap (λ (m : Marker). on_marker m st.at (λ (c n : ℕ). mark_of s main st c n (class_of c))) (marker_cut s st.at i e)

  turn_bad : {l : List ℕ} {f : Fault} → drop st.at s ≡ l → BadMarker main k st.at l f → turn_of s main st ≡ refused f
  unfolding mark_of frame_of scan_step_of end_of frame_body_of Good
  turn_bad e (cut c) = turn_cut e c
  turn_bad e (cut_run i) = turn_run i e
  turn_bad e (no_marker x y r d) = turn_stray x y r e d
  turn_bad e (wrong_code i c r d w) = turn_class s main st i c r Wrong d e w
  turn_bad e (second_frame i c r w fr) = refused_frame i c r e w ∙ simp fr
  turn_bad e (no_resolution i c r w fr z) = refused_frame i c r e w ∙ simp (fr, eq-eqb st.said.res 0 z)
  turn_bad e (no_frame i r fr) = turn_class s main st i 0xDA r Scan scan_other e refl ∙ simp fr
  turn_bad e (no_scan i r sc) = turn_class s main st i 0xD9 r End (λ z. omega arith) e refl ∙ simp sc
  turn_bad e (bad_length {f = f} i c least r w b) =
      bodied i r f e w (length_bad s least (st.at + i + 2) (begins_there s st.at i c r (least_other w) e).rest b)
    where
      least_other : {c least : ℕ} → Least k c least → c ≢ 0xFF
      least_other {c = c} (of_segment w) = segment_other c w
      least_other (of_scan fr) = scan_other
      least_other {c = c} (of_frame w) = frame_other c w.code
  turn_bad e (no_height i c body r w lo z) =
      placed Fault.BadLayer (st.at + i + 2 + 3) (st.at + i + 5) (omega arith)
      (frame_opens i c body r e w lo.1 ∙ simp (height_is i c body r e w lo.1, eq-eqb (height_of body) 0 z))
  turn_bad e (no_width i c body r w lo nz z) =
      placed Fault.BadLayer (st.at + i + 2 + 5) (st.at + i + 7) (omega arith)
      (frame_opens i c body r e w lo.1
      ∙ simp (height_is i c body r e w lo.1, ne_eqb (height_of body) 0 nz, width_is i c body r e w lo.1, eq-eqb (width_of body) 0 z) refl)
  turn_bad e (bad_components i c body r w lo nh nw n) =
      placed Fault.BadLayer (st.at + i + 2 + 7) (st.at + i + 9) (omega arith)
      (frame_opens i c body r e w lo.1
      ∙ simp (
        height_is i c body r e w lo.1,
        ne_eqb (height_of body) 0 nh,
        width_is i c body r e w lo.1,
        ne_eqb (width_of body) 0 nw,
        count_is i c body r e w lo.1,
        says_fails (says_components (components_of body)) n,
      ) refl)
  turn_bad e (bad_resolution i c body r g t n) =
      let u = (says_and (says_eq st.said.res 0) (says_true (tagged c body))).told t in
      let long = tagged_long s main c body u.1 in
      let other = segment_other c g.0 in
      let v : be16_at s (st.at + i + 2 + 10) ≡ res_of body = number_is s main st i c body r other e 8 (st.at + i + 2 + 10) (omega arith) (omega arith) in
      let tg : tag_of s st c (st.at + i + 2) ≡ Some (res_of body) =
      tag_of_lem s main st i c body r other e ∙ ap (λ (b : Bool). cond b (Some (be16_at s (st.at + i + 2 + 10))) None) t ∙ ap Some v in
      placed Fault.BadRes (st.at + i + 2 + 10) (st.at + i + 12) (omega arith)
      (segment_opened s main st i c body r other e (Some (res_of body)) tg g.0
      ∙ ap (λ (b : Bool). cond b (Continue (moved st (st.at + i + 2 + (length body + 2)) (res_of body))) (refused (Fault.BadRes (st.at + i + 2 + 10))))
      (says_fails (says_resolves main (res_of body)) n))
  turn_bad e (endless i header r fits fr z) =
      placed Fault.Short (st.at + i + 2 + (length header + 2)) (st.at + i + 4 + length header) (omega arith)
      (turn_class s main st i 0xDA (octets16 (length header + 2) ++ (header ++ r)) Scan scan_other (opened s main st i 0xDA header r scan_other e) refl
      ∙ simp (
        fr,
        seg_is s main st i 0xDA header r scan_other e 2 (omega arith),
        endless_none s (st.at + i + 2 + (length header + 2)) (rest_at s main st i 0xDA header r scan_other e) z,
      ))

-- ---- pieces in front

-- a marker that is no data begins what may stand after scan data
from_opens : {main : ℕ} {k : Known} {p : ℕ} {l : List ℕ} {f : Fault} → BadFrom main k p l f → k.in_scan ≡ true → Opens l
from_opens (here n b) e = by n e
  where
    by : {o : Bool} {l : List ℕ} → Next o l → o ≡ true → Opens l
    by any e = absurd (false≢true e)
    by (no_data i c r n d) e = record { fill = i; code = c; rest = r; is = refl; other = n; stop = d }
from_opens (past_piece q l g m b) e = piece_opens q l g
from_opens (past_frame i c body l w lo hi wi co b) e = lengthed_opens i c body l (frame_right c w.code)

module _ (s : List ℕ) (main : ℕ) (st : Reach) (o : Bool) (w : Result (ℕ × Said) Fault) where
  -- after a piece the walk goes on, with what is known there
  abbrev On : Piece → List ℕ → Type 0
  On q l =
      (t : Reach) (u : Bool) → known_of t u ≡ past (known_of st o) q → t.at ≡ st.at + length (octets_of q) → drop t.at s ≡ l → Walks s main t w

  piece_on : (q : Piece) (l : List ℕ) → Good q → May main (known_of st o) q → drop st.at s ≡ octets_of q ++ l
      → ((past (known_of st o) q).in_scan ≡ true → Opens l) → On q l → Walks s main st w
  unfolding octets_of Good May past
  piece_on (alone i) l g m e op go =
      let y = length_marker i 0x01 in
      goes (turn_alone s main st i l e)
      (go (moved st (st.at + i + 2) st.said.res) false refl (omega arith) (begins_there s st.at i 0x01 l (λ z. omega arith) e).rest)
  piece_on (segment i c body) l g m e op go =
      let y = length_lengthed i c body in
      let other = segment_other c g.0 in
      let z : st.at + i + 2 + (length body + 2) ≡ st.at + length (lengthed i c body) = omega arith in
      let on : (v : ℕ) → v ≡ cond (gives (known_of st o) c body) (res_of body) st.said.res → Walks s main (moved st (st.at + i + 2 + (length body + 2)) v) w =
      λ v q.
      go (moved st (st.at + i + 2 + (length body + 2)) v) false
      (ap (λ (r : ℕ). record { framed = st.framed; scanned = st.scanned; res = r; in_scan = false }) q) z (rest_at s main st i c body l other e) in
      ⊎_elim
      (λ (t : gives (known_of st o) c body ≡ true).
      let u = (says_and (says_eq st.said.res 0) (says_true (tagged c body))).told t in
      goes (turn_tag s main st i c body l other e g.0 t (tagged_long s main c body u.1) ((says_resolves main (res_of body)).shown (m t)))
      (on (res_of body) (ap (λ (b : Bool). cond b (res_of body) st.said.res) (sym t))))
      (λ (t : gives (known_of st o) c body ≡ false).
      goes (turn_plain s main st i c body l other e g.0 t) (on st.said.res (ap (λ (b : Bool). cond b (res_of body) st.said.res) (sym t))))
      (bool_else (gives (known_of st o) c body))
  piece_on (scan i header scanned) l g m e op go =
      let t = turn_scan s main st i header scanned l (e ∙ append_assoc (lengthed i 0xDA header) scanned l) g.1 (op refl) m in
      let a = length-append (lengthed i 0xDA header) scanned in
      let b = length_lengthed i 0xDA header in
      goes t.0
      (go (passed st (st.at + i + 2 + (length header + 2) + length scanned)) true
      (ap (λ (b : Bool). record { framed = b; scanned = true; res = st.said.res; in_scan = true }) (sym m)) (omega arith) t.1)

module _ (s : List ℕ) (main : ℕ) where
  walk_bad : {j : Known} {p : ℕ} {l : List ℕ} {f : Fault} → BadFrom main j p l f → (st : Reach) (o : Bool) → known_of st o ≡ j → st.at ≡ p
      → drop st.at s ≡ l → Walks s main st (Err f)
  walk_bad {j = j} {p = p} {l = l} {f = f} (here n b) st o e a d =
      stops
      (turn_bad s main st o d
      (subst (λ (u : ℕ). BadMarker main (known_of st o) u l f) (sym a) (subst (λ (i : Known). BadMarker main i p l f) (sym e) b)))
  walk_bad {j = j} {p = p} {f = f} (past_piece q l g m b) st o e a d =
      piece_on s main st o (Err f) q l g (subst (λ (i : Known). May main i q) (sym e) m) d
      (λ z. from_opens b (ap (λ (i : Known). (past i q).in_scan) (sym e) ∙ z))
      (λ t u k at r. walk_bad b t u (k ∙ ap (λ (i : Known). past i q) e) (at ∙ ap (λ (n : ℕ). n + length (octets_of q)) a) r)
  walk_bad {j = j} {p = p} {f = f} (past_frame i c body l w lo hi wi co b) st o e a d =
      let y = length_lengthed i c body in
      let other = frame_other c w.code in
      let v : FrameDue (known_of st o) c = subst (λ (i : Known). FrameDue i c) (sym e) w in
      goes (turn_frame s main st i c body l other d v.code v.first v.resolved lo.1 hi wi ((says_components (components_of body)).shown co))
      (walk_bad b (framed st (st.at + i + 2 + (length body + 2)) (said_by body st.said.res)) false (ap framing e) (omega arith)
      (rest_at s main st i c body l other d))

  -- ---- the layer

  pub layer_bad : (at : ℕ) {l : List ℕ} {f : Fault} → drop at s ≡ l → BadLayer main at l f → walk_of s at main ≡ Err f
  unfolding walk_of
  layer_bad at e (cut_start c) = let d = length-drop at s in let q = ap length e in simp (lt-ltb (length s) (at + 2) (omega arith))
  layer_bad at e (no_start x y r d) =
      let t = two_there s at x y r e in
      let n = says_fails (says_and (says_eq (get_or s at 0) 0xFF) (says_eq (get_or s (at + 1) 0) 0xD8)) (λ q. d (sym t.1 ∙ q.0, sym t.2 ∙ q.1)) in
      simp (le-ltb (length s) (at + 2) t.0, n) refl
  layer_bad at e (started l b) =
      let t = two_there s at 0xFF 0xD8 l e in
      let h = t.0 in
      simp (le-ltb (length s) (at + 2) h, eq-eqb (get_or s at 0) 0xFF t.1, eq-eqb (get_or s (at + 1) 0) 0xD8 t.2)
      (walks_count s main (walk_bad b (begun (at + 2)) false refl refl t.3) (length s) (omega arith))
