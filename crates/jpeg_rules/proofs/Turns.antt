-- A turn of the walk for each kind of marker, by the octets that stand there.
-- Assumes nothing.
use Prim.Native.Nat.{ℕ, ◌+◌, ◌≤◌, ◌<◌}
use native.Mathlib.Omega.{arith}
use mathlib.Core.Path.{◌≡◌, refl, sym, ap, ap₂, ◌∙◌}
use mathlib.Core.Logic.{◌≢◌}
use mathlib.Core.Bool.{Bool, true, false, ◌&&◌, cond}
use mathlib.Core.List.{List, ◌++◌, append_assoc}
use lib.ListN.{length, get_or, drop, get_or-append}
use lib.Seq.{get_or-drop}
use lib.Dec.{eqb, leb}
use borrow.Author.Tests.{ne_eqb, le-leb, leb-true}
use Rattle.octets.specs.Octets.{be16_at, octets16, begins, stands_at}
use Rattle.octets.proofs.Laws.{be16_there, be16_drop, be16_append, stands_drop, stands_append, drop_next}
use Rattle.jpeg_rules.specs.declared.Class.{Class}
use Rattle.jpeg_rules.specs.declared.Class.TheVariants.{Alone, Frame, Scan, End, Segment}
use Rattle.jpeg_rules.specs.declared.Marker.{Marker}
use Rattle.jpeg_rules.specs.declared.Fault.TheVariants.{BadRes, BadLayer}
use Rattle.std.specs.Prelude.{Option, Some, None, Result, Ok}
use Rattle.jpeg_rules.specs.declared.Fault.{Fault}
use Rattle.jpeg_rules.specs.declared.Said.{Said}
use Rattle.jpeg_rules.specs.declared.Reach.{Reach}
use Rattle.std.specs.declared.ops.ControlFlow.TheVariants.{Continue, Break}
use Rattle.jpeg_rules.specs.Codes.{IsFrame, HasLength}
use Rattle.jpeg_rules.specs.Marker.{class_of}
use Rattle.jpeg_rules.specs.Grammar.{marker, Data, lengthed, g3fax, tagged, said_by}
use Rattle.jpeg_rules.specs.Walk.{seg_of, resolves, tag_of, framed, passed, moved, refused, on_body, on_tag, frame_said, components_ok, frame_body_of, frame_of, scan_step_of, segment_of, mark_of, on_marker, turn_of}
use Rattle.jpeg_rules.proofs.Codes.{Coded, coded_class}
use Rattle.jpeg_rules.proofs.Leaves.{seg_there}
use Rattle.jpeg_rules.proofs.Runs.{begins_there, marker_there}
use Rattle.jpeg_rules.proofs.Scans.{Opens, scan_there}

module _ (s : List ℕ) (main : ℕ) (st : Reach) where
  pub turn_class : (f c : ℕ) (r : List ℕ) (k : Class) → c ≢ 0xFF → drop st.at s ≡ marker f c ++ r → Coded k c
      → turn_of s main st ≡ mark_of s main st c (st.at + f + 2) k
  unfolding turn_of
  turn_class f c r k d e h =
      ap (λ (m : Marker). on_marker m st.at (λ (c n : ℕ). mark_of s main st c n (class_of c))) (marker_there s st.at f c r d e)
      ∙ ap (mark_of s main st c (st.at + f + 2)) (coded_class c k h)

  pub turn_alone : (f : ℕ) (r : List ℕ) → drop st.at s ≡ marker f 0x01 ++ r → turn_of s main st ≡ Continue (moved st (st.at + f + 2) st.said.res)
  unfolding mark_of
  turn_alone f r e = turn_class f 0x01 r Alone (λ z. omega arith) e refl

  pub turn_end : (f : ℕ) (r : List ℕ) → drop st.at s ≡ marker f 0xD9 ++ r → st.scanned ≡ true
      → turn_of s main st ≡ Break (Ok (st.at + f + 2, st.said))
  unfolding mark_of
  turn_end f r e h =
      turn_class f 0xD9 r End (λ z. omega arith) e refl
      ∙ ap (λ (b : Bool). cond b (Break (Ok (st.at + f + 2, st.said))) (refused (BadLayer st.at))) h

  -- a marker with a length: the body, and what stands after it
  module _ (f c : ℕ) (body r : List ℕ) (other : c ≢ 0xFF) (e : drop st.at s ≡ lengthed f c body ++ r) where
    pub opened : drop st.at s ≡ marker f c ++ (octets16 (length body + 2) ++ (body ++ r))
    unfolding lengthed
    opened =
        e ∙ append_assoc (marker f c) (octets16 (length body + 2) ++ body) r
        ∙ ap (λ (l : List ℕ). marker f c ++ l) (append_assoc (octets16 (length body + 2)) body r)

    length_at : drop (st.at + f + 2) s ≡ octets16 (length body + 2) ++ (body ++ r)
    length_at =
        (begins_there s st.at f c (octets16 (length body + 2) ++ (body ++ r)) other opened).rest

    size_is : be16_at s (st.at + f + 2) ≡ length body + 2
    size_is = be16_there s (body ++ r) (st.at + f + 2) (length body + 2) length_at

    pub seg_is : (least : ℕ) → least ≤ length body + 2 → seg_of s (st.at + f + 2) least ≡ Ok (st.at + f + 2 + (length body + 2))
    seg_is least h = (seg_there s (st.at + f + 2) least body r length_at h).0

    pub body_at : drop (st.at + f + 2 + 2) s ≡ body ++ r
    body_at = (seg_there s (st.at + f + 2) 0 body r length_at (omega arith)).1

    pub rest_at : drop (st.at + f + 2 + (length body + 2)) s ≡ r
    rest_at = (seg_there s (st.at + f + 2) 0 body r length_at (omega arith)).2

    pub within_list : st.at + f + 2 + (length body + 2) ≤ length s
    within_list = (seg_there s (st.at + f + 2) 0 body r length_at (omega arith)).3

    -- a number in the body
    pub number_is : (k j : ℕ) → st.at + f + 2 + 2 + k ≡ j → k + 2 ≤ length body → be16_at s j ≡ be16_at body k
    number_is k j z h =
        ap (be16_at s) (sym z) ∙ sym (be16_drop s (st.at + f + 2 + 2) k) ∙ ap (λ (l : List ℕ). be16_at l k) body_at ∙ be16_append body r k h

    -- an octet of the body
    pub octet_is : (k j : ℕ) → st.at + f + 2 + 2 + k ≡ j → k < length body → get_or s j 0 ≡ get_or body k 0
    octet_is k j z h =
        ap (λ (i : ℕ). get_or s i 0) (sym z) ∙ sym (get_or-drop (st.at + f + 2 + 2) s k 0) ∙ ap (λ (l : List ℕ). get_or l k 0) body_at ∙ get_or-append body r 0 k h

    -- ---- the tag

    tag_stands : 6 ≤ length body → stands_at s (st.at + f + 2 + 2) g3fax ≡ begins body g3fax
    unfolding stands_at
    tag_stands h =
        let z : st.at + f + 2 + 2 + 0 ≡ st.at + f + 2 + 2 = omega arith in
        let w = within_list in
        ap (λ (k : ℕ). stands_at s k g3fax) (sym z)
        ∙ sym (stands_drop s (st.at + f + 2 + 2) 0 g3fax (omega arith))
        ∙ ap (λ (l : List ℕ). stands_at l 0 g3fax) body_at
        ∙ stands_append body r 0 g3fax (omega arith)
        ∙ ap (λ (b : Bool). b && begins body g3fax) (le-leb (0 + 6) (length body) (omega arith))

    tag_test : eqb c 0xE1 && eqb st.said.res 0 && leb 12 (be16_at s (st.at + f + 2)) && stands_at s (st.at + f + 2 + 2) g3fax ≡ eqb st.said.res 0 && tagged c body
    unfolding tagged
    tag_test = go (leb 12 (length body + 2)) refl
      where
        swap : (a b d f : Bool) → a && b && d && f ≡ b && (a && d && f)
        swap true true d f = refl
        swap true false d f = refl
        swap false true d f = refl
        swap false false d f = refl

        and_none : (a b f : Bool) → a && b && false && f ≡ b && (a && false && false)
        and_none true true f = refl
        and_none true false f = refl
        and_none false true f = refl
        and_none false false f = refl

        none_left : (a b f : Bool) → b && (a && false && f) ≡ b && (a && false && false)
        none_left true true f = refl
        none_left true false f = refl
        none_left false true f = refl
        none_left false false f = refl

        go : (b : Bool) → leb 12 (length body + 2) ≡ b
            → eqb c 0xE1 && eqb st.said.res 0 && leb 12 (be16_at s (st.at + f + 2)) && stands_at s (st.at + f + 2 + 2) g3fax
            ≡ eqb st.said.res 0 && (eqb c 0xE1 && leb 12 (length body + 2) && begins body g3fax)
        go true q =
            let h = leb-true 12 (length body + 2) q in
            ap₂ (λ (m : ℕ) (t : Bool). eqb c 0xE1 && eqb st.said.res 0 && leb 12 m && t) size_is (tag_stands (omega arith))
            ∙ swap (eqb c 0xE1) (eqb st.said.res 0) (leb 12 (length body + 2)) (begins body g3fax)
        go false q =
            ap (λ (m : ℕ). eqb c 0xE1 && eqb st.said.res 0 && leb 12 m && stands_at s (st.at + f + 2 + 2) g3fax) size_is
            ∙ ap (λ (b : Bool). eqb c 0xE1 && eqb st.said.res 0 && b && stands_at s (st.at + f + 2 + 2) g3fax) q
            ∙ and_none (eqb c 0xE1) (eqb st.said.res 0) (stands_at s (st.at + f + 2 + 2) g3fax)
            ∙ sym (ap (λ (b : Bool). eqb st.said.res 0 && (eqb c 0xE1 && b && begins body g3fax)) q ∙ none_left (eqb c 0xE1) (eqb st.said.res 0) (begins body g3fax))

    pub tag_of_lem : tag_of s st c (st.at + f + 2) ≡ cond (eqb st.said.res 0 && tagged c body) (Some (be16_at s (st.at + f + 2 + 10))) None
    unfolding tag_of
    tag_of_lem = ap (λ (b : Bool). cond b (Some (be16_at s (st.at + f + 2 + 10))) None) tag_test

    -- ---- a segment

    pub segment_opened : (t : Option ℕ) → tag_of s st c (st.at + f + 2) ≡ t → HasLength c
        → turn_of s main st ≡ on_tag t (Continue (moved st (st.at + f + 2 + (length body + 2)) st.said.res))
        (λ (v : ℕ). cond (resolves main v) (Continue (moved st (st.at + f + 2 + (length body + 2)) v)) (refused (BadRes (st.at + f + 2 + 10))))
    unfolding mark_of segment_of
    segment_opened t q k =
        turn_class f c (octets16 (length body + 2) ++ (body ++ r)) Segment other opened k
        ∙ ap
        (λ (g : Result ℕ Fault).
        on_body g (λ (next : ℕ).
        on_tag (tag_of s st c (st.at + f + 2)) (Continue (moved st next st.said.res)) (λ (v : ℕ).
        cond (resolves main v) (Continue (moved st next v)) (refused (BadRes (st.at + f + 2 + 10))))))
        (seg_is 2 (omega arith))
        ∙ ap
        (λ (g : Option ℕ).
        on_tag g (Continue (moved st (st.at + f + 2 + (length body + 2)) st.said.res))
        (λ (v : ℕ). cond (resolves main v) (Continue (moved st (st.at + f + 2 + (length body + 2)) v)) (refused (BadRes (st.at + f + 2 + 10)))))
        q

    pub turn_plain : HasLength c → eqb st.said.res 0 && tagged c body ≡ false
        → turn_of s main st ≡ Continue (moved st (st.at + f + 2 + (length body + 2)) st.said.res)
    turn_plain k h = segment_opened None (tag_of_lem ∙ ap (λ (b : Bool). cond b (Some (be16_at s (st.at + f + 2 + 10))) None) h) k

    pub turn_tag : HasLength c → eqb st.said.res 0 && tagged c body ≡ true → 10 ≤ length body → resolves main (be16_at body 8) ≡ true
        → turn_of s main st ≡ Continue (moved st (st.at + f + 2 + (length body + 2)) (be16_at body 8))
    turn_tag k h g v =
        let z : st.at + f + 2 + 2 + 8 ≡ st.at + f + 2 + 10 = omega arith in
        segment_opened (Some (be16_at body 8))
        (tag_of_lem ∙ ap (λ (b : Bool). cond b (Some (be16_at s (st.at + f + 2 + 10))) None) h ∙ ap Some (number_is 8 (st.at + f + 2 + 10) z (omega arith)))
        k
        ∙ ap (λ (b : Bool). cond b (Continue (moved st (st.at + f + 2 + (length body + 2)) (be16_at body 8))) (refused (BadRes (st.at + f + 2 + 10)))) v

    -- ---- the frame

    -- what it says, by its body
    pub frame_says : 8 ≤ length body + 2 → frame_said s st (st.at + f + 2) ≡ said_by body st.said.res
    frame_says l =
        let a = number_is 1 (st.at + f + 2 + 3) (let z : st.at + f + 2 + 2 + 1 ≡ st.at + f + 2 + 3 = omega arith in z) (omega arith) in
        let b = number_is 3 (st.at + f + 2 + 5) (let z : st.at + f + 2 + 2 + 3 ≡ st.at + f + 2 + 5 = omega arith in z) (omega arith) in
        let d = octet_is 5 (st.at + f + 2 + 7) (let z : st.at + f + 2 + 2 + 5 ≡ st.at + f + 2 + 7 = omega arith in z) (omega arith) in
        λ i. record { width = b i; height = a i; res = st.said.res; components = d i }

    pub turn_frame : IsFrame c → st.framed ≡ false → st.said.res ≢ 0 → 8 ≤ length body + 2 → be16_at body 1 ≢ 0 → be16_at body 3 ≢ 0
        → components_ok (get_or body 5 0) ≡ true
        → turn_of s main st ≡ Continue (framed st (st.at + f + 2 + (length body + 2)) (said_by body st.said.res))
    unfolding mark_of frame_of frame_body_of
    turn_frame k nf d l h w co =
        let a : be16_at s (st.at + f + 2 + 3) ≡ be16_at body 1 = ap (λ (x : Said). x.height) (frame_says l) in
        let b : be16_at s (st.at + f + 2 + 5) ≡ be16_at body 3 = ap (λ (x : Said). x.width) (frame_says l) in
        let e : get_or s (st.at + f + 2 + 7) 0 ≡ get_or body 5 0 = ap (λ (x : Said). x.components) (frame_says l) in
        turn_class f c (octets16 (length body + 2) ++ (body ++ r)) Frame other opened k
        ∙ simp (nf, ne_eqb st.said.res 0 d, seg_is 8 l, a, b, e, ne_eqb (be16_at body 1) 0 h, ne_eqb (be16_at body 3) 0 w, co) refl

-- ---- a scan, with its data and the marker after it

pub scan_other : ◌≢◌ {A = ℕ} 0xDA 0xFF
scan_other z = omega arith

pub turn_scan : (s : List ℕ) (main : ℕ) (st : Reach) (f : ℕ) (header scanned l : List ℕ)
    → drop st.at s ≡ lengthed f 0xDA header ++ (scanned ++ l) → Data scanned → Opens l → st.framed ≡ true
    → (turn_of s main st ≡ Continue (passed st (st.at + f + 2 + (length header + 2) + length scanned)))
    × (drop (st.at + f + 2 + (length header + 2) + length scanned) s ≡ l)
unfolding mark_of scan_step_of
turn_scan s main st f header scanned l e d o fr =
    let tail : List ℕ = scanned ++ l in
    let b = rest_at s main st f 0xDA header tail scan_other e in
    let q = scan_there s scanned d (st.at + f + 2 + (length header + 2)) l b o in (
      turn_class s main st f 0xDA (octets16 (length header + 2) ++ (header ++ tail)) Scan scan_other (opened s main st f 0xDA header tail scan_other e) refl
          ∙ simp (fr, seg_is s main st f 0xDA header tail scan_other e 2 (omega arith), q),
      drop_next s scanned l (st.at + f + 2 + (length header + 2)) b,
    )
