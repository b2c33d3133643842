-- Where the walk refuses a layer, its octets are at fault so.
-- Assumes nothing.
use Prim.Native.Nat.{ℕ, ◌+◌, ◌-◌}
use native.Mathlib.Omega.{arith}
use mathlib.Core.Path.{◌≡◌, refl, sym, ap, ap₂, subst, ◌∙◌}
use mathlib.Core.Bool.{Bool, true, false, ◌&&◌, cond, false≢true}
use mathlib.Core.List.{List, ◌∷◌, ◌++◌}
use lib.ListN.{length, get_or, take, drop, length-drop}
use lib.Dec.{eqb, ltb}
use borrow.Author.Tests.{ltb-false, ltb-true, eqb-true, eqb-false}
use Rattle.octets.specs.Octets.{Octets, be16_at}
use Rattle.octets.proofs.Laws.{be16_stands, be16_bound}
use Rattle.laws.proofs.Says.{says_eq, says_and}
use Rattle.laws.proofs.Cases.{cond_with, clash}
use Rattle.jpeg_rules.specs.declared.Class.{Class}
use Rattle.jpeg_rules.specs.declared.Class.TheVariants.{Alone, Frame, Scan, End, Wrong, Segment}
use Rattle.jpeg_rules.specs.declared.Marker.{Marker}
use Rattle.jpeg_rules.specs.declared.Marker.TheVariants.{Code, Missing, Cut}
use Rattle.jpeg_rules.specs.declared.Fault.{Fault}
use Rattle.std.specs.Prelude.{Option, Some, None, Result, Ok, Err}
use Rattle.jpeg_rules.specs.declared.Said.{Said}
use Rattle.jpeg_rules.specs.declared.Reach.{Reach}
use Rattle.jpeg_rules.specs.Walk.{Turn, seg_of, scan_of, resolves, tag_of, passed, moved, refused, on_body, on_found, on_tag, components_ok, frame_body_of, frame_of, scan_step_of, segment_of, end_of, mark_of, on_marker, turn_of, begun, walk_of}
use Rattle.std.specs.declared.ops.ControlFlow.TheVariants.{Continue, Break}
use Rattle.jpeg_rules.specs.Codes.{IsFrame, HasLength}
use Rattle.jpeg_rules.specs.Marker.{class_of, marker_of}
use Rattle.jpeg_rules.specs.Grammar.{marker, Piece, alone, segment, scan, lengthed, Good}
use Rattle.jpeg_rules.specs.Faults.{Known, height_of, width_of, components_of, res_of, FrameDue, May, past, framing, Next, any, no_data, Least, of_segment, of_scan, of_frame, BadLength, cut_length, small, cut_body, BadMarker, cut, cut_run, no_marker, wrong_code, second_frame, no_resolution, no_frame, no_scan, bad_length, no_height, no_width, bad_components, bad_resolution, endless, BadFrom, here, past_piece, past_frame, BadLayer, cut_start, no_start, started}
use Rattle.jpeg_rules.proofs.Codes.{Coded}
use Rattle.jpeg_rules.proofs.CodesBack.{class_coded}
use Rattle.jpeg_rules.proofs.Leaves.{two_stand}
use Rattle.jpeg_rules.proofs.Runs.{fill_end, Marked, marker_by, marker_back, code_octet, run_cut}
use Rattle.jpeg_rules.proofs.Turns.{number_is, octet_is}
use Rattle.jpeg_rules.proofs.Scans.{scan_back, none_endless}
use Rattle.jpeg_rules.proofs.Tail.{Stood, stood, Over, alone_over, segment_over, scan_over, plain_test, gives_test}
use Rattle.jpeg_rules.proofs.Walks.{Onward, by_alone, by_frame, by_scan, by_plain, by_tag, turn_told, Walks, stops, goes, walks_from}
use Rattle.jpeg_rules.proofs.There.{length_lengthed, says_resolves, says_components}
use Rattle.jpeg_rules.proofs.Refuses.{known_of}

-- ---- a length

length_blames : (s : List ℕ) → Octets s → (least n : ℕ) (f : Fault) → seg_of s n least ≡ Err f → BadLength least n (drop n s) f
unfolding seg_of
length_blames s o least n f =
    cond_with (λ x. x ≡ Err f → BadLength least n (drop n s) f) (ltb (length s) (n + 2))
    (λ t e.
    let z : Fault.Short n ≡ f = cc in
    let d = length-drop n s in
    let l = ltb-true (length s) (n + 2) t in
    subst (BadLength least n (drop n s)) z (cut_length (omega arith))) λ t.
    let g = ltb-false (length s) (n + 2) t in
    let d = be16_stands s n o g in
    let b = be16_bound s n o in
    cond_with (λ x. x ≡ Err f → BadLength least n (drop n s) f) (ltb (be16_at s n) least)
    (λ u e.
    let z : Fault.BadLength n ≡ f = cc in
    subst (BadLength least n (drop n s)) z
    (subst (λ (l : List ℕ). BadLength least n l (Fault.BadLength n)) (sym d) (small (be16_at s n) (drop (n + 2) s) b (ltb-true (be16_at s n) least u)))) λ u.
    cond_with (λ x. x ≡ Err f → BadLength least n (drop n s) f) (ltb (length s) (n + be16_at s n))
    (λ v e.
    let z : Fault.Short (n + 2) ≡ f = cc in
    let i = length-drop (n + 2) s in
    let j = ltb-true (length s) (n + be16_at s n) v in
    subst (BadLength least n (drop n s)) z
    (subst (λ (l : List ℕ). BadLength least n l (Fault.Short (n + 2))) (sym d)
    (cut_body (be16_at s n) (drop (n + 2) s) b (ltb-false (be16_at s n) least u) (omega arith))))
    (λ v e. clash cc)

-- ---- a marker

module _ (s : List ℕ) (o : Octets s) (main : ℕ) (st : Reach) (q : Bool) where
  abbrev k : Known
  k = known_of st q

  abbrev Blame : Fault → Type 0
  Blame f = BadMarker main k st.at (drop st.at s) f

  abbrev Blames : Turn → Type 0
  Blames x = (f : Fault) → x ≡ refused f → Blame f

  go_blames : (t : Reach) → Blames (Continue t)
  go_blames t f e = clash cc

  refused_blames : (g : Fault) → Blame g → Blames (refused g)
  refused_blames g b f e = let z : g ≡ f = cc in subst Blame z b

  -- the fault at a place that is counted in another way
  placed_blames : (F : ℕ → Fault) (i j : ℕ) → i ≡ j → Blame (F i) → Blames (refused (F j))
  placed_blames F i j z b = refused_blames (F j) (subst (λ (n : ℕ). Blame (F n)) z b)

  module _ (c n : ℕ) (m : marker_of s st.at ≡ Code c n) where
    abbrev mk : Marked s st.at c n
    mk = marker_back s st.at c n m

    by_code : {f : Fault} → BadMarker main k st.at (marker mk.fill c ++ drop n s) f → Blame f
    by_code {f} b = subst (λ (l : List ℕ). BadMarker main k st.at l f) (sym mk.stands) b

    -- a code that alone makes its marker
    by_one : {v : ℕ} {f : Fault} → c ≡ v → BadMarker main k st.at (marker mk.fill v ++ drop n s) f → Blame f
    by_one {f = f} w b = by_code (subst (λ (v : ℕ). BadMarker main k st.at (marker mk.fill v ++ drop n s) f) (sym w) b)

    body_blames : (least : ℕ) (go : ℕ → Turn) → Least k c least → ((next : ℕ) → seg_of s n least ≡ Ok next → Blames (go next))
        → Blames (on_body (seg_of s n least) go)
    body_blames least go ln y = by (seg_of s n least) refl
      where
        by : (g : Result ℕ Fault) → seg_of s n least ≡ g → Blames (on_body g go)
        by (Ok next) e = y next e
        by (Err f) e =
            refused_blames f
            (by_code (bad_length mk.fill c least (drop n s) ln (subst (λ (j : ℕ). BadLength least j (drop n s) f) mk.ends (length_blames s o least n f e))))

    by_body : (least next : ℕ) (x : Stood s st.at c n least next) {f : Fault} → BadMarker main k st.at (lengthed x.fill c x.body ++ drop next s) f → Blame f
    by_body least next x {f} b = subst (λ (l : List ℕ). BadMarker main k st.at l f) (sym x.stands) b

    frame_blames : IsFrame c → Blames (frame_of s st n)
    unfolding frame_of frame_body_of
    frame_blames w =
        cond_with Blames st.framed (λ e. refused_blames _ (by_code (second_frame mk.fill c (drop n s) w e))) λ nf.
        cond_with Blames (eqb st.said.res 0) (λ e. refused_blames _ (by_code (no_resolution mk.fill c (drop n s) w nf (eqb-true st.said.res 0 e)))) λ nr.
        let due : FrameDue k c = record { code = w; first = nf; resolved = eqb-false st.said.res 0 nr } in
        body_blames 8 (λ (next : ℕ). frame_body_of s st n next) (of_frame due) λ next g.
        let x = stood s o st.at c n 8 next (omega arith) m g in
        let en = x.enough in
        let hi = x.after in
        let a : be16_at s (n + 3) ≡ height_of x.body = number_is s main st x.fill c x.body (drop next s) x.other x.stands 1 (n + 3) (omega arith) (omega arith) in
        let b : be16_at s (n + 5) ≡ width_of x.body = number_is s main st x.fill c x.body (drop next s) x.other x.stands 3 (n + 5) (omega arith) (omega arith) in
        let d : get_or s (n + 7) 0 ≡ components_of x.body = octet_is s main st x.fill c x.body (drop next s) x.other x.stands 5 (n + 7) (omega arith) (omega arith) in
        cond_with Blames (eqb (be16_at s (n + 3)) 0)
        (λ e.
        placed_blames Fault.BadLayer (st.at + x.fill + 5) (n + 3) (omega arith)
        (by_body 8 next x (no_height x.fill c x.body (drop next s) due (x.fits, en) (sym a ∙ eqb-true (be16_at s (n + 3)) 0 e)))) λ nh.
        cond_with Blames (eqb (be16_at s (n + 5)) 0)
        (λ e.
        placed_blames Fault.BadLayer (st.at + x.fill + 7) (n + 5) (omega arith)
        (by_body 8 next x
        (no_width x.fill c x.body (drop next s) due (x.fits, en) (λ z. eqb-false (be16_at s (n + 3)) 0 nh (a ∙ z)) (sym b ∙ eqb-true (be16_at s (n + 5)) 0 e)))) λ nw.
        cond_with Blames (components_ok (get_or s (n + 7) 0)) (λ co. go_blames _)
        (λ co.
        placed_blames Fault.BadLayer (st.at + x.fill + 9) (n + 7) (omega arith)
        (by_body 8 next x
        (bad_components x.fill c x.body (drop next s) due (x.fits, en) (λ z. eqb-false (be16_at s (n + 3)) 0 nh (a ∙ z)) (λ z. eqb-false (be16_at s (n + 5)) 0 nw (b ∙ z))
        (λ z. false≢true (sym co ∙ ap components_ok d ∙ (says_components (components_of x.body)).shown z)))))

    scan_blames : c ≡ 0xDA → Blames (scan_step_of s st n)
    unfolding scan_step_of
    scan_blames w =
        cond_with Blames st.framed
        (λ fr.
        body_blames 2 (λ (next : ℕ). on_found (scan_of s next) next (λ (p : ℕ). Continue (passed st p)))
        (subst (λ (v : ℕ). Least k v 2) (sym w) (of_scan fr)) λ next g.
        by fr next g (scan_of s next) refl)
        (λ nf. refused_blames _ (by_one w (no_frame mk.fill (drop n s) nf)))
      where
        by : st.framed ≡ true → (next : ℕ) → seg_of s n 2 ≡ Ok next → (x : Option ℕ) → scan_of s next ≡ x
            → Blames (on_found x next (λ (p : ℕ). Continue (passed st p)))
        by fr next g (Some p) e = go_blames _
        by fr next g None e =
            let x = stood s o st.at c n 2 next (omega arith) m g in
            let en = x.ends in
            let hi = x.after in
            placed_blames Fault.Short (st.at + x.fill + 4 + length x.body) next (omega arith)
            (by_body 2 next x
            (subst (λ (v : ℕ). BadMarker main k st.at (lengthed x.fill v x.body ++ drop next s) (Fault.Short (st.at + x.fill + 4 + length x.body)))
            (sym w)
            (endless x.fill x.body (drop next s) x.fits fr (none_endless s next e))))

    segment_blames : HasLength c → Blames (segment_of s main st c n)
    unfolding segment_of Good
    segment_blames w =
        body_blames 2
        (λ (next : ℕ).
        on_tag (tag_of s st c n) (Continue (moved st next st.said.res)) (λ (r : ℕ). cond (resolves main r) (Continue (moved st next r)) (refused (Fault.BadRes (n + 10)))))
        (of_segment w) λ next g. by next g (tag_of s st c n) refl
      where
        by : (next : ℕ) → seg_of s n 2 ≡ Ok next → (x : Option ℕ) → tag_of s st c n ≡ x
            → Blames (on_tag x (Continue (moved st next st.said.res)) (λ (r : ℕ). cond (resolves main r) (Continue (moved st next r)) (refused (Fault.BadRes (n + 10)))))
        by next g None e = go_blames _
        by next g (Some v) e =
            cond_with Blames (resolves main v) (λ t. go_blames _)
            (λ t.
            let x = stood s o st.at c n 2 next (omega arith) m g in
            let hi = x.after in
            let tg = gives_test s main st c n next x v e in
            placed_blames Fault.BadRes (st.at + x.fill + 12) (n + 10) (omega arith)
            (by_body 2 next x
            (bad_resolution x.fill c x.body (drop next s) (w, x.fits) tg.0
            (λ r. false≢true (sym t ∙ ap (resolves main) tg.1 ∙ (says_resolves main (res_of x.body)).shown r)))))

    end_blames : c ≡ 0xD9 → Blames (end_of st n)
    unfolding end_of
    end_blames w = cond_with Blames st.scanned (λ t f e. clash cc) (λ t. refused_blames _ (by_one w (no_scan mk.fill (drop n s) t)))

    mark_blames : (x : Class) → Coded x c → Blames (mark_of s main st c n x)
    unfolding mark_of
    mark_blames Alone w = go_blames _
    mark_blames Frame w = frame_blames w
    mark_blames Scan w = scan_blames w
    mark_blames End w = end_blames w
    mark_blames Wrong w = refused_blames _ (by_code (wrong_code mk.fill c (drop n s) mk.other w))
    mark_blames Segment w = segment_blames w

  abbrev MarkerBlames : Marker → Type 0
  MarkerBlames x = (x ≡ Missing → Blame (Fault.BadLayer st.at)) × (x ≡ Cut → Blame (Fault.Short st.at))

  marker_blames : MarkerBlames (marker_of s st.at)
  marker_blames =
      marker_by s st.at MarkerBlames
      (λ l. (λ e. clash cc, λ e. let d = length-drop st.at s in cut (omega arith)))
      (λ h x. (
        λ e.
            subst (λ (l : List ℕ). BadMarker main k st.at l (Fault.BadLayer st.at)) (sym (two_stand s st.at h))
            (no_marker (get_or s st.at 0) (get_or s (st.at + 1) 0) (drop (st.at + 2) s) x),
        λ e. clash cc,
      ))
      (λ h x l. (
        λ e. clash cc,
        λ e.
            subst (λ (l : List ℕ). BadMarker main k st.at l (Fault.Short st.at)) (sym (run_cut s st.at (omega arith) x l))
            (cut_run (fill_end s (st.at + 1) - (st.at + 1))),
      ))
      (λ h x l. (λ e. clash cc, λ e. clash cc))

  turn_blames : Blames (turn_of s main st)
  unfolding turn_of
  turn_blames = by (marker_of s st.at) refl
    where
      by : (x : Marker) → marker_of s st.at ≡ x → Blames (on_marker x st.at (λ (c n : ℕ). mark_of s main st c n (class_of c)))
      by (Code c n) m = mark_blames c n m (class_of c) (class_coded c (class_of c) (λ z. code_octet s o st.at c n m) refl)
      by Missing m = refused_blames _ (marker_blames.0 m)
      by Cut m = refused_blames _ (marker_blames.1 m)

-- ---- the pieces in front

module _ (s : List ℕ) (o : Octets s) (main : ℕ) (f : Fault) where
  abbrev From : Reach → Bool → Type 0
  From st q = BadFrom main (known_of st q) st.at (drop st.at s) f

  on_piece : (st t : Reach) (q r : Bool) (p : Piece) → Over s st t p → May main (known_of st q) p → known_of t r ≡ past (known_of st q) p → From t r → From st q
  on_piece st t q r p y m e b =
      subst (λ (l : List ℕ). BadFrom main (known_of st q) st.at l f) (sym y.stands)
      (past_piece p (drop t.at s) y.good m
      (subst (λ (n : ℕ). BadFrom main (past (known_of st q) p) n (drop t.at s) f) y.at
      (subst (λ (i : Known). BadFrom main i t.at (drop t.at s) f) e b)))

  at_of : {t u : Reach} → t ≡ u → u.at ≡ t.at
  at_of e = ap (λ (z : Reach). z.at) (sym e)

  known_of_lem : {t u : Reach} (r : Bool) → t ≡ u → known_of u r ≡ known_of t r
  known_of_lem r e = ap (λ (z : Reach). known_of z r) (sym e)

  -- what stands where scan data ends
  next_marker : (next p : ℕ) → scan_of s next ≡ Some p → Next true (drop p s)
  next_marker next p fo =
      let b = scan_back s next p fo in
      let y = b.marked in
      subst (Next true) (sym y.stands) (no_data y.fill b.code (drop b.next s) y.other b.stop)

  onward : (st t : Reach) (q : Bool) → Onward s main st t → ((r : Bool) → Next r (drop t.at s) → From t r) → From st q
  unfolding May past
  onward st t q (by_alone c n m w e) go =
      let x = marker_back s st.at c n m in
      on_piece st t q false (alone x.fill) (alone_over s st t c n x w (at_of e)) tt (known_of_lem false e) (go false any)
  onward st t q (by_frame c n next m w nf nr g nh nw co e) go =
      let x = stood s o st.at c n 8 next (omega arith) m g in
      let a : t.at ≡ next = at_of e in
      let mb = x.after in
      let en = x.enough in
      let ends = x.ends in
      let l2 = length_lengthed x.fill c x.body in
      let hh : be16_at s (n + 3) ≡ height_of x.body = number_is s main st x.fill c x.body (drop next s) x.other x.stands 1 (n + 3) (omega arith) (omega arith) in
      let ww : be16_at s (n + 5) ≡ width_of x.body = number_is s main st x.fill c x.body (drop next s) x.other x.stands 3 (n + 5) (omega arith) (omega arith) in
      let nc : get_or s (n + 7) 0 ≡ components_of x.body = octet_is s main st x.fill c x.body (drop next s) x.other x.stands 5 (n + 7) (omega arith) (omega arith) in
      let z : t.at ≡ st.at + length (lengthed x.fill c x.body) = omega arith in
      let due : FrameDue (known_of st q) c = record { code = class_coded c Frame (λ z. x.octet) w; first = nf; resolved = nr } in
      subst (λ (l : List ℕ). BadFrom main (known_of st q) st.at l f) (sym (x.stands ∙ ap (λ (j : ℕ). lengthed x.fill c x.body ++ drop j s) (sym a)))
      (past_frame x.fill c x.body (drop t.at s) due (x.fits, en) (λ y. nh (hh ∙ y)) (λ y. nw (ww ∙ y))
      ((says_components (components_of x.body)).told (ap components_ok (sym nc) ∙ co))
      (subst (λ (j : ℕ). BadFrom main (framing (known_of st q)) j (drop t.at s) f) z
      (subst (λ (i : Known). BadFrom main i t.at (drop t.at s) f) (known_of_lem false e) (go false any))))
  onward st t q (by_scan c n next p m w fr g fo e) go =
      let x = stood s o st.at c n 2 next (omega arith) m g in
      on_piece st t q true (scan x.fill x.body (take (p - next) (drop next s))) (scan_over s st t c n next x p w fo (at_of e)) fr
      (known_of_lem true e ∙ ap (λ (v : Bool). record { framed = v; scanned = true; res = st.said.res; in_scan = true }) (sym fr))
      (go true (subst (λ (j : ℕ). Next true (drop j s)) (sym (at_of e)) (next_marker next p fo)))
  onward st t q (by_plain c n next m w g pl e) go =
      let x = stood s o st.at c n 2 next (omega arith) m g in
      let pt = plain_test s main st c n next x pl in
      on_piece st t q false (segment x.fill c x.body) (segment_over s st t c n next x w (at_of e)) (λ y. absurd (false≢true (sym pt ∙ y)))
      (known_of_lem false e
      ∙ ap (λ (v : Bool). record { framed = st.framed; scanned = st.scanned; res = cond v (res_of x.body) st.said.res; in_scan = false }) (sym pt))
      (go false any)
  onward st t q (by_tag c n next v m w g gv ok e) go =
      let x = stood s o st.at c n 2 next (omega arith) m g in
      let gt = gives_test s main st c n next x v gv in
      on_piece st t q false (segment x.fill c x.body) (segment_over s st t c n next x w (at_of e))
      (λ y. (says_resolves main (res_of x.body)).told (ap (resolves main) (sym gt.1) ∙ ok))
      (known_of_lem false e
      ∙ ap (λ (u : ℕ). record { framed = st.framed; scanned = st.scanned; res = u; in_scan = false }) gt.1
      ∙ ap (λ (b : Bool). record { framed = st.framed; scanned = st.scanned; res = cond b (res_of x.body) st.said.res; in_scan = false }) (sym gt.0))
      (go false any)

  walk_blames : {st : Reach} {w : Result (ℕ × Said) Fault} → Walks s main st w → w ≡ Err f → (q : Bool) → Next q (drop st.at s) → From st q
  walk_blames {st} (stops e) z q n = here n (turn_blames s o main st q f (e ∙ ap Break z))
  walk_blames {st} (goes {t = t} e more) z q n = onward st t q ((turn_told s main st).0 t e) (λ r m. walk_blames more z r m)

  pub layer_blames : (at : ℕ) → walk_of s at main ≡ Err f → BadLayer main at (drop at s) f
  unfolding walk_of
  layer_blames at =
      cond_with (λ x. x ≡ Err f → BadLayer main at (drop at s) f) (ltb (length s) (at + 2))
      (λ t e.
      let z : Fault.Short at ≡ f = cc in
      let d = length-drop at s in
      let g = ltb-true (length s) (at + 2) t in
      subst (BadLayer main at (drop at s)) z (cut_start (omega arith))) λ t.
      let g = ltb-false (length s) (at + 2) t in
      let y = says_and (says_eq (get_or s at 0) 0xFF) (says_eq (get_or s (at + 1) 0) 0xD8) in
      cond_with (λ x. x ≡ Err f → BadLayer main at (drop at s) f) (eqb (get_or s at 0) 0xFF && eqb (get_or s (at + 1) 0) 0xD8)
      (λ u e.
      let v = y.told u in
      subst (λ (l : List ℕ). BadLayer main at l f) (sym (two_stand s at g ∙ ap₂ (λ (a b : ℕ). a ∷ b ∷ drop (at + 2) s) v.0 v.1))
      (started (drop (at + 2) s) (walk_blames (walks_from s main (length s) (begun (at + 2)) (omega arith)) e false any)))
      (λ u e.
      let z : Fault.BadLayer at ≡ f = cc in
      subst (BadLayer main at (drop at s)) z
      (subst (λ (l : List ℕ). BadLayer main at l (Fault.BadLayer at)) (sym (two_stand s at g))
      (no_start (get_or s at 0) (get_or s (at + 1) 0) (drop (at + 2) s) (λ q. false≢true (sym u ∙ y.shown q)))))
