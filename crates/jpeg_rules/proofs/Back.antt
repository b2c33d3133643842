-- Where the walk ends, the octets that it went over are a layer of the grammar.
-- Assumes nothing.
use Prim.Native.Nat.{ℕ, ◌+◌, ◌-◌, ◌≤◌, ◌<◌, ◌∣◌}
use native.Mathlib.Omega.{arith}
use mathlib.Core.Path.{◌≡◌, refl, sym, ap, subst, ◌∙◌}
use mathlib.Core.Logic.{◌⊎◌, inl, inr, ◌≢◌, ⊎_elim, ⊎_map}
use mathlib.Core.Bool.{Bool, true, false, ◌&&◌, cond, false≢true}
use mathlib.Core.List.{List, [], ◌∷◌, ◌++◌, append_assoc}
use lib.ListN.{length, get_or, take, drop, length-append}
use lib.Seq.{take_at}
use lib.Dec.{eqb, ltb}
use borrow.Author.Tests.{eq-eqb, ne_eqb, ltb-false}
use Rattle.octets.specs.Octets.{Octets, be16_at}
use Rattle.sheet_rules.specs.Sentences.{Listed}
use Rattle.laws.proofs.Says.{says_eq, says_and, says_true}
use Rattle.jpeg_rules.specs.declared.Class.TheVariants.{Frame, Segment}
use Rattle.jpeg_rules.specs.declared.Marker.TheVariants.{Code}
use Rattle.std.specs.Prelude.{Some, Result, Ok}
use Rattle.jpeg_rules.specs.declared.Fault.{Fault}
use Rattle.jpeg_rules.specs.declared.Said.{Said}
use Rattle.jpeg_rules.specs.declared.Reach.{Reach}
use Rattle.std.specs.declared.ops.ControlFlow.TheVariants.{Break}
use Rattle.jpeg_rules.specs.Codes.{IsFrame}
use Rattle.jpeg_rules.specs.Marker.{class_of, marker_of}
use Rattle.jpeg_rules.specs.Grammar.{marker, Piece, alone, segment, lengthed, octets_of, pieces_of, Fits, Good, is_scan, tagged, resolution, Each, Scanned, Components, said_by, Layer}
use Rattle.jpeg_rules.specs.Walk.{seg_of, resolves, tag_of, framed, moved, frame_said, components_ok, begun, walk_of}
use Rattle.laws.proofs.Cases.{cond_with, clash}
use Rattle.jpeg_rules.proofs.CodesBack.{class_coded}
use Rattle.jpeg_rules.proofs.Leaves.{two_stand}
use Rattle.jpeg_rules.proofs.Runs.{length_marker, marker_back}
use Rattle.jpeg_rules.proofs.Turns.{frame_says}
use Rattle.jpeg_rules.proofs.Walks.{Onward, by_alone, by_frame, by_scan, by_plain, by_tag, turn_told, Walks, stops, goes, walks_from}
use Rattle.jpeg_rules.proofs.Tail.{Stood, stood, Over, alone_over, segment_over, plain_test, gives_test, Tail, tail_back}
use Rattle.jpeg_rules.proofs.There.{length_lengthed, says_resolves, says_components, res_plain, resolves_nonzero}

-- ---- before the frame

pub record Head (s : List ℕ) (main : ℕ) (st : Reach) (e : ℕ) (said : Said) : Type 0 where
  pub before : List Piece
  pub fill : ℕ
  pub code : ℕ
  pub body : List ℕ
  pub after : List Piece
  pub last : ℕ
  pub octets : drop st.at s ≡ pieces_of before ++ (lengthed fill code body ++ (pieces_of after ++ (marker last 0xD9 ++ drop e s)))
  pub early : Each (λ p. Good p × (is_scan p ≡ false)) before
  pub late : Each Good after
  pub frame : IsFrame code
  pub long : 8 ≤ length body + 2
  pub fits : Fits body
  pub says : said ≡ said_by body (cond (eqb st.said.res 0) (resolution before) st.said.res)
  pub high : said.height ≢ 0
  pub wide : said.width ≢ 0
  pub counted : Components said.components
  pub scanned : Scanned after
  pub found : (st.said.res ≢ 0) ⊎ (resolves main said.res ≡ true)
  pub ends : e ≡ st.at + (length (pieces_of before) + (fill + 2 + (length body + 2) + (length (pieces_of after) + (last + 2))))
  pub inside : e ≤ length s

module _ (s : List ℕ) (o : Octets s) (main e : ℕ) (said : Said) where
  -- one piece in front
  head_more : (st t : Reach) (p : Piece) → Over s st t p → is_scan p ≡ false
      → ((ps : List Piece) → cond (eqb t.said.res 0) (resolution ps) t.said.res ≡ cond (eqb st.said.res 0) (resolution (p ∷ ps)) st.said.res)
      → (Head s main t e said → (st.said.res ≢ 0) ⊎ (resolves main said.res ≡ true))
      → Head s main t e said → Head s main st e said
  unfolding Each pieces_of
  head_more st t p y ns rs fd k =
      let a = y.at in
      let l = length-append (octets_of p) (pieces_of k.before) in
      let z = k.ends in
      record {
        before = p ∷ k.before;
        fill = k.fill;
        code = k.code;
        body = k.body;
        after = k.after;
        last = k.last;
        octets =
            y.stands ∙ ap (λ (x : List ℕ). octets_of p ++ x) k.octets
            ∙ sym (append_assoc (octets_of p) (pieces_of k.before) (lengthed k.fill k.code k.body ++ (pieces_of k.after ++ (marker k.last 0xD9 ++ drop e s))));
        early = ((y.good, ns), k.early);
        late = k.late;
        frame = k.frame;
        long = k.long;
        fits = k.fits;
        says = k.says ∙ ap (said_by k.body) (rs k.before);
        high = k.high;
        wide = k.wide;
        counted = k.counted;
        scanned = k.scanned;
        found = fd k;
        ends = omega arith;
        inside = k.inside;
      }

  at_of : {t u : Reach} → t ≡ u → u.at ≡ t.at
  at_of q = ap (λ (z : Reach). z.at) (sym q)

  res_of_lem : {t u : Reach} → t ≡ u → u.said.res ≡ t.said.res
  res_of_lem q = ap (λ (z : Reach). z.said.res) (sym q)

  -- the frame itself
  head_frame : (st t : Reach) (c n next : ℕ) → marker_of s st.at ≡ Code c n → class_of c ≡ Frame → st.scanned ≡ false → st.said.res ≢ 0
      → seg_of s n 8 ≡ Ok next → be16_at s (n + 3) ≢ 0 → be16_at s (n + 5) ≢ 0 → components_ok (get_or s (n + 7) 0) ≡ true → framed st next (frame_said s st n) ≡ t
      → Tail s t e said → Head s main st e said
  unfolding Each pieces_of resolution
  head_frame st t c n next m k ns d g nh nw co q y =
      let x = stood s o st.at c n 8 next (omega arith) m g in
      let a : t.at ≡ next = at_of q in
      let b = x.after in
      let en = x.enough in
      let ends = x.ends in
      let z = y.ends in
      let ty : said ≡ frame_said s st n = sym y.says ∙ ap (λ (v : Reach). v.said) (sym q) in
      let ts : t.scanned ≡ false = ap (λ (v : Reach). v.scanned) (sym q) ∙ ns in
      record {
        before = [];
        fill = x.fill;
        code = c;
        body = x.body;
        after = y.after;
        last = y.last;
        octets = x.stands ∙ ap (λ (l : List ℕ). lengthed x.fill c x.body ++ l) (ap (λ (j : ℕ). drop j s) (sym a) ∙ y.octets);
        early = tt;
        late = y.good;
        frame = class_coded c Frame (λ z. x.octet) k;
        long = en;
        fits = x.fits;
        says =
            ty ∙ ap (frame_said s st) b ∙ frame_says s main st x.fill c x.body (drop next s) x.other x.stands en
            ∙ ap (said_by x.body) (sym (ap (λ (v : Bool). cond v 0 st.said.res) (ne_eqb st.said.res 0 d)));
        high = λ v. nh (sym (ap (λ (v : Said). v.height) ty) ∙ v);
        wide = λ v. nw (sym (ap (λ (v : Said). v.width) ty) ∙ v);
        counted = subst Components (sym (ap (λ (v : Said). v.components) ty)) ((says_components (get_or s (n + 7) 0)).told co);
        scanned = ⊎_elim (λ (v : t.scanned ≡ true). absurd (false≢true (sym ts ∙ v))) (λ (v : Scanned y.after). v) y.scanned;
        found = inl d;
        ends = omega arith;
        inside = y.inside;
      }

  found_same : (st t : Reach) → t.said.res ≡ st.said.res → Head s main t e said → (st.said.res ≢ 0) ⊎ (resolves main said.res ≡ true)
  found_same st t q k = ⊎_map (λ (d : t.said.res ≢ 0) z. d (q ∙ z)) (λ (v : resolves main said.res ≡ true). v) k.found

  head_tag : (st t : Reach) (c n next v : ℕ) (x : Stood s st.at c n 2 next) → class_of c ≡ Segment → tag_of s st c n ≡ Some v → resolves main v ≡ true
      → moved st next v ≡ t → Head s main t e said → Head s main st e said
  unfolding octets_of Good is_scan resolution
  head_tag st t c n next v x k gv ok q y =
      let g = gives_test s main st c n next x v gv in
      let b = (says_and (says_eq st.said.res 0) (says_true (tagged c x.body))).told g.0 in
      let vb : v ≡ be16_at x.body 8 = g.1 in
      let nz = resolves_nonzero s main v ok in
      let tr : t.said.res ≡ v = res_of_lem q in
      head_more st t (segment x.fill c x.body) (segment_over s st t c n next x k (at_of q)) refl
      (λ ps.
      ap (λ (m : ℕ). cond (eqb m 0) (resolution ps) m) tr
      ∙ ap (λ (z : Bool). cond z (resolution ps) v) (ne_eqb v 0 nz)
      ∙ vb
      ∙ sym
      (ap (λ (z : Bool). cond z (cond (tagged c x.body) (be16_at x.body 8) (resolution ps)) st.said.res) (eq-eqb st.said.res 0 b.0)
      ∙ ap (λ (z : Bool). cond z (be16_at x.body 8) (resolution ps)) b.1))
      (λ z.
      let rv : said.res ≡ v = ap (λ (x : Said). x.res) z.says ∙ ap (λ (m : ℕ). cond (eqb m 0) (resolution z.before) m) tr ∙ ap (λ (u : Bool). cond u (resolution z.before) v) (ne_eqb v 0 nz) in
      inr (ap (resolves main) rv ∙ ok))
      y

  head_onward : (st t : Reach) → st.framed ≡ false → st.scanned ≡ false → Onward s main st t
      → (t.framed ≡ false → t.scanned ≡ false → Head s main t e said) → (t.framed ≡ true → t.said.res ≢ 0 → Tail s t e said) → Head s main st e said
  unfolding octets_of Good is_scan resolution
  head_onward st t f ns (by_alone c n m k q) go frame =
      let tr : t.said.res ≡ st.said.res = res_of_lem q in
      let x = marker_back s st.at c n m in
      head_more st t (alone x.fill) (alone_over s st t c n x k (at_of q)) refl
      (λ ps. ap (λ (m : ℕ). cond (eqb m 0) (resolution ps) m) tr) (found_same st t tr)
      (go (ap (λ (v : Reach). v.framed) (sym q) ∙ f) (ap (λ (v : Reach). v.scanned) (sym q) ∙ ns))
  head_onward st t f ns (by_frame c n next m k nf nr g nh nw co q) go frame =
      head_frame st t c n next m k ns nr g nh nw co q (frame (ap (λ (v : Reach). v.framed) (sym q)) (λ z. nr (sym (res_of_lem q) ∙ z)))
  head_onward st t f ns (by_scan c n next p m k fr g fo q) go frame = absurd (false≢true (sym f ∙ fr))
  head_onward st t f ns (by_plain c n next m k g pl q) go frame =
      let x = stood s o st.at c n 2 next (omega arith) m g in
      let tr : t.said.res ≡ st.said.res = res_of_lem q in
      let pt = plain_test s main st c n next x pl in
      head_more st t (segment x.fill c x.body) (segment_over s st t c n next x k (at_of q)) refl
      (λ ps. ap (λ (m : ℕ). cond (eqb m 0) (resolution ps) m) tr ∙ res_plain s main st.said.res x.fill c x.body ps pt)
      (found_same st t tr)
      (go (ap (λ (v : Reach). v.framed) (sym q) ∙ f) (ap (λ (v : Reach). v.scanned) (sym q) ∙ ns))
  head_onward st t f ns (by_tag c n next v m k g gv ok q) go frame =
      let x = stood s o st.at c n 2 next (omega arith) m g in
      head_tag st t c n next v x k gv ok q
      (go (ap (λ (v : Reach). v.framed) (sym q) ∙ f) (ap (λ (v : Reach). v.scanned) (sym q) ∙ ns))

  head_back : {st : Reach} {x : Result (ℕ × Said) Fault} → Walks s main st x → x ≡ Ok (e, said) → st.framed ≡ false → st.scanned ≡ false → Head s main st e said
  head_back {st} {x} (stops q) z f ns =
      let k = (turn_told s main st).1 e said (q ∙ ap Break z) in absurd (false≢true (sym ns ∙ k.scanned))
  head_back {st} {x} (goes {t = t} q more) z f ns =
      head_onward st t f ns ((turn_told s main st).0 t q) (λ tf ts. head_back more z tf ts) (λ tf tr. tail_back s o main e said more z tf tr)

-- ---- a whole layer

pub record Walked (s : List ℕ) (start main e : ℕ) (said : Said) : Type 0 where
  pub layer : Layer main (take (e - start) (drop start s)) said
  pub split : drop start s ≡ take (e - start) (drop start s) ++ drop e s
  pub after : start < e
  pub inside : e ≤ length s

module _ (s : List ℕ) (o : Octets s) (start main e : ℕ) (said : Said) where
  walked : start + 2 ≤ length s → get_or s start 0 ≡ 0xFF → get_or s (start + 1) 0 ≡ 0xD8 → Head s main (begun (start + 2)) e said → Walked s start main e said
  walked l a b k =
      let lay : List ℕ = 0xFF ∷ 0xD8 ∷ pieces_of k.before ++ (lengthed k.fill k.code k.body ++ (pieces_of k.after ++ marker k.last 0xD9)) in
      let l1 = length-append (pieces_of k.before) (lengthed k.fill k.code k.body ++ (pieces_of k.after ++ marker k.last 0xD9)) in
      let l2 = length-append (lengthed k.fill k.code k.body) (pieces_of k.after ++ marker k.last 0xD9) in
      let l3 = length-append (pieces_of k.after) (marker k.last 0xD9) in
      let l4 = length_lengthed k.fill k.code k.body in
      let l5 = length_marker k.last 0xD9 in
      let en = k.ends in
      let size : length lay ≡ e - start = omega arith in
      let split : drop start s ≡ lay ++ drop e s =
      two_stand s start l ∙ ap (λ (x : ℕ). x ∷ get_or s (start + 1) 0 ∷ drop (start + 2) s) a ∙ ap (λ (x : ℕ). 0xFF ∷ x ∷ drop (start + 2) s) b
      ∙ ap (λ (x : List ℕ). 0xFF ∷ 0xD8 ∷ x) k.octets ∙ sym (simp append_assoc) in
      let cut : take (e - start) (drop start s) ≡ lay = ap (take (e - start)) split ∙ take_at lay (drop e s) (e - start) size in
      let rr = resolved k in
      record {
        layer =
            record {
              before = k.before;
              fill = k.fill;
              code = k.code;
              body = k.body;
              after = k.after;
              last = k.last;
              octets = cut;
              early = k.early;
              late = k.late;
              frame = k.frame;
              long = k.long;
              fits = k.fits;
              says = k.says;
              high = k.high;
              wide = k.wide;
              counted = k.counted;
              listed = rr.0;
              divides = rr.1;
              scanned = k.scanned;
            };
        split = split ∙ ap (λ (x : List ℕ). x ++ drop e s) (sym cut);
        after = omega arith;
        inside = k.inside;
      }
    where
      resolved : Head s main (begun (start + 2)) e said → Listed said.res × (said.res ∣ main)
      resolved k =
          ⊎_elim (λ (d : 0 ≢ 0). absurd (d refl))
          (λ (v : resolves main said.res ≡ true). (says_resolves main said.res).told v)
          k.found

  pub walk_layer : walk_of s start main ≡ Ok (e, said) → Walked s start main e said
  unfolding walk_of
  walk_layer =
      cond_with (λ x. x ≡ Ok (e, said) → Walked s start main e said) (ltb (length s) (start + 2)) (λ t q. clash cc) λ l.
      cond_with (λ x. x ≡ Ok (e, said) → Walked s start main e said) (eqb (get_or s start 0) 0xFF && eqb (get_or s (start + 1) 0) 0xD8)
      (λ t q.
      let k = (says_and (says_eq (get_or s start 0) 0xFF) (says_eq (get_or s (start + 1) 0) 0xD8)).told t in
      walked (ltb-false (length s) (start + 2) l) k.0 k.1
      (head_back s o main e said (walks_from s main (length s) (begun (start + 2)) (omega arith)) q refl refl))
      (λ t q. clash cc)
