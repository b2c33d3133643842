-- Where the walk ends, the octets after the frame are pieces of the grammar.
-- Assumes nothing.
use Prim.Native.Nat.{ℕ, ◌+◌, ◌-◌, ◌≤◌, ◌<◌}
use native.Mathlib.Omega.{arith}
use mathlib.Core.Path.{◌≡◌, refl, sym, ap, ap₂, ◌∙◌}
use mathlib.Core.Logic.{◌⊎◌, inl, inr, ◌≢◌, ⊎_elim, ⊎_map}
use mathlib.Core.Bool.{Bool, true, false, ◌&&◌, cond, false≢true}
use mathlib.Core.List.{List, [], ◌∷◌, ◌++◌, append_assoc}
use lib.ListN.{length, take, drop, length-append, length-drop}
use lib.Seq.{length-take-le}
use lib.Dec.{eqb, leb}
use Rattle.octets.specs.Octets.{Octets, be16_at, octets16, stands_at}
use Rattle.laws.proofs.Says.{says_eq, says_le, says_and, says_true, says_fails}
use Rattle.jpeg_rules.specs.declared.Marker.TheVariants.{Code}
use Rattle.jpeg_rules.specs.declared.Class.TheVariants.{Alone, Scan, End, Segment}
use Rattle.std.specs.Prelude.{Some, None, Result, Ok}
use Rattle.jpeg_rules.specs.declared.Fault.{Fault}
use Rattle.jpeg_rules.specs.declared.Said.{Said}
use Rattle.jpeg_rules.specs.declared.Reach.{Reach}
use Rattle.std.specs.declared.ops.ControlFlow.TheVariants.{Break}
use Rattle.jpeg_rules.specs.Marker.{class_of, marker_of}
use Rattle.jpeg_rules.specs.Grammar.{marker, Piece, alone, segment, scan, lengthed, octets_of, pieces_of, Fits, Good, is_scan, g3fax, tagged, Each, Scanned}
use Rattle.jpeg_rules.specs.Walk.{seg_of, scan_of, tag_of}
use Rattle.laws.proofs.Cases.{cond_with, clash, bool_else}
use Rattle.jpeg_rules.proofs.CodesBack.{class_coded}
use Rattle.jpeg_rules.proofs.Leaves.{seg_back}
use Rattle.jpeg_rules.proofs.Runs.{length_marker, Marked, marker_back, code_octet}
use Rattle.jpeg_rules.proofs.Scans.{scan_back, scan_split}
use Rattle.jpeg_rules.proofs.Walks.{Onward, by_alone, by_frame, by_scan, by_plain, by_tag, Ended, turn_told, Walks, stops, goes}
use Rattle.jpeg_rules.proofs.There.{length_lengthed, tagged_long}
use Rattle.jpeg_rules.proofs.Turns.{tag_of_lem, number_is}

-- ---- a marker with a length, as it stands

pub record Stood (s : List ℕ) (at c n least next : ℕ) : Type 0 where
  pub fill : ℕ
  pub body : List ℕ
  pub other : c ≢ 0xFF
  pub octet : c < 256
  pub fits : Fits body
  pub enough : least ≤ length body + 2
  pub after : n ≡ at + fill + 2
  pub ends : next ≡ n + (length body + 2)
  pub inside : next ≤ length s
  pub stands : drop at s ≡ lengthed fill c body ++ drop next s

pub stood : (s : List ℕ) → Octets s → (at c n least next : ℕ) → 2 ≤ least → marker_of s at ≡ Code c n → seg_of s n least ≡ Ok next → Stood s at c n least next
unfolding lengthed
stood s o at c n least next two m g =
    let k = marker_back s at c n m in
    let b = seg_back s n least next o two g in
    record {
      fill = k.fill;
      body = b.body;
      other = k.other;
      octet = code_octet s o at c n m;
      fits = b.fits;
      enough = b.enough;
      after = k.ends;
      ends = b.ends;
      inside = b.inside;
      stands =
          k.stands
          ∙ ap (λ (l : List ℕ). marker k.fill c ++ l) (b.stands ∙ sym (append_assoc (octets16 (length b.body + 2)) b.body (drop next s)))
          ∙ sym (append_assoc (marker k.fill c) (octets16 (length b.body + 2) ++ b.body) (drop next s));
    }

-- ---- a turn that goes over a piece

pub record Over (s : List ℕ) (st t : Reach) (p : Piece) : Type 0 where
  pub good : Good p
  pub stands : drop st.at s ≡ octets_of p ++ drop t.at s
  pub at : t.at ≡ st.at + length (octets_of p)

module _ (s : List ℕ) (st t : Reach) (c : ℕ) where
  pub alone_over : (n : ℕ) (x : Marked s st.at c n) → class_of c ≡ Alone → t.at ≡ n → Over s st t (alone x.fill)
  unfolding octets_of Good
  alone_over n x k a =
      let z = x.ends in
      let l = length_marker x.fill 0x01 in
      record {
        good = tt;
        stands = x.stands ∙ ap₂ (λ (c j : ℕ). marker x.fill c ++ drop j s) (class_coded c Alone (λ z. clash cc) k) (sym a);
        at = omega arith;
      }

  module _ (n next : ℕ) (x : Stood s st.at c n 2 next) where
    pub segment_over : class_of c ≡ Segment → t.at ≡ next → Over s st t (segment x.fill c x.body)
    unfolding octets_of Good
    segment_over k a =
        let l = length_lengthed x.fill c x.body in
        let y = x.after in
        let z = x.ends in
        record {
          good = (class_coded c Segment (λ z. x.octet) k, x.fits);
          stands = x.stands ∙ ap (λ (j : ℕ). lengthed x.fill c x.body ++ drop j s) (sym a);
          at = omega arith;
        }

    pub scan_over : (p : ℕ) → class_of c ≡ Scan → scan_of s next ≡ Some p → t.at ≡ p → Over s st t (scan x.fill x.body (take (p - next) (drop next s)))
    unfolding octets_of Good
    scan_over p k q a =
        let b = scan_back s next p q in
        let i = b.after in
        let v = b.marked.inside in
        let u = b.marked.ends in
        let y = x.after in
        let z = x.ends in
        let coded : List ℕ = take (p - next) (drop next s) in
        let front : List ℕ = lengthed x.fill 0xDA x.body in
        let l1 = length-append front coded in
        let l2 = length_lengthed x.fill 0xDA x.body in
        let l3 : length coded ≡ p - next = length-take-le (p - next) (drop next s) (let u = length-drop next s in omega arith) in
        record {
          good = (x.fits, b.coded);
          stands =
              x.stands ∙ ap (λ (c : ℕ). lengthed x.fill c x.body ++ drop next s) (class_coded c Scan (λ z. x.octet) k)
              ∙ ap (λ (u : List ℕ). front ++ u) (scan_split s next p i) ∙ sym (append_assoc front coded (drop p s))
              ∙ ap (λ (j : ℕ). (front ++ coded) ++ drop j s) (sym a);
          at = omega arith;
        }

-- ---- what a segment says of the resolution

module _ (s : List ℕ) (main : ℕ) (st : Reach) (c n next : ℕ) (x : Stood s st.at c n 2 next) where
  abbrev behind : ℕ
  behind = st.at + x.fill + 2

  -- the walk counts from where the length stands
  tag_at : tag_of s st c n ≡ tag_of s st c behind
  tag_at = ap (tag_of s st c) x.after

  tag_by : (b : Bool) → eqb st.said.res 0 && tagged c x.body ≡ b → tag_of s st c n ≡ cond b (Some (be16_at s (behind + 10))) None
  tag_by b t =
      tag_at ∙ tag_of_lem s main st x.fill c x.body (drop next s) x.other x.stands
      ∙ ap (λ (b : Bool). cond b (Some (be16_at s (behind + 10))) None) t

  -- one that gives none, and one that does
  pub plain_test : tag_of s st c n ≡ None → eqb st.said.res 0 && tagged c x.body ≡ false
  plain_test q =
      says_fails (says_true (eqb st.said.res 0 && tagged c x.body))
      (λ t. let z : Some (be16_at s (behind + 10)) ≡ None = sym (tag_by true t) ∙ q in clash cc)

  pub gives_test : (v : ℕ) → tag_of s st c n ≡ Some v → (eqb st.said.res 0 && tagged c x.body ≡ true) × (v ≡ be16_at x.body 8)
  gives_test v q =
      ⊎_elim
      (λ (t : eqb st.said.res 0 && tagged c x.body ≡ true).
      let z : Some (be16_at s (behind + 10)) ≡ Some v = sym (tag_by true t) ∙ q in
      let u : be16_at s (behind + 10) ≡ v = cc in
      let b = (says_and (says_eq st.said.res 0) (says_true (tagged c x.body))).told t in
      let l = tagged_long s main c x.body b.1 in
      let y : behind + 2 + 8 ≡ behind + 10 = omega arith in
      (t, sym u ∙ number_is s main st x.fill c x.body (drop next s) x.other x.stands 8 (behind + 10) y (omega arith)))
      (λ (t : eqb st.said.res 0 && tagged c x.body ≡ false). let z : None ≡ Some v = sym (tag_by false t) ∙ q in clash cc)
      (bool_else (eqb st.said.res 0 && tagged c x.body))

-- ---- after the frame

pub record Tail (s : List ℕ) (st : Reach) (e : ℕ) (said : Said) : Type 0 where
  pub after : List Piece
  pub good : Each Good after
  pub last : ℕ
  pub octets : drop st.at s ≡ pieces_of after ++ (marker last 0xD9 ++ drop e s)
  pub scanned : (st.scanned ≡ true) ⊎ Scanned after
  pub says : st.said ≡ said
  pub ends : e ≡ st.at + length (pieces_of after) + last + 2
  pub inside : e ≤ length s

-- one piece in front
tail_more : (s : List ℕ) (st t : Reach) (e : ℕ) (said : Said) (p : Piece) → Over s st t p
    → ((t.scanned ≡ true) → (st.scanned ≡ true) ⊎ (is_scan p ≡ true))
    → t.said ≡ st.said → Tail s t e said → Tail s st e said
unfolding Each pieces_of Scanned
tail_more s st t e said p y sc ts k =
    let a = y.at in
    let l = length-append (octets_of p) (pieces_of k.after) in
    let z = k.ends in
    record {
      after = p ∷ k.after;
      good = (y.good, k.good);
      last = k.last;
      octets =
          y.stands ∙ ap (λ (x : List ℕ). octets_of p ++ x) k.octets
          ∙ sym (append_assoc (octets_of p) (pieces_of k.after) (marker k.last 0xD9 ++ drop e s));
      scanned =
          ⊎_elim (λ (u : t.scanned ≡ true). ⊎_map (λ (x : st.scanned ≡ true). x) (λ (x : is_scan p ≡ true). inl x) (sc u)) (λ (u : Scanned k.after). inr (inr u)) k.scanned;
      says = sym ts ∙ k.says;
      ends = omega arith;
      inside = k.inside;
    }

tag_gives : (s : List ℕ) (st : Reach) (c n v : ℕ) → tag_of s st c n ≡ Some v → st.said.res ≡ 0
unfolding tag_of
tag_gives s st c n v =
    cond_with (λ x. x ≡ Some v → st.said.res ≡ 0) (eqb c 0xE1 && eqb st.said.res 0 && leb 12 (be16_at s n) && stands_at s (n + 2) g3fax)
    (λ t e.
    ((says_and (says_and (says_and (says_eq c 0xE1) (says_eq st.said.res 0)) (says_le 12 (be16_at s n))) (says_true (stands_at s (n + 2) g3fax))).told t).0.0.1)
    (λ t e. clash cc)

module _ (s : List ℕ) (o : Octets s) (main e : ℕ) (said : Said) where
  tail_end : (st : Reach) → Ended s main st e said → Tail s st e said
  unfolding Each pieces_of
  tail_end st k =
      let m = marker_back s st.at k.c e k.marker in
      let z = m.ends in
      record {
        after = [];
        good = tt;
        last = m.fill;
        octets = m.stands ∙ ap (λ (c : ℕ). marker m.fill c ++ drop e s) (class_coded k.c End (λ z. clash cc) k.class);
        scanned = inl k.scanned;
        says = k.says;
        ends = omega arith;
        inside = m.inside;
      }

  reach_of : {A : Type 0} {t u : Reach} (f : Reach → A) → t ≡ u → f u ≡ f t
  reach_of f q = ap f (sym q)

  tail_onward : (st t : Reach) → st.framed ≡ true → st.said.res ≢ 0 → Onward s main st t
      → ((t.framed ≡ true) → (t.said.res ≢ 0) → Tail s t e said) → Tail s st e said
  unfolding octets_of Good is_scan
  tail_onward st t f d (by_alone c n m k q) go =
      let x = marker_back s st.at c n m in
      tail_more s st t e said (alone x.fill) (alone_over s st t c n x k (reach_of (λ (z : Reach). z.at) q))
      (λ y. inl (reach_of (λ (z : Reach). z.scanned) (sym q) ∙ y)) (reach_of (λ (z : Reach). z.said) q)
      (go (reach_of (λ (z : Reach). z.framed) q ∙ f) (λ y. d (sym (reach_of (λ (z : Reach). z.said.res) q) ∙ y)))
  tail_onward st t f d (by_frame c n next m k nf nr g nh nw co q) go = absurd (false≢true (sym nf ∙ f))
  tail_onward st t f d (by_scan c n next p m k fr g fo q) go =
      let x = stood s o st.at c n 2 next (omega arith) m g in
      tail_more s st t e said (scan x.fill x.body (take (p - next) (drop next s))) (scan_over s st t c n next x p k fo (reach_of (λ (z : Reach). z.at) q))
      (λ u. inr refl) (reach_of (λ (z : Reach). z.said) q)
      (go (reach_of (λ (z : Reach). z.framed) q) (λ u. d (sym (reach_of (λ (z : Reach). z.said.res) q) ∙ u)))
  tail_onward st t f d (by_plain c n next m k g pl q) go =
      let x = stood s o st.at c n 2 next (omega arith) m g in
      tail_more s st t e said (segment x.fill c x.body) (segment_over s st t c n next x k (reach_of (λ (z : Reach). z.at) q))
      (λ y. inl (reach_of (λ (z : Reach). z.scanned) (sym q) ∙ y)) (reach_of (λ (z : Reach). z.said) q)
      (go (reach_of (λ (z : Reach). z.framed) q ∙ f) (λ y. d (sym (reach_of (λ (z : Reach). z.said.res) q) ∙ y)))
  tail_onward st t f d (by_tag c n next v m k g gv ok q) go = absurd (d (tag_gives s st c n v gv))

  pub tail_back : {st : Reach} {x : Result (ℕ × Said) Fault} → Walks s main st x → x ≡ Ok (e, said) → st.framed ≡ true → st.said.res ≢ 0 → Tail s st e said
  tail_back {st} {x} (stops q) z f d = tail_end st ((turn_told s main st).1 e said (q ∙ ap Break z))
  tail_back {st} {x} (goes {t = t} q more) z f d =
      tail_onward st t f d ((turn_told s main st).0 t q) (λ tf td. tail_back more z tf td)
