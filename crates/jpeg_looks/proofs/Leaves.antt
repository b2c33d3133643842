-- The leaves of the walk depend on their octets: a marker, a segment's length, scan data up to the next marker, a tag, a frame's body.
-- Assumes nothing.
use Prim.Native.Nat.{ℕ, ◌+◌, ◌-◌, ◌≤◌}
use native.Mathlib.Omega.{arith}
use mathlib.Core.Path.{◌≡◌, refl, sym, ap, ap₂, subst, ◌∙◌}
use mathlib.Core.Logic.{◌≢◌, ⊎_elim}
use mathlib.Core.Bool.{Bool, true, false, ◌&&◌}
use mathlib.Core.List.{List, ◌++◌}
use lib.ListN.{length, get_or, take, drop, length-drop, take-append-drop}
use lib.Seq.{length-take-le, take-add, take_at, drop_at, drop-drop}
use lib.Dec.{leb, ltb}
use borrow.Author.Tests.{le-ltb, ne_eqb, ltb-false, leb-true}
use Rattle.octets.specs.Octets.{be16_at, stands_at}
use Rattle.octets.proofs.Agree.{Agree, agree_less, octet_agree, be16_agree, stands_agree, Hangs}
use Rattle.laws.proofs.Cases.{cond_with, bool_else, clash}
use Rattle.jpeg_rules.specs.declared.Marker.TheVariants.{Code, Missing}
use Rattle.jpeg_rules.specs.declared.Fault.{Fault}
use Rattle.jpeg_rules.specs.declared.Fault.TheVariants.{Short, BadLength}
use Rattle.std.specs.Prelude.{Some, Ok, Err}
use Rattle.jpeg_rules.specs.declared.Reach.{Reach}
use Rattle.jpeg_rules.specs.Marker.{marker_of}
use Rattle.jpeg_rules.specs.Grammar.{marker, g3fax}
use Rattle.jpeg_rules.specs.Walk.{seg_of, scan_of, tag_of, frame_body_of}
use Rattle.jpeg_rules.proofs.Runs.{length_marker, marker_there, marker_is, marker_by, marker_back}
use Rattle.jpeg_rules.proofs.Scans.{scan_there, scan_back, scan_split}

-- what a length test says
module _ (s : List ℕ) (n : ℕ) where
  pub record Whole (least next : ℕ) : Type 0 where
    pub long : n + least ≤ next
    pub size : next ≡ n + be16_at s n
    pub hangs : Hangs next (λ (t : List ℕ). seg_of t n least) s n

  pub seg_whole : (least next : ℕ) → 2 ≤ least → seg_of s n least ≡ Ok next → Whole least next
  unfolding seg_of
  seg_whole least next two =
      cond_with (λ x. x ≡ Ok next → Whole least next) (ltb (length s) (n + 2)) (λ t e. clash cc) λ f1.
      cond_with (λ x. x ≡ Ok next → Whole least next) (ltb (be16_at s n) least) (λ t e. clash cc) λ f2.
      cond_with (λ x. x ≡ Ok next → Whole least next) (ltb (length s) (n + be16_at s n)) (λ t e. clash cc) λ f3 e.
      let h2 = ltb-false (be16_at s n) least f2 in
      let h3 = ltb-false (length s) (n + be16_at s n) f3 in
      let z : n + be16_at s n ≡ next = cc in
      subst (Whole least) z
      (record {
        long = omega arith;
        size = refl;
        hangs =
            record {
              ahead = omega arith;
              inside = h3;
              same = λ t a.
                  let r = a.right in
                  let q : be16_at t n ≡ be16_at s n = sym (be16_agree (n + be16_at s n) s t a n (omega arith)) in
                  simp (f1, f2, f3, q, le-ltb (length t) (n + 2) (omega arith), le-ltb (length t) (n + be16_at s n) r);
            };
      })

  -- a length at fault, which is decided by its own two octets
  abbrev SegBad : ℕ → Fault → Type 0
  SegBad least f = ((p : ℕ) → f ≡ Short p → ⊥) → (f ≡ BadLength n) × Hangs (n + 2) (λ (t : List ℕ). seg_of t n least) s n

  pub seg_bad : (least : ℕ) (f : Fault) → seg_of s n least ≡ Err f → SegBad least f
  unfolding seg_of
  seg_bad least f =
      cond_with (λ x. x ≡ Err f → SegBad least f) (ltb (length s) (n + 2)) (λ t e u. absurd (u n cc)) λ f1.
      cond_with (λ x. x ≡ Err f → SegBad least f) (ltb (be16_at s n) least)
      (λ f2 e u. (
        cc,
        record {
          ahead = omega arith;
          inside = ltb-false (length s) (n + 2) f1;
          same = λ t a.
              let q : be16_at t n ≡ be16_at s n = sym (be16_agree (n + 2) s t a n (omega arith)) in simp (f1, f2, q, le-ltb (length t) (n + 2) a.right);
        },
      )) λ f2.
      cond_with (λ x. x ≡ Err f → SegBad least f) (ltb (length s) (n + be16_at s n)) (λ t e u. absurd (u (n + 2) cc)) (λ t e. clash cc)

-- ---- a marker, and scan data up to the next one

module _ (s t : List ℕ) (e : ℕ) (a : Agree e s t) where
  taken : (i n : ℕ) → i + n ≤ e → take n (drop i t) ≡ take n (drop i s)
  taken i n h =
      let b = agree_less (i + n) e s t h a in
      let l = b.left in
      let r = b.right in
      sym (drop_at (take i t) (take n (drop i t)) i (length-take-le i t (omega arith)))
      ∙ ap (drop i) (sym (take-add i n t) ∙ sym b.same ∙ take-add i n s)
      ∙ drop_at (take i s) (take n (drop i s)) i (length-take-le i s (omega arith))

  -- what stands at a place stands there in both
  stands_both : (i n : ℕ) (l : List ℕ) → n ≡ i + length l → n ≤ e → drop i s ≡ l ++ drop n s → drop i t ≡ l ++ drop n t
  stands_both i n l q h d =
      sym (take-append-drop (length l) (drop i t))
      ∙ ap₂ (λ (x y : List ℕ). x ++ y) (taken i (length l) (omega arith) ∙ ap (take (length l)) d ∙ take_at l (drop n s) (length l) refl)
      (drop-drop (length l) i t ∙ ap (λ (k : ℕ). drop k t) (sym q))

pub code_hangs : (s : List ℕ) (at c n : ℕ) → marker_of s at ≡ Code c n → Hangs n (λ (t : List ℕ). marker_of t at) s n
code_hangs s at c n e =
    let k = marker_back s at c n e in
    let q = k.ends in
    let m = length_marker k.fill c in
    record {
      ahead = omega arith;
      inside = k.inside;
      same = λ t a.
          marker_there t at k.fill c (drop n t) k.other (stands_both s t n a at n (marker k.fill c) (omega arith) (omega arith) k.stands)
          ∙ ap (Code c) (sym q)
          ∙ sym e;
    }

missing : (t : List ℕ) (at : ℕ) → at + 2 ≤ length t → get_or t at 0 ≢ 0xFF → marker_of t at ≡ Missing
unfolding marker_of
missing t at h x = simp (le-ltb (length t) (at + 2) h, ne_eqb (get_or t at 0) 0xFF x)

pub missing_hangs : (s : List ℕ) (at : ℕ) → marker_of s at ≡ Missing → Hangs (at + 2) (λ (t : List ℕ). marker_of t at) s (at + 2)
missing_hangs s at =
    marker_by s at (λ x. x ≡ Missing → Hangs (at + 2) (λ (t : List ℕ). marker_of t at) s (at + 2)) (λ l e. clash cc)
    (λ h x e.
    record {
      ahead = omega arith;
      inside = h;
      same = λ t a. missing t at a.right (λ q. x (octet_agree (at + 2) s t a at (omega arith) ∙ q)) ∙ sym (missing s at h x);
    })
    (λ h x l e. clash cc) (λ h x l e. clash cc)

-- scan data and the marker after it are found in any list where the same octets stand
pub scan_hangs : (s : List ℕ) (i p c n : ℕ) → scan_of s i ≡ Some p → marker_of s p ≡ Code c n → Hangs n (λ (t : List ℕ). scan_of t i) s i
scan_hangs s i p c n e m =
    let b = scan_back s i p e in
    let k = b.marked in
    let z : Code b.code b.next ≡ Code c n = sym (marker_is s p b.code b.next k) ∙ m in
    let y : b.next ≡ n = cc in
    let h = b.after in
    let q = k.ends in
    let g = k.inside in
    let l = length_marker k.fill b.code in
    let coded : List ℕ = take (p - i) (drop i s) in
    let size : length coded ≡ p - i = length-take-le (p - i) (drop i s) (let d = length-drop i s in omega arith) in
    record {
      ahead = omega arith;
      inside = omega arith;
      same = λ t a.
          let w : i + length coded ≡ p = omega arith in
          let mark : drop p t ≡ marker k.fill b.code ++ drop b.next t =
          stands_both s t n a p b.next (marker k.fill b.code) (omega arith) (omega arith) k.stands in
          scan_there t coded b.coded i (drop p t) (stands_both s t n a i p coded (omega arith) (omega arith) (scan_split s i p h))
          (record { fill = k.fill; code = b.code; rest = drop b.next t; is = mark; other = k.other; stop = b.stop })
          ∙ ap Some w
          ∙ sym e;
    }

module _ (s : List ℕ) (st : Reach) (c n next : ℕ) (size : next ≡ n + be16_at s n) (inside : next ≤ length s) where
  pub tag_hangs : n + 2 ≤ next → Hangs next (λ (t : List ℕ). tag_of t st c n) s n
  unfolding tag_of
  tag_hangs h =
      record {
        ahead = omega arith;
        inside = inside;
        same = λ t a.
            let q : be16_at t n ≡ be16_at s n = sym (be16_agree next s t a n (omega arith)) in
            ⊎_elim
            (λ (k : leb 12 (be16_at s n) ≡ true).
            let l = leb-true 12 (be16_at s n) k in
            let v : be16_at t (n + 10) ≡ be16_at s (n + 10) = sym (be16_agree next s t a (n + 10) (omega arith)) in
            let w : stands_at t (n + 2) g3fax ≡ stands_at s (n + 2) g3fax = sym (stands_agree next s t a g3fax (n + 2) (omega arith)) in
            simp (q, v, w))
            (λ (k : leb 12 (be16_at s n) ≡ false). simp (q, k, none))
            (bool_else (leb 12 (be16_at s n)));
      }
    where
      none : (b d : Bool) → b && false && d ≡ false
      none true d = refl
      none false d = refl

  pub frame_hangs : n + 8 ≤ next → Hangs next (λ (t : List ℕ). frame_body_of t st n next) s next
  unfolding frame_body_of
  frame_hangs h =
      record {
        ahead = omega arith;
        inside = inside;
        same = λ t a.
            let u : be16_at t (n + 3) ≡ be16_at s (n + 3) = sym (be16_agree next s t a (n + 3) (omega arith)) in
            let v : be16_at t (n + 5) ≡ be16_at s (n + 5) = sym (be16_agree next s t a (n + 5) (omega arith)) in
            let w : get_or t (n + 7) 0 ≡ get_or s (n + 7) 0 = sym (octet_agree next s t a (n + 7) (omega arith)) in
            simp (u, v, w);
      }
