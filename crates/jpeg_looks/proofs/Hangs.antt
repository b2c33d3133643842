-- The walk depends on the octets up to where it looked: two lists that agree so far are walked alike, refusals too. Where it ends it looked up to
-- its end, and where it is refused, past the place and not far beyond.
-- Assumes nothing.
use Prim.Native.Nat.{ℕ, zero, suc, ◌+◌, ◌-◌, ◌≤◌, ◌<◌}
use native.Mathlib.Omega.{arith}
use mathlib.Core.Path.{◌≡◌, refl, sym, ap, ap₂, subst, ◌∙◌}
use mathlib.Core.Bool.{Bool, true, false, ◌&&◌, cond}
use mathlib.Core.List.{List}
use lib.ListN.{length, get_or}
use lib.Dec.{eqb, ltb}
use borrow.Author.Tests.{ltb-false}
use Rattle.octets.specs.Octets.{Octets, be16_at}
use Rattle.octets.proofs.Laws.{be16_bound}
use Rattle.octets.proofs.Agree.{octet_agree, Hangs, hangs_none, hangs_as, hangs_from, hangs_then, hangs_fits}
use Rattle.laws.proofs.Cases.{cond_with, clash}
use Rattle.jpeg_rules.specs.declared.Class.{Class}
use Rattle.jpeg_rules.specs.declared.Class.TheVariants.{Alone, Frame, Scan, End, Wrong, Segment}
use Rattle.jpeg_rules.specs.declared.Marker.{Marker}
use Rattle.jpeg_rules.specs.declared.Marker.TheVariants.{Code, Missing, Cut}
use Rattle.jpeg_rules.specs.declared.Fault.{Fault}
use Rattle.jpeg_rules.specs.declared.Fault.TheVariants.{Short, BadRes, BadLayer}
use Rattle.std.specs.Prelude.{Option, Some, None, Result, Ok, Err}
use Rattle.jpeg_rules.specs.declared.Said.{Said}
use Rattle.jpeg_rules.specs.declared.Reach.{Reach}
use Rattle.jpeg_rules.specs.Walk.{Turn, seg_of, scan_of, resolves, tag_of, framed, passed, moved, refused, on_body, on_found, on_tag, components_ok, frame_body_of, frame_of, scan_step_of, segment_of, end_of, mark_of, on_marker, turn_of, on_turn, walk_from, begun, walk_of}
use Rattle.std.specs.declared.ops.ControlFlow.TheVariants.{Continue, Break}
use Rattle.jpeg_rules.specs.Marker.{class_of, marker_of}
use Rattle.jpeg_looks.proofs.Look.{body_look, whole, found_look, mark_look, marker_look, mark_end, turn_look, onward_look, walk_look_from, walk_look, walk_beyond}
use Rattle.jpeg_rules.proofs.Runs.{fill_end, Marked, marker_back, marker_is, fill_marked}
use Rattle.jpeg_rules.proofs.Scans.{scan_back}
use Rattle.jpeg_rules.proofs.Walks.{turn_told, ahead}
use Rattle.jpeg_rules.proofs.Within.{place_of, tag_long}
use Rattle.jpeg_looks.proofs.Leaves.{Whole, seg_whole, seg_bad, code_hangs, missing_hangs, scan_hangs, tag_hangs, frame_hangs}

-- ---- how near the end or the place of a refusal

-- where the walk ends it looked up to its end; where it is refused, past the place and not far beyond
unfoldable pub NearWalk : List ℕ → ℕ → Result (ℕ × Said) Fault → Type 0
NearWalk s look (Ok (e, said)) = look ≡ e
NearWalk s look (Err f) = (place_of f < look) × (look ≤ place_of f + walk_beyond s f)

pub record Looked (look : ℕ) (read : List ℕ → Result (ℕ × Said) Fault) (s : List ℕ) (at : ℕ) : Type 0 where
  pub hangs : Hangs look read s at
  pub near : NearWalk s look (read s)

-- not Short
abbrev pub UncutWalk : Result (ℕ × Said) Fault → Type 0
UncutWalk w = (p : ℕ) → w ≡ Err (Short p) → ⊥

abbrev Uncut : Turn → Type 0
Uncut x = (p : ℕ) → x ≡ refused (Short p) → ⊥

-- where a turn goes on it looked at most at the marker there
unfoldable NearTurn : List ℕ → ℕ → Turn → Type 0
unfolding NearWalk
NearTurn s look (Continue t) = (t.at ≤ look) × (look ≤ mark_end s t.at)
NearTurn s look (Break w) = NearWalk s look w

-- a marker ends after its place
mark_ahead : (s : List ℕ) (at : ℕ) → at ≤ mark_end s at
unfolding mark_end
mark_ahead s at = by (marker_of s at) refl
  where
    by : (x : Marker) → marker_of s at ≡ x → at ≤ marker_look x at (λ (c n : ℕ). n)
    by (Code c n) e = let k = (marker_back s at c n e).ends in omega arith
    by Missing e = omega arith
    by Cut e = omega arith

-- and with its code, after its fill
code_end : (s : List ℕ) (at c n : ℕ) → marker_of s at ≡ Code c n → mark_end s at ≡ n
unfolding mark_end
code_end s at c n e = ap (λ (x : Marker). marker_look x at (λ (c n : ℕ). n)) e

-- ---- one marker

module _ (s : List ℕ) (o : Octets s) (main : ℕ) where
  record Turned (look : ℕ) (read : List ℕ → Turn) (at : ℕ) : Type 0 where
    hangs : Hangs look read s at
    near : NearTurn s look (read s)

  turned_then : {B : Type 0} (part : List ℕ → B) (on : B → List ℕ → Turn) (b : B) (d look at : ℕ) → part s ≡ b → Hangs d part s at → Turned look (on b) d
      → Turned look (λ (t : List ℕ). on (part t) t) at
  turned_then part on b d look at e p x =
      record { hangs = hangs_then s part on b d look at e p x.hangs; near = subst (λ c. NearTurn s look (on c s)) (sym e) x.near }

  turned_none : (x : Turn) (at : ℕ) → at ≤ length s → NearTurn s at x → Turned at (λ (t : List ℕ). x) at
  turned_none x at h k = record { hangs = hangs_none s x at at (omega arith) h; near = k }

  -- a marker with a length, and then its body
  turned_body : (n least : ℕ) (go : ℕ → List ℕ → Turn) (look : ℕ → ℕ) → 2 ≤ least
      → ((next : ℕ) → Whole s n least next → Uncut (go next s) → Turned (look next) (go next) next)
      → Uncut (on_body (seg_of s n least) (λ (next : ℕ). go next s))
      → Turned (body_look (seg_of s n least) n look) (λ (t : List ℕ). on_body (seg_of t n least) (λ (next : ℕ). go next t)) n
  unfolding NearTurn place_of walk_beyond
  turned_body n least go look two k = by (seg_of s n least) refl
    where
      by : (g : Result ℕ Fault) → seg_of s n least ≡ g → Uncut (on_body g (λ (next : ℕ). go next s))
          → Turned (body_look g n look) (λ (t : List ℕ). on_body (seg_of t n least) (λ (next : ℕ). go next t)) n
      by (Ok next) e u =
          let w = seg_whole s n least next two e in
          turned_then (λ (t : List ℕ). seg_of t n least) (λ (g : Result ℕ Fault) (t : List ℕ). on_body g (λ (m : ℕ). go m t)) (Ok next) next (look next) n e w.hangs (k next w u)
      by (Err f) e u =
          let w = seg_bad s n least f e (λ p q. u p (ap refused q)) in
          let i = w.1.inside in
          turned_then (λ (t : List ℕ). seg_of t n least) (λ (g : Result ℕ Fault) (t : List ℕ). on_body g (λ (m : ℕ). go m t)) (Err f) (n + 2) (n + 2) n e w.1
          (turned_none (refused f) (n + 2) i (subst (λ (g : Fault). NearTurn s (n + 2) (refused g)) (sym w.0) (let y : (n < n + 2) × (n + 2 ≤ n + 2) = (omega arith, omega arith) in y)))

  module _ (st : Reach) (c n : ℕ) (k : Marked s st.at c n) where
    -- its last octet is the code, behind octets FF from its place on
    fill_end_lem : fill_end s st.at + 1 ≡ n
    fill_end_lem = fill_marked s st.at c n k

    -- a marker that may not stand there
    turned_wrong : Turned n (λ (t : List ℕ). refused (BadLayer st.at)) n
    unfolding NearTurn place_of walk_beyond
    turned_wrong =
        let e = k.ends in
        let f = fill_end_lem in
        turned_none (refused (BadLayer st.at)) n k.inside (omega arith, omega arith)

    turned_frame : Uncut (frame_of s st n) → Turned (mark_look s st n Frame) (λ (t : List ℕ). frame_of t st n) n
    unfolding frame_of frame_body_of mark_look NearTurn place_of walk_beyond
    turned_frame = by st.framed (eqb st.said.res 0)
      where
        body : (next : ℕ) → Whole s n 8 next → Uncut (frame_body_of s st n next) → Turned next (λ (t : List ℕ). frame_body_of t st n next) next
        body next w u =
            let l = w.long in
            let e = w.size in
            let m = be16_bound s n o in
            record {
              hangs = frame_hangs s st c n next e w.hangs.inside l;
              near =
                  cond_with (NearTurn s next) (eqb (be16_at s (n + 3)) 0) (λ q. let y : (n + 3 < next) × (next ≤ n + 3 + (fill_end s (n + 3) - (n + 3) + 65532)) = (omega arith, omega arith) in y) λ q.
                  cond_with (NearTurn s next) (eqb (be16_at s (n + 5)) 0) (λ q. let y : (n + 5 < next) × (next ≤ n + 5 + (fill_end s (n + 5) - (n + 5) + 65532)) = (omega arith, omega arith) in y) λ q.
                  cond_with (NearTurn s next) (components_ok (get_or s (n + 7) 0)) (λ q. let y : (next ≤ next) × (next ≤ mark_end s next) = (omega arith, mark_ahead s next) in y)
                  (λ q. let y : (n + 7 < next) × (next ≤ n + 7 + (fill_end s (n + 7) - (n + 7) + 65532)) = (omega arith, omega arith) in y);
            }

        by : (f d : Bool)
            → Uncut (cond f (refused (BadLayer st.at)) (cond d (refused (BadLayer st.at)) (on_body (seg_of s n 8) (λ (next : ℕ). frame_body_of s st n next))))
            → Turned (cond f n (cond d n (body_look (seg_of s n 8) n whole)))
            (λ (t : List ℕ). cond f (refused (BadLayer st.at)) (cond d (refused (BadLayer st.at)) (on_body (seg_of t n 8) (λ (next : ℕ). frame_body_of t st n next)))) n
        by true d u = turned_wrong
        by false true u = turned_wrong
        by false false u = turned_body n 8 (λ (next : ℕ) (t : List ℕ). frame_body_of t st n next) whole (omega arith) body u

    turned_scan : Uncut (scan_step_of s st n) → Turned (mark_look s st n Scan) (λ (t : List ℕ). scan_step_of t st n) n
    unfolding scan_step_of mark_look NearTurn
    turned_scan = by st.framed
      where
        found : (next : ℕ) → (x : Option ℕ) → scan_of s next ≡ x → Uncut (on_found x next (λ (p : ℕ). Continue (passed st p)))
            → Turned (found_look s x next) (λ (t : List ℕ). on_found (scan_of t next) next (λ (p : ℕ). Continue (passed st p))) next
        found next (Some p) e u =
            let b = scan_back s next p e in
            let m = b.marked in
            let q = m.ends in
            let z = code_end s p b.code b.next (marker_is s p b.code b.next m) in
            let h = subst (λ (j : ℕ). Hangs j (λ (t : List ℕ). scan_of t next) s next) (sym z) (scan_hangs s next p b.code b.next e (marker_is s p b.code b.next m)) in
            turned_then (λ (t : List ℕ). scan_of t next) (λ (x : Option ℕ) (t : List ℕ). on_found x next (λ (q : ℕ). Continue (passed st q))) (Some p) (mark_end s p) (mark_end s p) next e h
            (turned_none (Continue (passed st p)) (mark_end s p) h.inside (let y : (p ≤ mark_end s p) × (mark_end s p ≤ mark_end s p) = (mark_ahead s p, omega arith) in y))
        found next None e u = absurd (u next refl)

        by : (f : Bool)
            → Uncut (cond f (on_body (seg_of s n 2) (λ (next : ℕ). on_found (scan_of s next) next (λ (p : ℕ). Continue (passed st p)))) (refused (BadLayer st.at)))
            → Turned (cond f (body_look (seg_of s n 2) n (λ (next : ℕ). found_look s (scan_of s next) next)) n)
            (λ (t : List ℕ). cond f (on_body (seg_of t n 2) (λ (next : ℕ). on_found (scan_of t next) next (λ (p : ℕ). Continue (passed st p)))) (refused (BadLayer st.at))) n
        by true u =
            turned_body n 2 (λ (next : ℕ) (t : List ℕ). on_found (scan_of t next) next (λ (p : ℕ). Continue (passed st p)))
            (λ (next : ℕ). found_look s (scan_of s next) next) (omega arith) (λ next w v. found next (scan_of s next) refl v) u
        by false u = turned_wrong

    -- what a segment's tag leads to
    abbrev judged : ℕ → Option ℕ → Turn
    judged next x = on_tag x (Continue (moved st next st.said.res)) (λ (r : ℕ). cond (resolves main r) (Continue (moved st next r)) (refused (BadRes (n + 10))))

    turned_segment : Uncut (segment_of s main st c n) → Turned (mark_look s st n Segment) (λ (t : List ℕ). segment_of t main st c n) n
    unfolding segment_of mark_look NearTurn place_of walk_beyond
    turned_segment =
        turned_body n 2 (λ (next : ℕ) (t : List ℕ). judged next (tag_of t st c n)) whole (omega arith) λ next w v.
        let e = w.size in
        let l = w.long in
        turned_then (λ (t : List ℕ). tag_of t st c n) (λ (x : Option ℕ) (t : List ℕ). judged next x) (tag_of s st c n) next next next refl
        (hangs_from s (λ (t : List ℕ). tag_of t st c n) next n next (omega arith) (tag_hangs s st c n next e w.hangs.inside l))
        (turned_none (judged next (tag_of s st c n)) next w.hangs.inside (near next (tag_of s st c n) refl e))
      where
        near : (next : ℕ) (x : Option ℕ) → tag_of s st c n ≡ x → next ≡ n + be16_at s n → NearTurn s next (judged next x)
        near next None q e = let y : (next ≤ next) × (next ≤ mark_end s next) = (omega arith, mark_ahead s next) in y
        near next (Some v) q e =
            let l = tag_long s st c n v q in
            let m = be16_bound s n o in
            cond_with (NearTurn s next) (resolves main v) (λ g. let y : (next ≤ next) × (next ≤ mark_end s next) = (omega arith, mark_ahead s next) in y)
            (λ g. let y : (n + 10 < next) × (next ≤ n + 10 + 65525) = (omega arith, omega arith) in y)

    turned_end : Turned n (λ (t : List ℕ). end_of st n) n
    unfolding end_of NearTurn place_of walk_beyond
    turned_end =
        let e = k.ends in
        let f = fill_end_lem in
        turned_none (end_of st n) n k.inside
        (cond_with (NearTurn s n) st.scanned (λ d. refl)
        (λ d. let y : (st.at < n) × (n ≤ st.at + (fill_end s st.at - st.at + 65532)) = (omega arith, omega arith) in y))

    turned_mark : (x : Class) → Uncut (mark_of s main st c n x) → Turned (mark_look s st n x) (λ (t : List ℕ). mark_of t main st c n x) n
    unfolding mark_of mark_look NearTurn
    turned_mark Alone u = turned_none (Continue (moved st n st.said.res)) n k.inside (let y : (n ≤ n) × (n ≤ mark_end s n) = (omega arith, mark_ahead s n) in y)
    turned_mark Frame u = turned_frame u
    turned_mark Scan u = turned_scan u
    turned_mark End u = turned_end
    turned_mark Wrong u = turned_wrong
    turned_mark Segment u = turned_segment u

  turn_hangs : (st : Reach) → Uncut (turn_of s main st) → Turned (turn_look s st) (λ (t : List ℕ). turn_of t main st) (mark_end s st.at)
  unfolding turn_of turn_look NearTurn place_of walk_beyond mark_end
  turn_hangs st = by (marker_of s st.at) refl
    where
      on : Marker → List ℕ → Turn
      on x t = on_marker x st.at (λ (c n : ℕ). mark_of t main st c n (class_of c))

      by : (x : Marker) → marker_of s st.at ≡ x → Uncut (on_marker x st.at (λ (c n : ℕ). mark_of s main st c n (class_of c)))
          → Turned (marker_look x st.at (λ (c n : ℕ). mark_look s st n (class_of c)))
          (λ (t : List ℕ). on_marker (marker_of t st.at) st.at (λ (c n : ℕ). mark_of t main st c n (class_of c))) (marker_look x st.at (λ (c n : ℕ). n))
      by (Code c n) e u =
          turned_then (λ (t : List ℕ). marker_of t st.at) on (Code c n) n (mark_look s st n (class_of c)) n e (code_hangs s st.at c n e)
          (turned_mark st c n (marker_back s st.at c n e) (class_of c) u)
      by Missing e u =
          let h = missing_hangs s st.at e in
          turned_then (λ (t : List ℕ). marker_of t st.at) on Missing (st.at + 2) (st.at + 2) (st.at + 2) e h
          (turned_none (refused (BadLayer st.at)) (st.at + 2) h.inside
          (let y : (st.at < st.at + 2) × (st.at + 2 ≤ st.at + (fill_end s st.at - st.at + 65532)) = (omega arith, omega arith) in y))
      by Cut e u = absurd (u st.at refl)

  -- ---- the walk, whatever its count: one for each list that is enough for it

  -- a turn, and then the walk after it
  walk_turn : (k : ℕ) (count : List ℕ → ℕ) (st : Reach) → count s ≡ suc k → ((t : List ℕ) → length t < count t + st.at)
      → ((x : Reach) → st.at + 2 ≤ x.at → UncutWalk (walk_from k s main x) → Looked (walk_look_from k s main x) (λ (t : List ℕ). walk_from (count t - 1) t main x) s (mark_end s x.at))
      → UncutWalk (walk_from (suc k) s main st) → Looked (walk_look_from (suc k) s main st) (λ (t : List ℕ). walk_from (count t) t main st) s (mark_end s st.at)
  unfolding walk_from walk_look_from NearTurn
  walk_turn k count st e enough rest = by (turn_of s main st) refl
    where
      on : Turn → List ℕ → Result (ℕ × Said) Fault
      on x t = on_turn x (λ (y : Reach). walk_from (count t - 1) t main y)

      unrolled : (t : List ℕ) → st.at ≤ length t → walk_from (count t) t main st ≡ on (turn_of t main st) t
      unrolled t h = let g = enough t in let z : count t ≡ suc (count t - 1) = omega arith in ap (λ (j : ℕ). walk_from j t main st) z

      made : (x : Turn) (look : ℕ) → turn_of s main st ≡ x → Turned (turn_look s st) (λ (t : List ℕ). turn_of t main st) (mark_end s st.at)
          → Hangs look (on x) s (turn_look s st) → NearWalk s look (on x s) → Looked look (λ (t : List ℕ). walk_from (count t) t main st) s (mark_end s st.at)
      made x look q y h n =
          let a = y.hangs.ahead in
          let b = h.ahead in
          let i = h.inside in
          let m = mark_ahead s st.at in
          record {
            hangs =
                hangs_as s (λ (t : List ℕ). on (turn_of t main st) t) (λ (t : List ℕ). walk_from (count t) t main st) look (mark_end s st.at)
                (λ t l. unrolled t (omega arith))
                (hangs_then s (λ (t : List ℕ). turn_of t main st) on x (turn_look s st) look (mark_end s st.at) q y.hangs h);
            near = subst (NearWalk s look) (sym (unrolled s (omega arith) ∙ ap (λ (z : Turn). on z s) q)) n;
          }

      by : (x : Turn) → turn_of s main st ≡ x → UncutWalk (on_turn x (λ (y : Reach). walk_from k s main y))
          → Looked (onward_look x (turn_look s st) (λ (y : Reach). walk_look_from k s main y)) (λ (t : List ℕ). walk_from (count t) t main st) s (mark_end s st.at)
      by (Break w) q u =
          let y = turn_hangs st (λ p z. u p cc) in
          made (Break w) (turn_look s st) q y (hangs_none s w (turn_look s st) (turn_look s st) (omega arith) y.hangs.inside) (subst (NearTurn s (turn_look s st)) q y.near)
      by (Continue x) q u =
          let y = turn_hangs st (λ p z. clash cc) in
          let n = subst (NearTurn s (turn_look s st)) q y.near in
          let n1 = n.1 in
          let r = rest x (ahead s main st x ((turn_told s main st).0 x q)) u in
          let ra = r.hangs.ahead in
          made (Continue x) (walk_look_from k s main x) q y
          (hangs_from s (λ (t : List ℕ). walk_from (count t - 1) t main x) (walk_look_from k s main x) (mark_end s x.at) (turn_look s st) (omega arith) r.hangs) r.near

  walk_turns : (k : ℕ) (count : List ℕ → ℕ) (st : Reach) → count s ≡ k → ((t : List ℕ) → length t < count t + st.at) → UncutWalk (walk_from k s main st)
      → Looked (walk_look_from k s main st) (λ (t : List ℕ). walk_from (count t) t main st) s (mark_end s st.at)
  unfolding walk_from
  walk_turns zero count st e enough u = absurd (u st.at refl)
  walk_turns (suc k) count st e enough u =
      walk_turn k count st e enough (λ x l v. walk_turns k (λ (t : List ℕ). count t - 1) x (omega arith) (λ t. let g = enough t in omega arith) v) u

-- two lists that agree as far as a walk looked that is not Short are walked alike
pub walk_hangs : (s : List ℕ) → Octets s → (start main : ℕ) → UncutWalk (walk_of s start main) → Looked (walk_look s start main) (λ (t : List ℕ). walk_of t start main) s start
unfolding walk_of walk_look NearWalk place_of walk_beyond
walk_hangs s o start main =
    cond_with (λ x. UncutWalk x → Looked (walk_look s start main) (λ (t : List ℕ). walk_of t start main) s start) (ltb (length s) (start + 2))
    (λ l u. absurd (u start refl)) (λ l. by l (opens s) refl)
  where
    opens : List ℕ → Bool
    opens t = eqb (get_or t start 0) 0xFF && eqb (get_or t (start + 1) 0) 0xD8

    on : Bool → List ℕ → Result (ℕ × Said) Fault
    on b t = cond b (walk_from (length t) t main (begun (start + 2))) (Err (BadLayer start))

    made : (b : Bool) (look : ℕ) → opens s ≡ b → ltb (length s) (start + 2) ≡ false → Looked look (on b) s (start + 2) → Looked look (λ (t : List ℕ). walk_of t start main) s start
    made b look e l h =
        let g = ltb-false (length s) (start + 2) l in
        record {
          hangs =
              hangs_fits s (Err (Short start)) (λ (t : List ℕ). on (opens t) t) (start + 2) look start (omega arith)
              (hangs_then s opens on b (start + 2) look (start + 2) e
              (record {
                ahead = omega arith;
                inside = g;
                same = λ t a.
                    ap₂ (λ (x y : ℕ). eqb x 0xFF && eqb y 0xD8) (sym (octet_agree (start + 2) s t a start (omega arith))) (sym (octet_agree (start + 2) s t a (start + 1) (omega arith)));
              })
              h.hangs);
          near = subst (NearWalk s look) (sym (ap₂ (λ (c d : Bool). cond c (Err (Short start)) (on d s)) l e)) h.near;
        }

    by : ltb (length s) (start + 2) ≡ false → (b : Bool) → opens s ≡ b → UncutWalk (on b s)
        → Looked (cond b (walk_look_from (length s) s main (begun (start + 2))) (start + 2)) (λ (t : List ℕ). walk_of t start main) s start
    by l true e u =
        let y = walk_turns s o main (length s) length (begun (start + 2)) refl (λ t. omega arith) u in
        let i = y.hangs.ahead in
        let m = mark_ahead s (start + 2) in
        made true (walk_look_from (length s) s main (begun (start + 2))) e l
        (record { hangs = hangs_from s (on true) (walk_look_from (length s) s main (begun (start + 2))) (mark_end s (start + 2)) (start + 2) (omega arith) y.hangs; near = y.near })
    by l false e u =
        made false (start + 2) e l
        (record {
          hangs = hangs_none s (Err (BadLayer start)) (start + 2) (start + 2) (omega arith) (ltb-false (length s) (start + 2) l);
          near = let y : (start < start + 2) × (start + 2 ≤ start + (fill_end s start - start + 65532)) = (omega arith, omega arith) in y;
        })
