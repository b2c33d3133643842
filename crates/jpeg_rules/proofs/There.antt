-- Where a layer of the grammar stands, the walk ends after it, with its size and resolution.
-- Assumes nothing.
use Prim.Native.Nat.{ℕ, ◌+◌, ◌≤◌, ◌∣◌}
use native.Mathlib.Omega.{arith}
use mathlib.Core.Path.{◌≡◌, refl, sym, ap, ap₂, subst, ◌∙◌}
use mathlib.Core.Logic.{◌⊎◌, inl, inr, ◌≢◌, ⊎_elim}
use mathlib.Core.Bool.{Bool, true, false, ◌&&◌, cond, false≢true}
use mathlib.Core.List.{List, [], ◌∷◌, ◌++◌, append_assoc}
use lib.ListN.{length, get_or, drop, length-append}
use lib.Dec.{eqb}
use borrow.Author.Tests.{eq-eqb, ne_eqb, le-ltb}
use Rattle.octets.specs.Octets.{be16_at, octets16, begins}
use Rattle.octets.proofs.Laws.{length_octets16}
use Rattle.sheet_rules.specs.Sentences.{Listed}
use Rattle.laws.proofs.Says.{Says, says_eq, says_le, says_and, says_or, says_true, says_as, says_else}
use Rattle.sheet_rules.proofs.New.{says_listed, says_divides}
use Rattle.sheet_rules.proofs.Backward.{listed_nonzero}
use Rattle.jpeg_rules.specs.declared.Said.{Said}
use Rattle.jpeg_rules.specs.declared.Reach.{Reach}
use Rattle.std.specs.declared.ops.ControlFlow.TheVariants.{Break}
use Rattle.std.specs.Prelude.{Result, Ok}
use Rattle.jpeg_rules.specs.declared.Fault.{Fault}
use Rattle.jpeg_rules.specs.Codes.{IsFault, HasLength}
use Rattle.jpeg_rules.specs.Grammar.{marker, Data, Piece, alone, segment, scan, lengthed, octets_of, pieces_of, Good, is_scan, g3fax, tagged, resolution, Each, Scanned, Components, said_by, Layer}
use Rattle.jpeg_rules.specs.Walk.{resolves, with_res, components_ok, framed, passed, moved, begun, walk_of}
use Rattle.laws.proofs.Cases.{bool_else}
use Rattle.jpeg_rules.proofs.Codes.{alone_right, scan_right, end_right, frame_right, segment_right, frame_other, segment_other, right_other, right_stops}
use Rattle.jpeg_rules.proofs.Leaves.{two_there}
use Rattle.jpeg_rules.proofs.Runs.{length_marker, begins_there}
use Rattle.jpeg_rules.proofs.Scans.{Opens}
use Rattle.jpeg_rules.proofs.Turns.{turn_alone, turn_plain, turn_tag, turn_frame, turn_scan, turn_end, rest_at}
use Rattle.jpeg_rules.proofs.Walks.{Walks, stops, goes, walks_count}

pub length_lengthed : (f c : ℕ) (body : List ℕ) → length (lengthed f c body) ≡ f + 2 + (length body + 2)
unfolding lengthed
length_lengthed f c body =
    let a = length-append (octets16 (length body + 2)) body in
    let b = length_octets16 (length body + 2) in
    let d = length-append (marker f c) (octets16 (length body + 2) ++ body) in
    let e = length_marker f c in
    omega arith

pub says_resolves : (main r : ℕ) → Says (resolves main r) (Listed r × (r ∣ main))
says_resolves main r = says_as (says_and (says_listed r) (says_divides r main)) (λ k. (k.0, k.1.1)) (λ k. (k.0, (listed_nonzero r k.0, k.1)))

pub says_components : (c : ℕ) → Says (components_ok c) (Components c)
says_components c = says_or (says_eq c 1) (says_eq c 3)

-- ---- what may stand after scan data

pub marker_opens : (f c : ℕ) (l : List ℕ) → (IsFault c → ⊥) → Opens (marker f c ++ l)
marker_opens f c l n =
    record { fill = f; code = c; rest = l; is = refl; other = right_other c n; stop = right_stops f c n }

pub lengthed_opens : (f c : ℕ) (body l : List ℕ) → (IsFault c → ⊥) → Opens (lengthed f c body ++ l)
unfolding lengthed
lengthed_opens f c body l n =
    subst Opens (sym (append_assoc (marker f c) (octets16 (length body + 2) ++ body) l)) (marker_opens f c ((octets16 (length body + 2) ++ body) ++ l) n)

pub piece_opens : (q : Piece) (l : List ℕ) → Good q → Opens (octets_of q ++ l)
unfolding octets_of Good
piece_opens (alone f) l g = marker_opens f 0x01 l alone_right
piece_opens (segment f c body) l g = lengthed_opens f c body l (segment_right c g.0)
piece_opens (scan f header scanned) l g =
    subst Opens (sym (append_assoc (lengthed f 0xDA header) scanned l)) (lengthed_opens f 0xDA header (scanned ++ l) scan_right)

pub pieces_open : (ps : List Piece) (l : List ℕ) → Each Good ps → Opens l → Opens (pieces_of ps ++ l)
unfolding Each pieces_of
pieces_open [] l g o = o
pieces_open (p ∷ ps) l g o = subst Opens (sym (append_assoc (octets_of p) (pieces_of ps) l)) (piece_opens p (pieces_of ps ++ l) g.0)

-- what is known after pieces
pub record Behind (st t : Reach) (ps : List Piece) : Type 0 where
  pub at : t.at ≡ st.at + length (pieces_of ps)
  pub framed : t.framed ≡ st.framed
  pub scanned : (st.scanned ≡ true) ⊎ Scanned ps → t.scanned ≡ true
  pub says : t.said ≡ with_res st.said (cond (eqb st.said.res 0) (resolution ps) st.said.res)

res_none : (x : ℕ) → x ≡ cond (eqb x 0) 0 x
res_none x =
    ⊎_elim (λ (e : x ≡ 0). e ∙ sym (ap (λ (b : Bool). cond b 0 x) (eq-eqb x 0 e)))
    (λ (d : x ≢ 0). sym (ap (λ (b : Bool). cond b 0 x) (ne_eqb x 0 d)))
    (says_else (says_eq x 0))

behind_none : (st : Reach) → Behind st st []
unfolding pieces_of Scanned resolution
behind_none st =
    record {
      at = omega arith;
      framed = refl;
      scanned = λ k. ⊎_elim (λ (e : st.scanned ≡ true). e) (λ (k : ⊥). absurd k) k;
      says = ap (with_res st.said) (res_none st.said.res);
    }

behind_more : (st u t : Reach) (p : Piece) (ps : List Piece) → u.at ≡ st.at + length (octets_of p) → u.framed ≡ st.framed
    → ((st.scanned ≡ true) ⊎ (is_scan p ≡ true) → u.scanned ≡ true)
    → (v : ℕ) → u.said ≡ with_res st.said v → cond (eqb v 0) (resolution ps) v ≡ cond (eqb st.said.res 0) (resolution (p ∷ ps)) st.said.res
    → Behind u t ps → Behind st t (p ∷ ps)
unfolding pieces_of Scanned
behind_more st u t p ps a f sc v x r b =
    let l = length-append (octets_of p) (pieces_of ps) in
    let z = b.at in
    record {
      at = omega arith;
      framed = b.framed ∙ f;
      scanned = λ k.
          b.scanned
          (⊎_elim (λ (e : st.scanned ≡ true). inl (sc (inl e)))
          (λ (e : (is_scan p ≡ true) ⊎ Scanned ps). ⊎_elim (λ (i : is_scan p ≡ true). inl (sc (inr i))) (λ (i : Scanned ps). inr i) e) k);
      says =
          b.says ∙ ap (λ (y : Said). with_res y (cond (eqb y.res 0) (resolution ps) y.res)) x ∙ ap (with_res st.said) r;
    }

module _ (s : List ℕ) (main : ℕ) where
  abbrev Allowed : Reach → List Piece → Type 0
  Allowed st ps = (st.framed ≡ true) ⊎ Each (λ p. is_scan p ≡ false) ps

  abbrev Resolved : Reach → List Piece → Type 0
  Resolved st ps = (st.said.res ≢ 0) ⊎ (resolves main (resolution ps) ≡ true)

  abbrev Onto : Reach → List Piece → List ℕ → Result (ℕ × Said) Fault → Type 0
  Onto st ps l w = (t : Reach) → Behind st t ps → drop t.at s ≡ l → Walks s main t w

  allowed_same : (st u : Reach) (ps : List Piece) → u.framed ≡ st.framed → Allowed st ps → Allowed u ps
  allowed_same st u ps e (inl f) = inl (e ∙ f)
  allowed_same st u ps e (inr f) = inr f

  -- a scan stands only after the frame
  scan_allowed : (st : Reach) (f : ℕ) (header scanned : List ℕ) (ps : List Piece) → Allowed st (scan f header scanned ∷ ps) → st.framed ≡ true
  unfolding Each is_scan
  scan_allowed st f header scanned ps (inl e) = e
  scan_allowed st f header scanned ps (inr e) = absurd (false≢true (sym e.0))

  allowed_more : (st : Reach) (p : Piece) (ps : List Piece) → Allowed st (p ∷ ps) → Allowed st ps
  unfolding Each
  allowed_more st p ps (inl e) = inl e
  allowed_more st p ps (inr e) = inr e.1

  -- where the first of pieces gives no resolution, or none is wanted, those after it give the same
  pub res_plain : (x : ℕ) (f c : ℕ) (body : List ℕ) (ps : List Piece) → eqb x 0 && tagged c body ≡ false
      → cond (eqb x 0) (resolution ps) x ≡ cond (eqb x 0) (resolution (segment f c body ∷ ps)) x
  unfolding resolution
  res_plain x f c body ps h =
      ⊎_elim
      (λ (e : x ≡ 0).
      let t : tagged c body ≡ false = sym (ap (λ (b : Bool). b && tagged c body) (eq-eqb x 0 e)) ∙ h in
      ap (λ (b : Bool). cond (eqb x 0) (cond b (be16_at body 8) (resolution ps)) x) (sym t))
      (λ (d : x ≢ 0).
      ap (λ (b : Bool). cond b (resolution ps) x) (ne_eqb x 0 d)
      ∙ sym (ap (λ (b : Bool). cond b (resolution (segment f c body ∷ ps)) x) (ne_eqb x 0 d)))
      (says_else (says_eq x 0))

  resolved_plain : (st : Reach) (f c : ℕ) (body : List ℕ) (ps : List Piece) → eqb st.said.res 0 && tagged c body ≡ false
      → Resolved st (segment f c body ∷ ps) → Resolved st ps
  unfolding resolution
  resolved_plain st f c body ps h (inl d) = inl d
  resolved_plain st f c body ps h (inr v) =
      ⊎_elim
      (λ (e : st.said.res ≡ 0).
      let t : tagged c body ≡ false = sym (ap (λ (b : Bool). b && tagged c body) (eq-eqb st.said.res 0 e)) ∙ h in
      inr (sym (ap (λ (b : Bool). resolves main (cond b (be16_at body 8) (resolution ps))) t) ∙ v))
      (λ (d : st.said.res ≢ 0). inl d)
      (says_else (says_eq st.said.res 0))

  pub resolves_nonzero : (v : ℕ) → resolves main v ≡ true → v ≢ 0
  resolves_nonzero v e = listed_nonzero v ((says_resolves main v).told e).0

  pub tagged_long : (c : ℕ) (body : List ℕ) → tagged c body ≡ true → 10 ≤ length body
  unfolding tagged
  tagged_long c body e =
      let k = (says_and (says_and (says_eq c 0xE1) (says_le 12 (length body + 2))) (says_true (begins body g3fax))).told e in
      let h = k.0.1 in omega arith

  res_same : (ps : List Piece) (x : ℕ) (p : Piece) → resolution ps ≡ resolution (p ∷ ps)
      → cond (eqb x 0) (resolution ps) x ≡ cond (eqb x 0) (resolution (p ∷ ps)) x
  res_same ps x p q = ap (λ (n : ℕ). cond (eqb x 0) n x) q

  resolved_same : (ps : List Piece) (st : Reach) (p : Piece) → resolution ps ≡ resolution (p ∷ ps) → Resolved st (p ∷ ps) → Resolved st ps
  resolved_same ps st p q (inl d) = inl d
  resolved_same ps st p q (inr o) = inr (ap (resolves main) q ∙ o)

  -- the walk over the pieces after the first, from any state that fits
  abbrev Rest : List Piece → List ℕ → Result (ℕ × Said) Fault → Bool → Type 0
  Rest ps l w f = (u : Reach) → drop u.at s ≡ pieces_of ps ++ l → u.framed ≡ f → Resolved u ps → Onto u ps l w → Walks s main u w

  module _ (ps : List Piece) (st : Reach) (l : List ℕ) (w : Result (ℕ × Said) Fault) (rec : Rest ps l w st.framed) where
    alone_walk : (f : ℕ) → drop st.at s ≡ pieces_of (alone f ∷ ps) ++ l → Resolved st (alone f ∷ ps) → Onto st (alone f ∷ ps) l w → Walks s main st w
    unfolding pieces_of resolution is_scan octets_of
    alone_walk f e v k =
        let u : Reach = moved st (st.at + f + 2) st.said.res in
        let tail : List ℕ = pieces_of ps ++ l in
        let e' : drop st.at s ≡ marker f 0x01 ++ tail = e ∙ append_assoc (marker f 0x01) (pieces_of ps) l in
        let b = (begins_there s st.at f 0x01 tail (λ z. omega arith) e').rest in
        let n = length_marker f 0x01 in
        goes (turn_alone s main st f tail e')
        (rec u b refl (resolved_same ps st (alone f) refl v)
        (λ t q d.
        k t
        (behind_more st u t (alone f) ps (omega arith) refl (λ z. ⊎_elim (λ (x : st.scanned ≡ true). x) (λ (x : false ≡ true). absurd (false≢true x)) z)
        st.said.res refl (res_same ps st.said.res (alone f) refl) q)
        d))

    module _ (f b : ℕ) (body : List ℕ) (g : HasLength b) (e : drop st.at s ≡ pieces_of (segment f b body ∷ ps) ++ l)
        (v : Resolved st (segment f b body ∷ ps)) (k : Onto st (segment f b body ∷ ps) l w) where
      other : b ≢ 0xFF
      other = segment_other b g

      opened : drop st.at s ≡ lengthed f b body ++ (pieces_of ps ++ l)
      unfolding pieces_of
      opened = e ∙ append_assoc (lengthed f b body) (pieces_of ps) l

      reached : st.at + f + 2 + (length body + 2) ≡ st.at + length (octets_of (segment f b body))
      unfolding octets_of
      reached = let l = length_lengthed f b body in omega arith

      behind_segment : (x : ℕ) (t : Reach) → cond (eqb x 0) (resolution ps) x ≡ cond (eqb st.said.res 0) (resolution (segment f b body ∷ ps)) st.said.res
          → Behind (moved st (st.at + f + 2 + (length body + 2)) x) t ps → Behind st t (segment f b body ∷ ps)
      unfolding is_scan
      behind_segment x t q =
          behind_more st (moved st (st.at + f + 2 + (length body + 2)) x) t (segment f b body) ps reached refl
          (λ z. ⊎_elim (λ (x : st.scanned ≡ true). x) (λ (x : false ≡ true). absurd (false≢true x)) z) x refl q

      -- no resolution is taken from it
      segment_plain : eqb st.said.res 0 && tagged b body ≡ false → Walks s main st w
      segment_plain h =
          goes (turn_plain s main st f b body (pieces_of ps ++ l) other opened g h)
          (rec (moved st (st.at + f + 2 + (length body + 2)) st.said.res) (rest_at s main st f b body (pieces_of ps ++ l) other opened) refl
          (resolved_plain st f b body ps h v)
          (λ t q d. k t (behind_segment st.said.res t (res_plain st.said.res f b body ps h) q) d))

      -- it gives the resolution
      segment_tag : eqb st.said.res 0 && tagged b body ≡ true → Walks s main st w
      unfolding resolution
      segment_tag h =
          let y = (says_and (says_eq st.said.res 0) (says_true (tagged b body))).told h in
          let o : resolves main (be16_at body 8) ≡ true =
          ⊎_elim (λ (d : st.said.res ≢ 0). absurd (d y.0))
          (λ (o : resolves main (resolution (segment f b body ∷ ps)) ≡ true). sym (ap (λ (x : Bool). resolves main (cond x (be16_at body 8) (resolution ps))) y.1) ∙ o) v in
          let nz = resolves_nonzero (be16_at body 8) o in
          goes (turn_tag s main st f b body (pieces_of ps ++ l) other opened g h (tagged_long b body y.1) o)
          (rec (moved st (st.at + f + 2 + (length body + 2)) (be16_at body 8)) (rest_at s main st f b body (pieces_of ps ++ l) other opened) refl
          (inl nz)
          (λ t q d.
          k t
          (behind_segment (be16_at body 8) t
          (ap (λ (x : Bool). cond x (resolution ps) (be16_at body 8)) (ne_eqb (be16_at body 8) 0 nz)
          ∙ sym
          (ap (λ (x : Bool). cond x (cond (tagged b body) (be16_at body 8) (resolution ps)) st.said.res) (eq-eqb st.said.res 0 y.0)
          ∙ ap (λ (x : Bool). cond x (be16_at body 8) (resolution ps)) y.1))
          q)
          d))

      segment_walk : Walks s main st w
      segment_walk = ⊎_elim segment_tag segment_plain (bool_else (eqb st.said.res 0 && tagged b body))

    scan_walk : (f : ℕ) (header scanned : List ℕ) → Opens (pieces_of ps ++ l) → Data scanned → st.framed ≡ true
        → drop st.at s ≡ pieces_of (scan f header scanned ∷ ps) ++ l → Resolved st (scan f header scanned ∷ ps)
        → Onto st (scan f header scanned ∷ ps) l w → Walks s main st w
    unfolding pieces_of resolution is_scan octets_of
    scan_walk f header scanned o d fr e v k =
        let tail : List ℕ = pieces_of ps ++ l in
        let e' : drop st.at s ≡ lengthed f 0xDA header ++ (scanned ++ tail) =
        e ∙ append_assoc (lengthed f 0xDA header ++ scanned) (pieces_of ps) l ∙ append_assoc (lengthed f 0xDA header) scanned tail in
        let u : Reach = passed st (st.at + f + 2 + (length header + 2) + length scanned) in
        let x = turn_scan s main st f header scanned tail e' d o fr in
        let n = length-append (lengthed f 0xDA header) scanned in
        let m = length_lengthed f 0xDA header in
        goes x.0
        (rec u x.1 (sym fr) (resolved_same ps st (scan f header scanned) refl v)
        (λ t q y.
        k t
        (behind_more st u t (scan f header scanned) ps (omega arith) (sym fr) (λ z. refl) st.said.res refl (res_same ps st.said.res (scan f header scanned) refl) q)
        y))

  pub pieces_walk : (ps : List Piece) (st : Reach) (l : List ℕ) (w : Result (ℕ × Said) Fault) → drop st.at s ≡ pieces_of ps ++ l
      → Opens l → Each Good ps → Allowed st ps → Resolved st ps → Onto st ps l w → Walks s main st w
  unfolding Each Good pieces_of is_scan
  pieces_walk [] st l w e h g a v k = k st (behind_none st) e
  pieces_walk (alone f ∷ ps) st l w e h g a v k =
      alone_walk ps st l w (λ u q fr o j. pieces_walk ps u l w q h g.1 (allowed_same st u ps fr (allowed_more st (alone f) ps a)) o j) f e v k
  pieces_walk (segment f b body ∷ ps) st l w e h g a v k =
      segment_walk ps st l w (λ u q fr o j. pieces_walk ps u l w q h g.1 (allowed_same st u ps fr (allowed_more st (segment f b body) ps a)) o j)
      f b body g.0.0 e v k
  pieces_walk (scan f header scanned ∷ ps) st l w e h g a v k =
      scan_walk ps st l w (λ u q fr o j. pieces_walk ps u l w q h g.1 (allowed_same st u ps fr (allowed_more st (scan f header scanned) ps a)) o j)
      f header scanned (pieces_open ps l g.1 h) g.0.1 (scan_allowed st f header scanned ps a) e v k

-- ---- a whole layer

pub each_good : (ps : List Piece) → Each (λ p. Good p × (is_scan p ≡ false)) ps → Each Good ps
unfolding Each
each_good [] g = tt
each_good (p ∷ ps) g = (g.0.0, each_good ps g.1)

each_scanless : (ps : List Piece) → Each (λ p. Good p × (is_scan p ≡ false)) ps → Each (λ p. is_scan p ≡ false) ps
unfolding Each
each_scanless [] g = tt
each_scanless (p ∷ ps) g = (g.0.1, each_scanless ps g.1)

module _ (s : List ℕ) (start main : ℕ) (l rest : List ℕ) (said : Said) (y : Layer main l said) (e : drop start s ≡ l ++ rest) where
  behind_frame : List ℕ
  behind_frame = pieces_of y.after ++ (marker y.last 0xD9 ++ rest)

  opened_layer : drop start s ≡ 0xFF ∷ 0xD8 ∷ pieces_of y.before ++ (lengthed y.fill y.code y.body ++ (pieces_of y.after ++ (marker y.last 0xD9 ++ rest)))
  opened_layer = e ∙ ap (λ (x : List ℕ). x ++ rest) y.octets ∙ simp append_assoc

  size_layer : length l ≡ 2 + (length (pieces_of y.before) + (y.fill + 2 + (length y.body + 2) + (length (pieces_of y.after) + (y.last + 2))))
  size_layer =
      let a = length-append (pieces_of y.before) (lengthed y.fill y.code y.body ++ (pieces_of y.after ++ marker y.last 0xD9)) in
      let b = length-append (lengthed y.fill y.code y.body) (pieces_of y.after ++ marker y.last 0xD9) in
      let c = length-append (pieces_of y.after) (marker y.last 0xD9) in
      let d = length_lengthed y.fill y.code y.body in
      let f = ap length y.octets in
      let g = length_marker y.last 0xD9 in
      omega arith

  res_is : said.res ≡ resolution y.before
  res_is = ap (λ (x : Said). x.res) y.says

  res_nonzero : said.res ≢ 0
  res_nonzero = listed_nonzero said.res y.listed

  res_resolves : resolves main (resolution y.before) ≡ true
  res_resolves = ap (resolves main) (sym res_is) ∙ (says_resolves main said.res).shown (y.listed, y.divides)

  w : Result (ℕ × Said) Fault
  w = Ok (start + length l, said)

  -- after the frame
  last_walk : (u t : Reach) → Behind u t y.after → u.at ≡ start + 2 + length (pieces_of y.before) + y.fill + 2 + (length y.body + 2)
      → u.said ≡ said → drop t.at s ≡ marker y.last 0xD9 ++ rest → Walks s main t w
  unfolding w
  last_walk u t b a x d =
      let z = size_layer in
      let q = b.at in
      let end : t.at + y.last + 2 ≡ start + length l = omega arith in
      let nz : eqb u.said.res 0 ≡ false = ne_eqb u.said.res 0 (λ k. res_nonzero (sym (ap (λ (i : Said). i.res) x) ∙ k)) in
      let same : t.said ≡ said = b.says ∙ ap (λ (c : Bool). with_res u.said (cond c (resolution y.after) u.said.res)) nz ∙ x in
      stops (turn_end s main t y.last rest d (b.scanned (inr y.scanned)) ∙ ap₂ (λ (n : ℕ) (i : Said). Break (Ok (n, i))) end same)

  other_frame : y.code ≢ 0xFF
  other_frame = frame_other y.code y.frame

  frame_walk : (t : Reach) → Behind (begun (start + 2)) t y.before → drop t.at s ≡ lengthed y.fill y.code y.body ++ (pieces_of y.after ++ (marker y.last 0xD9 ++ rest))
      → Walks s main t w
  frame_walk t b d =
      let tr : t.said.res ≡ said.res = ap (λ (x : Said). x.res) b.says ∙ sym res_is in
      let u : Reach = framed t (t.at + y.fill + 2 + (length y.body + 2)) (said_by y.body t.said.res) in
      let q = b.at in
      let tf : t.framed ≡ false = b.framed in
      goes
      (turn_frame s main t y.fill y.code y.body (pieces_of y.after ++ (marker y.last 0xD9 ++ rest)) other_frame d y.frame tf (λ k. res_nonzero (sym tr ∙ k)) y.long
      (λ k. y.high (ap (λ (x : Said). x.height) y.says ∙ k)) (λ k. y.wide (ap (λ (x : Said). x.width) y.says ∙ k))
      ((says_components (get_or y.body 5 0)).shown (subst Components (ap (λ (x : Said). x.components) y.says) y.counted)))
      (pieces_walk s main y.after u (marker y.last 0xD9 ++ rest) w
      (rest_at s main t y.fill y.code y.body (pieces_of y.after ++ (marker y.last 0xD9 ++ rest)) other_frame d)
      (marker_opens y.last 0xD9 rest end_right) y.late (inl refl)
      (inl (λ k. res_nonzero (sym tr ∙ k)))
      (λ v c f. last_walk u v c (omega arith) (ap (said_by y.body) (tr ∙ res_is) ∙ sym y.says) f))

  pub layer_walk : walk_of s start main ≡ Ok (start + length l, said)
  unfolding walk_of w
  layer_walk =
      let t = two_there s start 0xFF 0xD8 (pieces_of y.before ++ (lengthed y.fill y.code y.body ++ (pieces_of y.after ++ (marker y.last 0xD9 ++ rest)))) opened_layer in
      let h = t.0 in
      let k =
      pieces_walk s main y.before (begun (start + 2)) (lengthed y.fill y.code y.body ++ (pieces_of y.after ++ (marker y.last 0xD9 ++ rest)))
      w t.3 (lengthed_opens y.fill y.code y.body (pieces_of y.after ++ (marker y.last 0xD9 ++ rest)) (frame_right y.code y.frame)) (each_good y.before y.early)
      (inr (each_scanless y.before y.early)) (inr res_resolves)
      (λ u b d. frame_walk u b d) in
      simp (le-ltb (length s) (start + 2) h, eq-eqb (get_or s start 0) 0xFF t.1, eq-eqb (get_or s (start + 1) 0) 0xD8 t.2)
      (walks_count s main k (length s) (omega arith))
