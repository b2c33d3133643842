-- One law for each way out of the functions of lanes: its premises are what is known there.
-- Assumes nothing.
use Prim.Native.Nat.{ℕ, zero, suc, ◌+◌, ◌-◌, ◌*◌, ◌/◌, ◌≤◌, ◌<◌}
use native.Mathlib.Nat.{eq-or-lt_of_le, mul-le-mul, mul-le-mul_right}
use native.Mathlib.Omega.{arith}
use mathlib.Core.Path.{◌≡◌, refl, sym, ap, ap₂, subst, ◌∙◌}
use mathlib.Core.Logic.{◌≢◌, ⊎_elim}
use mathlib.Core.Bool.{Bool, true, false, ◌&&◌, not}
use mathlib.Core.List.{List}
use lib.ListN.{length, get_or, set}
use lib.Dec.{eqb, leb}
use borrow.Author.Tests.{eq-eqb, ne_eqb, lt-ltb, le-ltb, le-leb, lt-leb}
use borrow.Author.Rules.{rules}
use Rattle.octets.specs.Octets.{put_at}
use Rattle.octets.proofs.Laws.{put_nothing, put_length}
use Rattle.octets.proofs.Turns.{sets_put}
use Rattle.octets.specs.Entries.{entries_from, joined}
use Rattle.sheet_rules.specs.StripeTable.{layer_record, main_res}
use Rattle.sheet_rules.specs.declared.Record.{Record}
use Rattle.sheet_rules.specs.declared.Extent.{Extent}
use Rattle.sheet_rules.specs.Record.{record_at}
use Rattle.sheet_rules.specs.Judge.{coded}
use Rattle.pixel_rules.specs.declared.MainPos.{MainPos}
use Rattle.pixel_rules.specs.declared.SamplePos.{SamplePos}
use Rattle.pixel_rules.specs.declared.Plane.{Plane}
use Rattle.std.specs.Prelude.{Option, Some, None}
use Rattle.pixel_rules.specs.Place.{left_of, top_of, area_end, scale}
use Rattle.pixel_rules.specs.Planes.{plane_start}
use Rattle.pixel_rules.specs.Samples.{depth}
use Rattle.pixel_rules.proofs.Division.{says_covers, scale_within}
use Rattle.line_sample.specs.Factor.{factor_of, Steps}
use Rattle.line_planes.specs.declared.Listing.{Listing}
use Rattle.line_planes.specs.Listing.{entries_of}
use Rattle.line_fetch.specs.declared.Row.{Row}
use Rattle.line_fetch.specs.Rows.{row_size, numbers_of}
use Rattle.line_rows.specs.Rows.{row_out, other_of, Layer, Standing}
use Rattle.line_rows.proofs.Laws.{row_entry, layer_res, layer_turns}
use Rattle.line_lanes.specs.declared.Lane.{Lane}
use Rattle.line_lanes.specs.Lanes.{lane_size, lane_at, lane_numbers, bottom_of, read_of, first_of, lane_by, lane_of, lanes_of, row_from, rows_from, LaneFits, LanesFit}
use Rattle.line_lanes.proofs.Rows.{lane_entry, lane_among, put_one_more}

-- ---- the last line

module _ (r : Record) (k : ℕ) where
  pub bottom_none : r.len ≡ 0 → record { 0 = 0 } ≡ bottom_of r k
  unfolding bottom_of
  bottom_none e = simp (eq-eqb r.len 0 e)

  pub bottom_some : (o end : MainPos) (n : ℕ) → r.len ≢ 0 → o ≡ top_of r → n ≡ r.height → end ≡ area_end o n k → end ≡ bottom_of r k
  unfolding bottom_of
  bottom_some o end n d eo en e = e ∙ ap₂ (λ (i : MainPos) (j : ℕ). area_end i j k) eo en ∙ simp (ne_eqb r.len 0 d)

  pub bottom_near : (o end : MainPos) (n : ℕ) → o ≡ top_of r → n < 65536 → end ≡ area_end o n k → end.0 ≤ r.y + 65535 * k
  bottom_near o end n eo h e =
      let m : n * k ≤ 65535 * k = mul-le-mul_right k (omega arith) in
      let z : end.0 ≡ r.y + n * k = ap (λ (i : MainPos). i.0) (e ∙ ap (λ (i : MainPos). area_end i n k) eo) in
      omega arith

pub ruleset bottoms = (rules, bottom_none, bottom_some, bottom_near)

-- ---- a lane from a record

module _ (r : Record) (p : Option ℕ) where
  pub read_none : p ≡ None → 0 ≡ read_of r p
  unfolding read_of
  read_none e = rw e refl

  pub read_some : (a n : ℕ) → p ≡ Some a → n ≡ depth r → n ≡ read_of r p
  unfolding read_of
  read_some a n e f = rw e f

pub first_none : (p : Option ℕ) → p ≡ None → 0 ≡ first_of p
unfolding first_of
first_none p e = rw e refl

pub first_some : (p : Option ℕ) (a : ℕ) → p ≡ Some a → a ≡ first_of p
unfolding first_of
first_some p a e = rw e refl

pub ruleset starting = (rules, read_none, read_some, first_none, first_some)

pub lane_made : (r : Record) (k other : ℕ) (p : Option ℕ) (from to top bottom : MainPos) (width each m start step : ℕ) → from ≡ left_of r → width ≡ r.width → each ≡ read_of r p → to ≡ area_end from width k → m ≡ factor_of k
    → start ≡ first_of p → top ≡ top_of r → bottom ≡ bottom_of r k → step ≡ width * each
    → record { from = from; to = to; factor = m; read = each; start = start; other = other; ratio = k; top = top; bottom = bottom; step = step } ≡ lane_by r k p other
unfolding lane_by
lane_made r k other p from to top bottom width each m start step ef ew ee et em es ep eb ez = rw (ez, et, ef, ew, ee, em, es, ep, eb)

pub step_small : (width each step : ℕ) → width < 65536 → each ≤ 3 → step ≡ width * each → step < 196608
step_small width each step h g e =
    let a : width ≤ 65535 = omega arith in
    let m : width * each ≤ 65535 * 3 = mul-le-mul a g in
    omega arith

pub lane_fits : (w : Lane) (y : ℕ) → 0 < w.ratio → w.ratio < 65536 → w.factor ≡ factor_of w.ratio → w.top ≡ record { 0 = y } → w.bottom.0 ≤ y + 65535 * w.ratio → w.start < 4294967296 → w.step < 196608 → LaneFits w
lane_fits w y a b f t n s p =
    record { some = a; small = b; factor = f; near = subst (λ (i : MainPos). w.bottom.0 ≤ i.0 + 65535 * w.ratio) (sym t) n; start = s; step = p }

-- ---- the lane of a layer of a stripe

pub layer_lane_made : (s : List ℕ) (extent : Extent) (m : ℕ) (c : Bool) (l : ℕ) (ps : List Plane) (r : Record) (k : ℕ) (p : Option ℕ) (n : ℕ) (w : Lane) → Layer s extent m c l → r ≡ record_at s (extent.first + (l - 1)) → k ≡ m / r.res
    → p ≡ plane_start ps l → n ≡ other_of c r (extent.first + (l - 1)) l → w ≡ lane_by r k p n → w ≡ lane_of s extent ps l
unfolding lane_of layer_record
layer_lane_made s extent m c l ps r k p n w g er ek ep en ew = ew ∙ rw (ek, ep, en, er, g.main, g.third) refl

pub ruleset layering = (rules, layer_res, layer_turns, layer_lane_made)

-- ---- the lanes of all layers

pub stores_lane : (d : List ℕ) (l : ℕ) (w : Lane) → 1 ≤ l → l * lane_size ≤ length d
    → set (set (set (set (set (set (set (set (set (set d ((l - 1) * lane_size) w.from.0) ((l - 1) * lane_size + 1) w.to.0) ((l - 1) * lane_size + 2) w.factor) ((l - 1) * lane_size + 3) w.read) ((l - 1) * lane_size + 4) w.start) ((l - 1) * lane_size + 5) w.other) ((l - 1) * lane_size + 6) w.ratio) ((l - 1) * lane_size + 7) w.top.0) ((l - 1) * lane_size + 8) w.bottom.0) ((l - 1) * lane_size + 9) w.step
    ≡ put_at d ((l - 1) * lane_size) (lane_numbers w)
stores_lane d l w g h = all d ((l - 1) * lane_size) (omega arith)
  where
    all : (d : List ℕ) (b : ℕ) → b + lane_size ≤ length d → set (set (set (set (set (set (set (set (set (set d b w.from.0) (b + 1) w.to.0) (b + 2) w.factor) (b + 3) w.read) (b + 4) w.start) (b + 5) w.other) (b + 6) w.ratio) (b + 7) w.top.0) (b + 8) w.bottom.0) (b + 9) w.step ≡ put_at d b (lane_numbers w)
    all d b h =
        let a : b + 1 ≡ suc b = omega arith in
        let c : b + 2 ≡ suc (suc b) = omega arith in
        let e : b + 3 ≡ suc (suc (suc b)) = omega arith in
        let f : b + 4 ≡ suc (suc (suc (suc b))) = omega arith in
        let g : b + 5 ≡ suc (suc (suc (suc (suc b)))) = omega arith in
        let i : b + 6 ≡ suc (suc (suc (suc (suc (suc b))))) = omega arith in
        let j : b + 7 ≡ suc (suc (suc (suc (suc (suc (suc b)))))) = omega arith in
        let k : b + 8 ≡ suc (suc (suc (suc (suc (suc (suc (suc b))))))) = omega arith in
        let m : b + 9 ≡ suc (suc (suc (suc (suc (suc (suc (suc (suc b)))))))) = omega arith in
        rw (a, c, e, f, g, i, j, k, m) (sets_put d b (lane_numbers w) h)

pub record Laying (d s : List ℕ) (extent : Extent) (t : Listing) (m : ℕ) (c : Bool) (n : ℕ) (out : List ℕ) (l : ℕ) : Type 0 where
  pub some : 1 ≤ l
  pub within : l ≤ n + 1
  pub all : n ≡ extent.layers
  pub room : n * lane_size ≤ length d
  pub long : length out ≡ length d
  pub main : m ≡ main_res s extent
  pub third : c ≡ coded (layer_record s extent 3)
  pub fits : (i : ℕ) → 1 ≤ i → i < l → LaneFits (lane_of s extent (entries_of t) i)
  pub laid : out ≡ put_at d 0 (lanes_of s extent (entries_of t) (l - 1))

module _ (d s : List ℕ) (extent : Extent) (t : Listing) (m : ℕ) (c : Bool) (n : ℕ) where
  pub laying_none : (second third : Record) → extent.layers * lane_size ≤ length d → n ≡ extent.layers → second ≡ record_at s (extent.first + 1) → third ≡ record_at s (extent.first + 2)
      → m ≡ second.res → c ≡ not (eqb third.len 0) → Laying d s extent t m c n d 1
  unfolding joined entries_from layer_record
  laying_none second third h e es et em ec =
      record {
        some = omega arith;
        within = omega arith;
        all = e;
        room = omega arith;
        long = refl;
        main = em ∙ ap (λ (r : Record). r.res) es;
        third = ec ∙ ap (λ (r : Record). not (eqb r.len 0)) et;
        fits = λ i a b. absurd (omega arith);
        laid = sym (put_nothing d 0);
      }

  laying_next : (out new : List ℕ) (i : ℕ) (w : Lane) → Laying d s extent t m c n out (i + 1) → i < n → w ≡ lane_of s extent (entries_of t) (i + 1) → LaneFits w
      → new ≡ put_at out ((i + 1 - 1) * lane_size) (lane_numbers w) → Laying d s extent t m c n new (i + 1 + 1)
  laying_next out new i w g h ew f e =
      let r = g.room in
      let k = g.long in
      let q : length (lane_numbers w) ≡ lane_size = refl in
      let iz : i + 1 - 1 ≡ i = omega arith in
      let nz : i + 1 ≡ i + 1 + 1 - 1 = omega arith in
      record {
        some = omega arith;
        within = omega arith;
        all = g.all;
        room = g.room;
        long = ap length e ∙ put_length out ((i + 1 - 1) * lane_size) (lane_numbers w) (omega arith) ∙ g.long;
        main = g.main;
        third = g.third;
        fits = λ l a b. ⊎_elim
            (λ (z : l ≡ i + 1). subst LaneFits (ew ∙ ap (lane_of s extent (entries_of t)) (sym z)) f)
            (λ (z : l < i + 1). g.fits l a z)
            (eq-or-lt_of_le (let u : l ≤ i + 1 = omega arith in u));
        laid =
            put_one_more lane_entry (lane_of s extent (entries_of t)) d out new i w (g.laid ∙ ap (λ (k : ℕ). put_at d 0 (lanes_of s extent (entries_of t) k)) iz) ew e
            ∙ ap (λ (k : ℕ). put_at d 0 (lanes_of s extent (entries_of t) k)) nz;
      }

  module _ (out : List ℕ) (l : ℕ) (g : Laying d s extent t m c n out l) where
    pub laying_layer : Standing s extent → l ≤ n → Layer s extent m c l
    laying_layer z h =
        let o = g.some in
        let a = g.all in
        let w = z.whole in
        let f = z.fifteen in
        record {
          least = omega arith;
          most = omega arith;
          place = omega arith;
          res = z.res l (omega arith) (omega arith);
          turns = z.turns l (omega arith) (omega arith);
          main = g.main;
          third = g.third;
        }

    pub laying_room : l ≤ n → (1 ≤ l) × (l * lane_size ≤ length out)
    laying_room h = let o = g.some in let r = g.room in let k = g.long in (omega arith, omega arith)

    pub laying_end : n < l → out ≡ put_at d 0 (lanes_of s extent (entries_of t) extent.layers)
    laying_end h =
        let w = g.within in
        let a = g.all in
        let z : l - 1 ≡ extent.layers = omega arith in
        g.laid ∙ ap (λ (k : ℕ). put_at d 0 (lanes_of s extent (entries_of t) k)) z

    pub laying_fits : n < l → LanesFit out extent.layers
    laying_fits h =
        let w = g.within in
        let a = g.all in
        let r = g.room in
        let k = g.long in
        record {
          there = omega arith;
          each = λ i p q. subst LaneFits (sym (lane_among s extent (entries_of t) d extent.layers i p q) ∙ ap (λ (ns : List ℕ). lane_at ns i) (sym (laying_end h))) (g.fits i p (omega arith));
        }

  pub laying_more : (out new : List ℕ) (l : ℕ) (w : Lane) → Laying d s extent t m c n out l → l ≤ n → w ≡ lane_of s extent (entries_of t) l → LaneFits w
      → new ≡ put_at out ((l - 1) * lane_size) (lane_numbers w) → Laying d s extent t m c n new (l + 1)
  laying_more out new zero w g h ew f e = absurd (let o = g.some in omega arith)
  laying_more out new (suc i) w g h ew f e =
      let z : suc i ≡ i + 1 = omega arith in
      subst (λ (k : ℕ). Laying d s extent t m c n new (k + 1)) (sym z)
      (laying_next out new i w
      (subst (λ (k : ℕ). Laying d s extent t m c n out k) z g) (omega arith)
      (ew ∙ ap (λ (k : ℕ). lane_of s extent (entries_of t) k) z) f
      (e ∙ ap (λ (k : ℕ). put_at out ((k - 1) * lane_size) (lane_numbers w)) z))

  -- with the last layer's lane
  pub laying_last : (out new : List ℕ) (l : ℕ) (w : Lane) → Laying d s extent t m c n out l → n ≤ l → l ≤ n → w ≡ lane_of s extent (entries_of t) l → LaneFits w
      → new ≡ put_at out ((l - 1) * lane_size) (lane_numbers w) → (new ≡ put_at d 0 (lanes_of s extent (entries_of t) extent.layers)) × LanesFit new extent.layers
  laying_last out new l w g h k ew f e =
      let o = laying_more out new l w g k ew f e in (laying_end new (l + 1) o (omega arith), laying_fits new (l + 1) o (omega arith))

pub ruleset laying = (rules, stores_lane, laying_none, laying_layer, laying_room, laying_more, laying_end, laying_fits)

-- ---- a lane among the lanes

pub lane_there : (ns : List ℕ) (l : ℕ)
    → record {
      from = record { 0 = get_or ns ((l - 1) * lane_size) 0 };
      to = record { 0 = get_or ns ((l - 1) * lane_size + 1) 0 };
      factor = get_or ns ((l - 1) * lane_size + 2) 0;
      read = get_or ns ((l - 1) * lane_size + 3) 0;
      start = get_or ns ((l - 1) * lane_size + 4) 0;
      other = get_or ns ((l - 1) * lane_size + 5) 0;
      ratio = get_or ns ((l - 1) * lane_size + 6) 0;
      top = record { 0 = get_or ns ((l - 1) * lane_size + 7) 0 };
      bottom = record { 0 = get_or ns ((l - 1) * lane_size + 8) 0 };
      step = get_or ns ((l - 1) * lane_size + 9) 0;
    } ≡ lane_at ns l
unfolding lane_at
lane_there ns l = refl

pub ruleset lanes = (rules, lane_there)

-- ---- the row of a lane in a line

pub down_small : (down step : ℕ) → down < 65536 → step < 196608 → down * step < 12884901888
down_small down step h g =
    let a : down ≤ 65535 = omega arith in
    let b : step ≤ 196607 = omega arith in
    let m : down * step ≤ 65535 * 196607 = mul-le-mul a b in
    omega arith

and_no : (b : Bool) → b && false ≡ false
and_no true = refl
and_no false = refl

module _ (w : Lane) (y : MainPos) where
  pub row_above : (r : Row) → y.0 < w.top.0 → r ≡ row_out w.other → r ≡ row_from w y
  unfolding row_from
  row_above r h e = e ∙ simp (lt-leb w.top.0 y.0 h)

  pub row_below : (r : Row) → w.bottom.0 ≤ y.0 → r ≡ row_out w.other → r ≡ row_from w y
  unfolding row_from
  row_below r h e = e ∙ simp (le-ltb y.0 w.bottom.0 h, and_no (leb w.top.0 y.0))

  pub row_crossed : (q : SamplePos) (at : ℕ) → w.top.0 ≤ y.0 → y.0 < w.bottom.0 → q ≡ scale w.ratio w.top y → at ≡ w.start + q.0 * w.step
      → record { from = w.from; to = w.to; factor = w.factor; read = w.read; at = at; other = w.other; ratio = w.ratio } ≡ row_from w y
  unfolding row_from
  row_crossed q at a b e f = simp (le-leb w.top.0 y.0 a, lt-ltb y.0 w.bottom.0 b, f, e)

  down_near : LaneFits w → w.top.0 ≤ y.0 → y.0 < w.bottom.0 → (scale w.ratio w.top y).0 < 65535
  down_near f a b =
      let n = f.near in
      scale_within w.top 65535 w.ratio y ((says_covers w.top 65535 w.ratio y).shown (a, omega arith))

  pub lane_steps : LaneFits w → w.top.0 ≤ y.0 → y.0 < w.bottom.0 → Steps w.ratio w.factor w.top y
  lane_steps f a b = let n = down_near f a b in record { some = f.some; small = f.small; factor = f.factor; past = a; near = omega arith }

  pub lane_down : (q : SamplePos) → LaneFits w → w.top.0 ≤ y.0 → y.0 < w.bottom.0 → q ≡ scale w.ratio w.top y → q.0 < 65536
  lane_down q f a b e = let n = down_near f a b in let z = ap (λ (i : SamplePos). i.0) e in omega arith

-- ---- the rows of all layers in a line

pub record Rowed (d ns : List ℕ) (y : MainPos) (n : ℕ) (out : List ℕ) (l : ℕ) : Type 0 where
  pub some : 1 ≤ l
  pub within : l ≤ n + 1
  pub room : n * row_size ≤ length d
  pub long : length out ≡ length d
  pub rowed : out ≡ put_at d 0 (rows_from ns y (l - 1))

module _ (d ns : List ℕ) (y : MainPos) (n : ℕ) where
  pub rowed_none : n * row_size ≤ length d → Rowed d ns y n d 1
  unfolding joined entries_from
  rowed_none h = record { some = omega arith; within = omega arith; room = h; long = refl; rowed = sym (put_nothing d 0) }

  rowed_next : (out new : List ℕ) (i : ℕ) (w : Lane) (r : Row) → Rowed d ns y n out (i + 1) → i < n → w ≡ lane_at ns (i + 1) → r ≡ row_from w y
      → new ≡ put_at out ((i + 1 - 1) * row_size) (numbers_of r) → Rowed d ns y n new (i + 1 + 1)
  rowed_next out new i w r g h ew er e =
      let a = g.room in
      let k = g.long in
      let q : length (numbers_of r) ≡ row_size = refl in
      let iz : i + 1 - 1 ≡ i = omega arith in
      let nz : i + 1 ≡ i + 1 + 1 - 1 = omega arith in
      record {
        some = omega arith;
        within = omega arith;
        room = g.room;
        long = ap length e ∙ put_length out ((i + 1 - 1) * row_size) (numbers_of r) (omega arith) ∙ g.long;
        rowed =
            put_one_more row_entry (λ (l : ℕ). row_from (lane_at ns l) y) d out new i r
            (g.rowed ∙ ap (λ (k : ℕ). put_at d 0 (rows_from ns y k)) iz) (er ∙ ap (λ (x : Lane). row_from x y) ew) e
            ∙ ap (λ (k : ℕ). put_at d 0 (rows_from ns y k)) nz;
      }

  module _ (out : List ℕ) (l : ℕ) (g : Rowed d ns y n out l) where
    pub rowed_room : l ≤ n → (1 ≤ l) × (l * row_size ≤ length out)
    rowed_room h = let o = g.some in let r = g.room in let k = g.long in (omega arith, omega arith)

    pub rowed_there : LanesFit ns n → l ≤ n → (1 ≤ l) × (l * lane_size ≤ length ns)
    rowed_there f h = let o = g.some in let t = f.there in (omega arith, omega arith)

    pub rowed_fits : (w : Lane) → LanesFit ns n → l ≤ n → w ≡ lane_at ns l → LaneFits w
    rowed_fits w f h e = subst LaneFits (sym e) (f.each l g.some h)

    pub rowed_end : n < l → out ≡ put_at d 0 (rows_from ns y n)
    rowed_end h =
        let w = g.within in
        let z : l - 1 ≡ n = omega arith in
        g.rowed ∙ ap (λ (k : ℕ). put_at d 0 (rows_from ns y k)) z

  pub rowed_more : (out new : List ℕ) (l : ℕ) (w : Lane) (r : Row) → Rowed d ns y n out l → l ≤ n → w ≡ lane_at ns l → r ≡ row_from w y
      → new ≡ put_at out ((l - 1) * row_size) (numbers_of r) → Rowed d ns y n new (l + 1)
  rowed_more out new zero w r g h ew er e = absurd (let o = g.some in omega arith)
  rowed_more out new (suc i) w r g h ew er e =
      let z : suc i ≡ i + 1 = omega arith in
      subst (λ (k : ℕ). Rowed d ns y n new (k + 1)) (sym z)
      (rowed_next out new i w r
      (subst (λ (k : ℕ). Rowed d ns y n out k) z g) (omega arith)
      (ew ∙ ap (λ (k : ℕ). lane_at ns k) z) er
      (e ∙ ap (λ (k : ℕ). put_at out ((k - 1) * row_size) (numbers_of r)) z))

  -- with the last layer's row
  pub rowed_last : (out new : List ℕ) (l : ℕ) (w : Lane) (r : Row) → Rowed d ns y n out l → n ≤ l → l ≤ n → w ≡ lane_at ns l → r ≡ row_from w y
      → new ≡ put_at out ((l - 1) * row_size) (numbers_of r) → new ≡ put_at d 0 (rows_from ns y n)
  rowed_last out new l w r g h k ew er e = rowed_end new (l + 1) (rowed_more out new l w r g k ew er e) (omega arith)

pub ruleset rowing = (rules, rowed_none, rowed_room, rowed_there, rowed_fits, rowed_more, rowed_end)
