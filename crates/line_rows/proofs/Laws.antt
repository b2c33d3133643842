-- One law for each way out of the functions that make a row: its premises are what is known there.
-- Assumes nothing.
use Prim.Native.Nat.{ℕ, zero, suc, ◌+◌, ◌-◌, ◌*◌, ◌/◌, ◌%◌, ◌≤◌, ◌<◌}
use native.Mathlib.Nat.{add-zero}
use native.Mathlib.Omega.{arith}
use mathlib.Core.Path.{◌≡◌, refl, sym, ap, ap₂, subst, ◌∙◌}
use mathlib.Core.Logic.{◌≢◌}
use mathlib.Core.Bool.{Bool, true, false, ◌&&◌, not}
use mathlib.Core.List.{List, [], ◌∷◌, ◌++◌}
use lib.ListN.{length, get_or, set}
use lib.Dec.{eqb, leb, ltb, lit<}
use borrow.Author.Tests.{eq-eqb, ne_eqb}
use borrow.Author.Rules.{rules}
use Rattle.sheet_rules.specs.declared.Record.{Record}
use Rattle.octets.specs.Octets.{put_at}
use Rattle.octets.proofs.Laws.{put_nothing, put_put, put_length}
use Rattle.octets.proofs.Turns.{sets_put}
use Rattle.octets.specs.Entries.{entries_from, joined, Entry}
use Rattle.octets.proofs.Entries.{length_entries, entries_split, joined_append, joined_length}
use Rattle.sheet_rules.specs.StripeTable.{layer_record, main_res}
use Rattle.sheet_rules.specs.declared.Extent.{Extent}
use Rattle.sheet_rules.specs.Record.{record_at, record_size}
use Rattle.sheet_rules.specs.Judge.{coded}
use Rattle.pixel_rules.specs.declared.MainPos.{MainPos}
use Rattle.pixel_rules.specs.declared.SamplePos.{SamplePos}
use Rattle.std.specs.Prelude.{Option, Some, None}
use Rattle.pixel_rules.specs.declared.Plane.{Plane}
use Rattle.pixel_rules.specs.Planes.{plane_start}
use Rattle.pixel_rules.specs.Place.{left_of, top_of, area_end, scale, covers}
use Rattle.pixel_rules.specs.Samples.{depth}
use Rattle.pixel_rules.proofs.Division.{says_covers, scale_within}
use Rattle.picture_rules.specs.Demand.{at}
use Rattle.line_sample.specs.Factor.{factor_of, Steps}
use Rattle.line_sample.proofs.Laws.{product_small}
use Rattle.line_planes.specs.declared.Listing.{Listing}
use Rattle.line_planes.specs.Listing.{entries_of}
use Rattle.line_fetch.specs.declared.Row.{Row}
use Rattle.line_fetch.specs.Rows.{row_size, row_at, numbers_of}
use Rattle.line_rows.specs.Rows.{row_in, row_out, row_by, other_of, row_of, rows_of, Covered, Layer, Standing}

-- ---- an area

pub place_made : (n x : ℕ) → n ≡ x → at n ≡ at x
place_made n x e = ap at e

pub end_small : (o n k : ℕ) → (o < 65536) × (n < 65536) × (k < 65536) → o + n * k < 4295032832
end_small o n k h = let m = product_small n k h.1 h.2 in let a = h.0 in omega arith

pub covers_made : (o : MainPos) (n k : ℕ) (to y : MainPos) → to ≡ area_end o n k → leb o.0 y.0 && ltb y.0 to.0 ≡ covers o n k y
unfolding covers
covers_made o n k to y e = rw e refl

-- ---- the start of a row of samples

pub start_made : (a width each down w n : ℕ) → w ≡ width → n ≡ down * w * each → a + n ≡ a + down * width * each
start_made a width each down w n ew en = ap (λ (i : ℕ). a + i) (en ∙ ap (λ (j : ℕ). down * j * each) ew)

-- ---- a layer that the line crosses

module _ (r : Record) (k : ℕ) (y : MainPos) where
  pub in_unread : (other : ℕ) (p : Option ℕ) (from to : MainPos) (w m : ℕ) → p ≡ None → from ≡ left_of r → w ≡ r.width → to ≡ area_end from w k → m ≡ factor_of k
      → record { from = from; to = to; factor = m; read = 0; at = 0; other = other; ratio = k } ≡ row_in r k y p other
  unfolding row_in
  in_unread other p from to w m e f g h em = rw (e, h, f, g, em)

  pub in_read : (other : ℕ) (p : Option ℕ) (a w m each at : ℕ) (from to o : MainPos) (q : SamplePos) → p ≡ Some a → from ≡ left_of r → w ≡ r.width → to ≡ area_end from w k → m ≡ factor_of k
      → (each ≡ depth r) × (each ≤ 3) → o ≡ top_of r → q ≡ scale k o y → at ≡ a + q.0 * r.width * each
      → record { from = from; to = to; factor = m; read = each; at = at; other = other; ratio = k } ≡ row_in r k y p other
  unfolding row_in
  in_read other p a w m each at from to o q e f g h em en eo eq ea = rw (e, h, f, g, em, ea, eq, eo, en.0)

  pub in_steps : (o : MainPos) (m : ℕ) → Covered r k y → m ≡ factor_of k → o ≡ top_of r → Steps k m o y
  in_steps o m c em e =
      let w = scale_within (top_of r) r.height k y c.within in
      let h = c.high in
      record {
        some = c.some;
        small = c.small;
        factor = em;
        past = subst (λ (i : MainPos). i.0 ≤ y.0) (sym e) ((says_covers (top_of r) r.height k y).told c.within).0;
        near = subst (λ (i : MainPos). (scale k i y).0 < 65536) (sym e) (omega arith);
      }

  pub in_down : (o : MainPos) (q : SamplePos) → Covered r k y → o ≡ top_of r → q ≡ scale k o y → q.0 < 65536
  in_down o q c e f =
      let w = scale_within (top_of r) r.height k y c.within in
      let z : q.0 ≡ (scale k (top_of r) y).0 = ap (λ (i : SamplePos). i.0) f ∙ ap (λ (j : MainPos). (scale k j y).0) e in
      let h = c.high in
      omega arith

-- ---- a layer

pub out_made : (other m : ℕ) → m ≡ factor_of 1 → record { from = record { 0 = 0 }; to = record { 0 = 0 }; factor = m; read = 0; at = 0; other = other; ratio = 1 } ≡ row_out other
out_made other m e = rw e

module _ (r : Record) (k : ℕ) (y : MainPos) (p : Option ℕ) (other : ℕ) where
  pub by_uncoded : (w : Row) → r.len ≡ 0 → w ≡ row_out other → w ≡ row_by r k y p other
  unfolding row_by
  by_uncoded w e f = f ∙ simp (eq-eqb r.len 0 e)

  module _ (b : Bool) (o : MainPos) (n : ℕ) (d : r.len ≢ 0) (eo : o ≡ top_of r) (en : n ≡ r.height) (e : b ≡ covers o n k y) where
    covered : b ≡ covers (top_of r) r.height k y
    covered = e ∙ ap₂ (λ i j. covers i j k y) eo en

    pub by_in : (w : Row) → b ≡ true → w ≡ row_in r k y p other → w ≡ row_by r k y p other
    unfolding row_by
    by_in w t f = f ∙ simp (ne_eqb r.len 0 d, sym covered ∙ t)

    pub by_out : (w : Row) → b ≡ false → w ≡ row_out other → w ≡ row_by r k y p other
    unfolding row_by
    by_out w t f = f ∙ simp (ne_eqb r.len 0 d, sym covered ∙ t)

    pub by_covered : 0 < k → k < 65536 → n < 65536 → b ≡ true → Covered r k y
    by_covered a c h t = record { some = a; small = c; high = subst (λ (i : ℕ). i < 65536) en h; within = sym covered ∙ t }

-- ---- what a layer gives outside its area

module _ (c : Bool) (r : Record) (i l : ℕ) where
  not_not : eqb r.len 0 ≡ not (coded r)
  not_not = go (eqb r.len 0)
    where
      go : (b : Bool) → b ≡ not (not b)
      go true = refl
      go false = refl

  pub other_one : l % 2 ≡ 0 → eqb r.len 0 && eqb l 2 && c ≡ true → 1 ≡ other_of c r i l
  unfolding other_of
  other_one e t = simp (eq-eqb (l % 2) 0 e, sym (ap (λ b. b && eqb l 2 && c) not_not) ∙ t)

  pub other_zero : l % 2 ≡ 0 → eqb r.len 0 && eqb l 2 && c ≡ false → 0 ≡ other_of c r i l
  unfolding other_of
  other_zero e t = simp (eq-eqb (l % 2) 0 e, sym (ap (λ b. b && eqb l 2 && c) not_not) ∙ t)

  pub other_base : l % 2 ≢ 0 → i * record_size + 14 ≡ other_of c r i l
  unfolding other_of
  other_base d = simp (ne_eqb (l % 2) 0 d)

-- ---- the row of a layer of a stripe

module _ (s : List ℕ) (extent : Extent) (m : ℕ) (c : Bool) (y : MainPos) (l : ℕ) where
  pub layer_made : (ps : List Plane) (r : Record) (k : ℕ) (p : Option ℕ) (n : ℕ) (w : Row) → Layer s extent m c l → r ≡ record_at s (extent.first + (l - 1)) → k ≡ m / r.res
      → p ≡ plane_start ps l → n ≡ other_of c r (extent.first + (l - 1)) l → w ≡ row_by r k y p n → w ≡ row_of s extent ps y l
  unfolding row_of layer_record
  layer_made ps r k p n w g er ek ep en ew = ew ∙ rw (ek, ep, en, er, g.main, g.third) refl

  pub layer_res : (r : Record) → Layer s extent m c l → r ≡ record_at s (extent.first + (l - 1)) → 0 < r.res
  unfolding layer_record
  layer_res r g e = subst (λ (q : Record). 0 < q.res) (sym e) g.res

  pub layer_turns : (r : Record) (k : ℕ) → Layer s extent m c l → r ≡ record_at s (extent.first + (l - 1)) → k ≡ m / r.res → 0 < k
  unfolding layer_record
  layer_turns r k g e f = subst (λ (n : ℕ). 0 < n) (sym (f ∙ ap₂ (λ (a : ℕ) (q : Record). a / q.res) g.main e)) g.turns

pub stores_row : (d : List ℕ) (l : ℕ) (w : Row) → 1 ≤ l → l * row_size ≤ length d
    → set (set (set (set (set (set (set d ((l - 1) * row_size) w.from.0) ((l - 1) * row_size + 1) w.to.0) ((l - 1) * row_size + 2) w.factor) ((l - 1) * row_size + 3) w.read) ((l - 1) * row_size + 4) w.at) ((l - 1) * row_size + 5) w.other) ((l - 1) * row_size + 6) w.ratio
    ≡ put_at d ((l - 1) * row_size) (numbers_of w)
stores_row d l w g h = all d ((l - 1) * row_size) (omega arith)
  where
    all : (d : List ℕ) (b : ℕ) → b + row_size ≤ length d → set (set (set (set (set (set (set d b w.from.0) (b + 1) w.to.0) (b + 2) w.factor) (b + 3) w.read) (b + 4) w.at) (b + 5) w.other) (b + 6) w.ratio ≡ put_at d b (numbers_of w)
    all d b h =
        let a : b + 1 ≡ suc b = omega arith in
        let c : b + 2 ≡ suc (suc b) = omega arith in
        let e : b + 3 ≡ suc (suc (suc b)) = omega arith in
        let f : b + 4 ≡ suc (suc (suc (suc b))) = omega arith in
        let g : b + 5 ≡ suc (suc (suc (suc (suc b)))) = omega arith in
        let i : b + 6 ≡ suc (suc (suc (suc (suc (suc b))))) = omega arith in
        rw (a, c, e, f, g, i) (sets_put d b (numbers_of w) h)

-- ---- the loop over the layers

row_own : (s t : List ℕ) (i j : ℕ) → ((m : ℕ) → m < row_size → get_or s (i * row_size + m) 0 ≡ get_or t (j * row_size + m) 0) → row_at s (i + 1) ≡ row_at t (j + 1)
unfolding row_at
row_own s t i j e =
    let a : i + 1 - 1 ≡ i = omega arith in
    let b : j + 1 - 1 ≡ j = omega arith in
    let z : get_or s (i * row_size) 0 ≡ get_or t (j * row_size) 0 = simp add-zero at (e 0 (lit< tt)) in
    rw (a, b) (cc (z, e 1 (lit< tt), e 2 (lit< tt), e 3 (lit< tt), e 4 (lit< tt), e 5 (lit< tt), e 6 (lit< tt)))

row_back : (w : Row) (s : List ℕ) → row_at (numbers_of w ++ s) (0 + 1) ≡ w
unfolding row_at
row_back w s = refl

-- the laws of entries hold of rows; entry i is the row of layer i + 1
pub row_entry : Entry row_size (λ (ns : List ℕ) (i : ℕ). row_at ns (i + 1)) numbers_of
row_entry = record { some = lit< tt; own = row_own; long = λ w. refl; back = row_back }

pub length_rows_lem : (s : List ℕ) (extent : Extent) (ps : List Plane) (y : MainPos) (n : ℕ) → length (rows_of s extent ps y n) ≡ n * row_size
length_rows_lem s extent ps y n =
    joined_length row_entry (entries_from (row_of s extent ps y) n 1) ∙ ap (λ (k : ℕ). k * row_size) (length_entries (row_of s extent ps y) n 1)

rows_more : (s : List ℕ) (extent : Extent) (ps : List Plane) (y : MainPos) (n : ℕ) → rows_of s extent ps y (n + 1) ≡ rows_of s extent ps y n ++ numbers_of (row_of s extent ps y (n + 1))
unfolding entries_from joined
rows_more s extent ps y n =
    let z : 1 + n ≡ n + 1 = omega arith in
    ap (joined numbers_of) (entries_split (row_of s extent ps y) n 1 1)
    ∙ joined_append numbers_of (entries_from (row_of s extent ps y) n 1) (row_of s extent ps y (1 + n) ∷ [])
    ∙ ap (λ (l : ℕ). rows_of s extent ps y n ++ numbers_of (row_of s extent ps y l)) z

pub record Filling (d s : List ℕ) (extent : Extent) (t : Listing) (y : MainPos) (m : ℕ) (c : Bool) (n : ℕ) (out : List ℕ) (l : ℕ) : Type 0 where
  pub some : 1 ≤ l
  pub within : l ≤ n + 1
  pub all : n ≡ extent.layers
  pub room : n * row_size ≤ length d
  pub long : length out ≡ length d
  pub main : m ≡ main_res s extent
  pub third : c ≡ coded (layer_record s extent 3)
  pub filled : out ≡ put_at d 0 (rows_of s extent (entries_of t) y (l - 1))

module _ (d s : List ℕ) (extent : Extent) (t : Listing) (y : MainPos) (m : ℕ) (c : Bool) (n : ℕ) where
  pub filling_none : (second third : Record) → extent.layers * row_size ≤ length d → n ≡ extent.layers → second ≡ record_at s (extent.first + 1) → third ≡ record_at s (extent.first + 2)
      → m ≡ second.res → c ≡ not (eqb third.len 0) → Filling d s extent t y m c n d 1
  unfolding joined entries_from layer_record
  filling_none second third h e es et em ec =
      record {
        some = omega arith;
        within = omega arith;
        all = e;
        room = omega arith;
        long = refl;
        main = em ∙ ap (λ (r : Record). r.res) es;
        third = ec ∙ ap (λ (r : Record). not (eqb r.len 0)) et;
        filled = sym (put_nothing d 0);
      }

  pub filling_layer : (out : List ℕ) (l : ℕ) → Filling d s extent t y m c n out l → Standing s extent → l ≤ n → Layer s extent m c l
  filling_layer out l g z h =
      let o = g.some in
      let a = g.all in
      let w = z.whole in
      let f = z.fifteen in
      record {
        least = omega arith;
        most = omega arith;
        place = omega arith;
        res = z.res l (omega arith) (omega arith);
        turns = z.turns l (omega arith) (omega arith);
        main = g.main;
        third = g.third;
      }

  pub filling_room : (out : List ℕ) (l : ℕ) → Filling d s extent t y m c n out l → l ≤ n → (1 ≤ l) × (l * row_size ≤ length out)
  filling_room out l g h = let o = g.some in let r = g.room in let k = g.long in (omega arith, omega arith)

  filling_next : (out new : List ℕ) (i : ℕ) (w : Row) → Filling d s extent t y m c n out (i + 1) → i < n → w ≡ row_of s extent (entries_of t) y (i + 1)
      → new ≡ put_at out ((i + 1 - 1) * row_size) (numbers_of w) → Filling d s extent t y m c n new (i + 1 + 1)
  filling_next out new i w g h ew e =
      let l = length_rows_lem s extent (entries_of t) y i in
      let r = g.room in
      let k = g.long in
      let q : length (numbers_of w) ≡ row_size = refl in
      let iz : i + 1 - 1 ≡ i = omega arith in
      let nz : i + 1 ≡ i + 1 + 1 - 1 = omega arith in
      let lz : (i + 1 - 1) * row_size ≡ 0 + length (rows_of s extent (entries_of t) y i) = omega arith in
      record {
        some = omega arith;
        within = omega arith;
        all = g.all;
        room = g.room;
        long = ap length e ∙ put_length out ((i + 1 - 1) * row_size) (numbers_of w) (omega arith) ∙ g.long;
        main = g.main;
        third = g.third;
        filled =
            e ∙ ap₂ (λ (o : List ℕ) (a : ℕ). put_at o a (numbers_of w)) (g.filled ∙ ap (λ (k : ℕ). put_at d 0 (rows_of s extent (entries_of t) y k)) iz) lz
            ∙ put_put d 0 (rows_of s extent (entries_of t) y i) (numbers_of w) (omega arith)
            ∙ ap (λ (x : Row). put_at d 0 (rows_of s extent (entries_of t) y i ++ numbers_of x)) ew
            ∙ ap (put_at d 0) (sym (rows_more s extent (entries_of t) y i))
            ∙ ap (λ (k : ℕ). put_at d 0 (rows_of s extent (entries_of t) y k)) nz;
      }

  pub filling_more : (out new : List ℕ) (l : ℕ) (w : Row) → Filling d s extent t y m c n out l → l ≤ n → w ≡ row_of s extent (entries_of t) y l
      → new ≡ put_at out ((l - 1) * row_size) (numbers_of w) → Filling d s extent t y m c n new (l + 1)
  filling_more out new zero w g h ew e = absurd (let o = g.some in omega arith)
  filling_more out new (suc i) w g h ew e =
      let z : suc i ≡ i + 1 = omega arith in
      subst (λ (k : ℕ). Filling d s extent t y m c n new (k + 1)) (sym z)
      (filling_next out new i w
      (subst (λ (k : ℕ). Filling d s extent t y m c n out k) z g) (omega arith)
      (ew ∙ ap (λ (k : ℕ). row_of s extent (entries_of t) y k) z)
      (e ∙ ap (λ (k : ℕ). put_at out ((k - 1) * row_size) (numbers_of w)) z))

  pub filling_end : (out : List ℕ) (l : ℕ) → Filling d s extent t y m c n out l → n < l → out ≡ put_at d 0 (rows_of s extent (entries_of t) y extent.layers)
  filling_end out l g h =
      let w = g.within in
      let a = g.all in
      let z : l - 1 ≡ extent.layers = omega arith in
      g.filled ∙ ap (λ (k : ℕ). put_at d 0 (rows_of s extent (entries_of t) y k)) z

  -- with the last layer's row
  pub filling_last : (out new : List ℕ) (l : ℕ) (w : Row) → Filling d s extent t y m c n out l → n ≤ l → l ≤ n → w ≡ row_of s extent (entries_of t) y l
      → new ≡ put_at out ((l - 1) * row_size) (numbers_of w) → new ≡ put_at d 0 (rows_of s extent (entries_of t) y extent.layers)
  filling_last out new l w g h k ew e = filling_end new (l + 1) (filling_more out new l w g k ew e) (omega arith)

pub ruleset layering = (rules, layer_made, layer_res, layer_turns)

pub ruleset filling = (rules, stores_row, filling_none, filling_layer, filling_room, filling_more, filling_end, filling_last)

pub ruleset areas = (rules, place_made, end_small, covers_made, product_small, start_made)

pub ruleset crossing = (rules, in_unread, in_read, in_steps, in_down, out_made, by_uncoded, by_in, by_out, by_covered)

pub ruleset others = (rules, other_one, other_zero, other_base)
