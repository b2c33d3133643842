-- The rows that are worked out from the lanes of a band are the rows that are worked out from its records, in every line.
-- Assumes nothing.
use Prim.Native.Nat.{ℕ, ◌+◌, ◌-◌, ◌*◌, ◌≤◌, ◌<◌}
use native.Mathlib.Nat.{add-zero, zero-add, mul_assoc, mul-zero}
use native.Mathlib.Omega.{arith}
use mathlib.Core.Path.{◌≡◌, refl, sym, ap, ap₂, ◌∙◌}
use mathlib.Core.Bool.{Bool, true, false, ◌&&◌, cond}
use mathlib.Core.List.{List, [], ◌∷◌, ◌++◌, append-nil}
use lib.ListN.{length, get_or}
use lib.Dec.{leb, ltb, lit<}
use borrow.Author.Tests.{le-ltb}
use Rattle.octets.specs.Octets.{put_at}
use Rattle.octets.proofs.Laws.{put_get_d, put_put}
use Rattle.octets.specs.Entries.{entries_from, joined, Entry}
use Rattle.octets.proofs.Entries.{length_entries, entry_from, entries_same, entries_split, joined_append, joined_length, joined_entry}
use Rattle.sheet_rules.specs.StripeTable.{layer_record, main_res}
use Rattle.sheet_rules.specs.declared.Record.{Record}
use Rattle.sheet_rules.specs.declared.Extent.{Extent}
use Rattle.sheet_rules.specs.Judge.{coded}
use Rattle.pixel_rules.specs.declared.MainPos.{MainPos}
use Rattle.pixel_rules.specs.declared.Plane.{Plane}
use Rattle.std.specs.Prelude.{Option, Some, None}
use Rattle.pixel_rules.specs.Place.{ratio, left_of, top_of, area_end, scale, covers}
use Rattle.pixel_rules.specs.Planes.{plane_start}
use Rattle.pixel_rules.specs.Samples.{depth}
use Rattle.line_sample.specs.Factor.{factor_of}
use Rattle.line_fetch.specs.Rows.{numbers_of}
use Rattle.line_rows.specs.Rows.{row_out, row_by, other_of, row_of, rows_of}
use Rattle.line_lanes.specs.declared.Lane.{Lane}
use Rattle.line_lanes.specs.Lanes.{lane_size, lane_at, lane_numbers, bottom_of, lane_by, lane_of, lanes_of, row_from, rows_from}

-- ---- one layer

none_above : (a b : ℕ) → leb a b && ltb b 0 ≡ false
none_above a b = ap (λ (c : Bool). leb a b && c) (le-ltb b 0 (omega arith)) ∙ go (leb a b)
  where
    go : (c : Bool) → c && false ≡ false
    go true = refl
    go false = refl

-- a line crosses the lane of a coded layer exactly if it crosses the layer's area
crosses_is : (r : Record) (q : ℕ) (y : MainPos) → leb r.y y.0 && ltb y.0 (bottom_of r q).0 ≡ coded r && covers (top_of r) r.height q y
unfolding bottom_of covers
crosses_is r q y = go (coded r)
  where
    go : (c : Bool) → leb r.y y.0 && ltb y.0 (cond c (area_end (top_of r) r.height q) (record { 0 = 0 })).0 ≡ c && (leb r.y y.0 && ltb y.0 (r.y + r.height * q))
    go true = refl
    go false = none_above r.y y.0

pub row_by_lane : (r : Record) (q : ℕ) (y : MainPos) (p : Option ℕ) (other : ℕ) → row_from (lane_by r q p other) y ≡ row_by r q y p other
unfolding row_from lane_by row_by
row_by_lane r q y None other =
    ap₂ (λ (b : Bool) (n : ℕ). cond b (record { from = left_of r; to = area_end (left_of r) r.width q; factor = factor_of q; read = 0; at = n; other = other; ratio = q }) (row_out other))
    (crosses_is r q y) (zero-add ((scale q (top_of r) y).0 * (r.width * 0)) ∙ ap (λ (k : ℕ). (scale q (top_of r) y).0 * k) (mul-zero r.width) ∙ mul-zero (scale q (top_of r) y).0)
row_by_lane r q y (Some a) other =
    ap₂ (λ (b : Bool) (n : ℕ). cond b (record { from = left_of r; to = area_end (left_of r) r.width q; factor = factor_of q; read = depth r; at = a + n; other = other; ratio = q }) (row_out other))
    (crosses_is r q y) (sym (mul_assoc (scale q (top_of r) y).0 r.width (depth r)))

pub row_from_lane : (s : List ℕ) (extent : Extent) (ps : List Plane) (y : MainPos) (l : ℕ) → row_from (lane_of s extent ps l) y ≡ row_of s extent ps y l
unfolding lane_of row_of
row_from_lane s extent ps y l =
    row_by_lane (layer_record s extent l) (ratio (main_res s extent) (layer_record s extent l)) y (plane_start ps l)
    (other_of (coded (layer_record s extent 3)) (layer_record s extent l) (extent.first + (l - 1)) l)

-- ---- lanes among numbers

lane_own : (s t : List ℕ) (i j : ℕ) → ((m : ℕ) → m < lane_size → get_or s (i * lane_size + m) 0 ≡ get_or t (j * lane_size + m) 0) → lane_at s (i + 1) ≡ lane_at t (j + 1)
unfolding lane_at
lane_own s t i j e =
    let a : i + 1 - 1 ≡ i = omega arith in
    let b : j + 1 - 1 ≡ j = omega arith in
    let z : get_or s (i * lane_size) 0 ≡ get_or t (j * lane_size) 0 = simp add-zero at (e 0 (lit< tt)) in
    rw (a, b) (cc (z, e 1 (lit< tt), e 2 (lit< tt), e 3 (lit< tt), e 4 (lit< tt), e 5 (lit< tt), e 6 (lit< tt), e 7 (lit< tt), e 8 (lit< tt), e 9 (lit< tt)))

lane_back : (w : Lane) (s : List ℕ) → lane_at (lane_numbers w ++ s) (0 + 1) ≡ w
unfolding lane_at
lane_back w s = refl

-- the laws of entries hold of lanes; entry i is the lane of layer i + 1
pub lane_entry : Entry lane_size (λ (ns : List ℕ) (i : ℕ). lane_at ns (i + 1)) lane_numbers
lane_entry = record { some = lit< tt; own = lane_own; long = λ w. refl; back = lane_back }

-- ---- entries that are put one behind the other

module _ {A : Type 0} {size : ℕ} {at : List ℕ → ℕ → A} {enc : A → List ℕ} (y : Entry size at enc) (of : ℕ → A) where
  pub length_upto : (n : ℕ) → length (joined enc (entries_from of n 1)) ≡ n * size
  length_upto n = joined_length y (entries_from of n 1) ∙ ap (λ (k : ℕ). k * size) (length_entries of n 1)

  upto_more : (n : ℕ) → joined enc (entries_from of (n + 1) 1) ≡ joined enc (entries_from of n 1) ++ enc (of (n + 1))
  unfolding entries_from joined
  upto_more n =
      let z : 1 + n ≡ n + 1 = omega arith in
      ap (joined enc) (entries_split of n 1 1)
      ∙ joined_append enc (entries_from of n 1) (of (1 + n) ∷ [])
      ∙ ap (λ (l : List ℕ). joined enc (entries_from of n 1) ++ l) (append-nil (enc (of (1 + n))))
      ∙ ap (λ (l : ℕ). joined enc (entries_from of n 1) ++ enc (of l)) z

  -- i are put, and one more behind them
  pub put_one_more : (d out new : List ℕ) (i : ℕ) (e : A) → out ≡ put_at d 0 (joined enc (entries_from of i 1)) → e ≡ of (i + 1)
      → new ≡ put_at out ((i + 1 - 1) * size) (enc e) → new ≡ put_at d 0 (joined enc (entries_from of (i + 1) 1))
  put_one_more d out new i e eo ee en =
      let p : i + 1 - 1 ≡ i = omega arith in
      let q : (i + 1 - 1) * size ≡ 0 + length (joined enc (entries_from of i 1)) = ap (λ (k : ℕ). k * size) p ∙ sym (length_upto i) ∙ sym (zero-add (length (joined enc (entries_from of i 1)))) in
      en ∙ ap₂ (λ (o : List ℕ) (a : ℕ). put_at o a (enc e)) eo q
      ∙ put_put d 0 (joined enc (entries_from of i 1)) (enc e) (omega arith)
      ∙ ap (λ (x : A). put_at d 0 (joined enc (entries_from of i 1) ++ enc x)) ee
      ∙ ap (put_at d 0) (sym (upto_more i))

-- ---- all layers

module _ (s : List ℕ) (extent : Extent) (ps : List Plane) (d : List ℕ) (n : ℕ) where
  lane_put : (i : ℕ) → i < n → lane_at (put_at d 0 (lanes_of s extent ps n)) (i + 1) ≡ lane_of s extent ps (1 + i)
  lane_put i h =
      let l = length_upto lane_entry (lane_of s extent ps) n in
      let k = length_entries (lane_of s extent ps) n 1 in
      lane_entry.own (put_at d 0 (lanes_of s extent ps n)) (lanes_of s extent ps n) i i
      (λ m g. let e : i * lane_size + m ≡ 0 + (i * lane_size + m) = omega arith in
      ap (λ (a : ℕ). get_or (put_at d 0 (lanes_of s extent ps n)) a 0) e ∙ put_get_d d 0 (lanes_of s extent ps n) (i * lane_size + m) (omega arith) (omega arith))
      ∙ joined_entry lane_entry (lane_of s extent ps 0) (entries_from (lane_of s extent ps) n 1) i (omega arith)
      ∙ entry_from (lane_of s extent ps) (lane_of s extent ps 0) n 1 i h

  pub lane_among : (l : ℕ) → 1 ≤ l → l ≤ n → lane_at (put_at d 0 (lanes_of s extent ps n)) l ≡ lane_of s extent ps l
  lane_among l a b =
      let e : l ≡ l - 1 + 1 = omega arith in
      let f : 1 + (l - 1) ≡ l = omega arith in
      ap (lane_at (put_at d 0 (lanes_of s extent ps n))) e ∙ lane_put (l - 1) (omega arith) ∙ ap (lane_of s extent ps) f

-- numbers that have the lane of each layer of a stripe give its rows, whatever the line
pub rows_from_lanes : (s : List ℕ) (extent : Extent) (ps : List Plane) (ns : List ℕ) (n : ℕ) (y : MainPos) → ((l : ℕ) → 1 ≤ l → l ≤ n → lane_at ns l ≡ lane_of s extent ps l)
    → rows_from ns y n ≡ rows_of s extent ps y n
rows_from_lanes s extent ps ns n y e =
    ap (joined numbers_of)
    (entries_same (λ (l : ℕ). row_from (lane_at ns l) y) (row_of s extent ps y) n 1 1
    (λ m h. ap (λ (w : Lane). row_from w y) (e (1 + m) (omega arith) (omega arith)) ∙ row_from_lane s extent ps y (1 + m)))
