-- The rows of a line give what the picture's definitions give: each layer's sample in its row is its sample in the scene, and what the rows name is there.
-- Assumes nothing.
use Prim.Native.Nat.{ℕ, ◌+◌, ◌-◌, ◌*◌, ◌%◌, ◌<◌, ◌≤◌}
use native.Mathlib.Nat.{add_assoc, add-mul}
use native.Mathlib.Omega.{arith}
use mathlib.Core.Path.{◌≡◌, refl, sym, ap, ap₂, ◌∙◌}
use mathlib.Core.Bool.{Bool, true, false, ◌&&◌, not, cond}
use mathlib.Core.List.{List}
use lib.ListN.{get_or}
use lib.Dec.{eqb, leb}
use borrow.Author.Tests.{eq-eqb, ne_eqb, le-ltb}
use Rattle.octets.specs.Octets.{put_at}
use Rattle.octets.proofs.Laws.{put_get_d}
use Rattle.octets.specs.Entries.{entries_from}
use Rattle.octets.proofs.Entries.{length_entries, entry_from, joined_entry}
use Rattle.sheet_rules.specs.StripeTable.{layer_record}
use Rattle.sheet_rules.specs.declared.Record.{Record}
use Rattle.sheet_rules.specs.declared.Extent.{Extent}
use Rattle.sheet_rules.specs.Record.{record_at, record_size}
use Rattle.sheet_rules.specs.Judge.{coded}
use Rattle.pixel_rules.specs.declared.MainPos.{MainPos}
use Rattle.pixel_rules.specs.declared.Plane.{Plane}
use Rattle.std.specs.Prelude.{Option, Some, None}
use Rattle.pixel_rules.specs.declared.Mask.{Mask}
use Rattle.pixel_rules.specs.declared.Mask.TheVariants.{Zero, One, Hidden}
use Rattle.pixel_rules.specs.Place.{ratio, left_of, top_of, scale, covers, inside}
use Rattle.pixel_rules.specs.Planes.{plane_start}
use Rattle.pixel_rules.specs.Samples.{Scene, record_of, main_of, index_of, bit_of, base_of, virtual, colour_in, mask_read, image_read, mask_at, image_at, depth}
use Rattle.sheet_rules.specs.Record.{colour_at}
use Rattle.pixel_rules.proofs.Division.{depth_some}
use Rattle.line_fetch.specs.declared.Row.{Row}
use Rattle.line_fetch.specs.Rows.{row_size, row_at, across, row_mask, row_image}
use Rattle.line_rows.specs.Rows.{row_in, row_out, row_by, other_of, row_of, rows_of}
use Rattle.line_rows.proofs.Laws.{row_entry, length_rows_lem}

-- ---- a row among the rows

module _ (s : List ℕ) (extent : Extent) (ps : List Plane) (y : MainPos) (d : List ℕ) (n : ℕ) where
  row_put : (i : ℕ) → i < n → row_at (put_at d 0 (rows_of s extent ps y n)) (i + 1) ≡ row_of s extent ps y (1 + i)
  row_put i h =
      let l = length_rows_lem s extent ps y n in
      let k = length_entries (row_of s extent ps y) n 1 in
      row_entry.own (put_at d 0 (rows_of s extent ps y n)) (rows_of s extent ps y n) i i
      (λ m g. let e : i * row_size + m ≡ 0 + (i * row_size + m) = omega arith in
      ap (λ (a : ℕ). get_or (put_at d 0 (rows_of s extent ps y n)) a 0) e ∙ put_get_d d 0 (rows_of s extent ps y n) (i * row_size + m) (omega arith) (omega arith))
      ∙ joined_entry row_entry (row_out 0) (entries_from (row_of s extent ps y) n 1) i (omega arith)
      ∙ entry_from (row_of s extent ps y) (row_out 0) n 1 i h

  pub row_among : (l : ℕ) → 1 ≤ l → l ≤ n → row_at (put_at d 0 (rows_of s extent ps y n)) l ≡ row_of s extent ps y l
  row_among l a b =
      let z : l - 1 + 1 ≡ l = omega arith in
      let w : 1 + (l - 1) ≡ l = omega arith in
      ap (row_at (put_at d 0 (rows_of s extent ps y n))) (sym z) ∙ row_put (l - 1) (omega arith) ∙ ap (row_of s extent ps y) w

-- ---- a layer's sample in its row

and-true : (b : Bool) → b && true ≡ b
and-true true = refl
and-true false = refl

and-false : (b : Bool) → b && false ≡ false
and-false true = refl
and-false false = refl

row_mask_out : (d : List ℕ) (other : ℕ) (x : MainPos) → across (row_out other) x ≡ false → row_mask d (row_out other) x ≡ bit_of other
unfolding row_mask
row_mask_out d other x e = ap (λ (b : Bool). cond b (cond (eqb 0 0) Hidden (bit_of (get_or d (0 + (scale 1 (record { 0 = 0 }) x).0) 0))) (bit_of other)) e

row_image_out : (s d : List ℕ) (other : ℕ) (x : MainPos) → across (row_out other) x ≡ false → row_image s d (row_out other) x ≡ Some (colour_at s other)
unfolding row_image
row_image_out s d other x e = ap (λ (b : Bool). cond b (cond (eqb 0 0) None (Some (colour_in 0 d (0 + (scale 1 (record { 0 = 0 }) x).0 * 0)))) (Some (colour_at s other))) e

module _ (d : List ℕ) (r : Record) (k : ℕ) (x y : MainPos) (other : ℕ) where
  abbrev area : Bool
  area = covers (left_of r) r.width k x && covers (top_of r) r.height k y

  -- nothing lies across a row that the line passes by
  passed : across (row_out other) x ≡ false
  passed = ap (λ (b : Bool). leb 0 x.0 && b) (le-ltb x.0 0 (omega arith)) ∙ and-false (leb 0 x.0)

  mask_in_lem : (p : Option ℕ) → depth r ≡ 1 → row_mask d (row_in r k y p other) x
      ≡ cond (covers (left_of r) r.width k x) (mask_read d p ((scale k (top_of r) y).0 * r.width + (scale k (left_of r) x).0)) (bit_of other)
  unfolding row_mask row_in covers mask_read
  mask_in_lem None e = refl
  mask_in_lem (Some a) e =
      let z : a + (scale k (top_of r) y).0 * r.width * 1 + (scale k (left_of r) x).0 ≡ a + ((scale k (top_of r) y).0 * r.width + (scale k (left_of r) x).0) = omega arith in
      rw (e, z) refl

  image_in : (s : List ℕ) (p : Option ℕ) → row_image s d (row_in r k y p other) x
      ≡ cond (covers (left_of r) r.width k x) (image_read d (depth r) p ((scale k (top_of r) y).0 * r.width + (scale k (left_of r) x).0)) (Some (colour_at s other))
  unfolding row_image row_in covers image_read
  image_in s None = refl
  image_in s (Some a) =
      let n : ℕ = depth r in
      let z : a + (scale k (top_of r) y).0 * r.width * n + (scale k (left_of r) x).0 * n ≡ a + ((scale k (top_of r) y).0 * r.width + (scale k (left_of r) x).0) * n =
      add_assoc a _ _ ∙ ap (λ (m : ℕ). a + m) (sym (add-mul ((scale k (top_of r) y).0 * r.width) (scale k (left_of r) x).0 n)) in
      let some = depth_some r in
      let e : eqb (depth r) 0 ≡ false = ne_eqb (depth r) 0 (λ q. omega arith) in
      ap₂ (λ (b : Bool) (m : ℕ). cond (covers (left_of r) r.width k x) (cond b None (Some (colour_in n d m))) (Some (colour_at s other))) e z

  pub mask_by : (p : Option ℕ) → depth r ≡ 1 → row_mask d (row_by r k y p other) x
      ≡ cond (coded r) (cond area (mask_read d p ((scale k (top_of r) y).0 * r.width + (scale k (left_of r) x).0)) (bit_of other)) (bit_of other)
  unfolding row_by
  mask_by p e = go (coded r) (covers (top_of r) r.height k y) (covers (left_of r) r.width k x) refl
    where
      out : row_mask d (row_out other) x ≡ bit_of other
      out = row_mask_out d other x passed

      go : (a b c : Bool) → covers (left_of r) r.width k x ≡ c
          → row_mask d (cond (a && b) (row_in r k y p other) (row_out other)) x
          ≡ cond a (cond (c && b) (mask_read d p ((scale k (top_of r) y).0 * r.width + (scale k (left_of r) x).0)) (bit_of other)) (bit_of other)
      go false b c z = out
      go true false false z = out
      go true false true z = out
      go true true c z = mask_in_lem p e ∙ ap (λ (t : Bool). cond t (mask_read d p ((scale k (top_of r) y).0 * r.width + (scale k (left_of r) x).0)) (bit_of other)) z ∙ ap (λ (t : Bool). cond t (mask_read d p ((scale k (top_of r) y).0 * r.width + (scale k (left_of r) x).0)) (bit_of other)) (sym (and-true c))

  pub image_by : (s : List ℕ) (p : Option ℕ) → row_image s d (row_by r k y p other) x
      ≡ cond (coded r && area) (image_read d (depth r) p ((scale k (top_of r) y).0 * r.width + (scale k (left_of r) x).0)) (Some (colour_at s other))
  unfolding row_by
  image_by s p = go (coded r) (covers (top_of r) r.height k y) (covers (left_of r) r.width k x) refl
    where
      out : row_image s d (row_out other) x ≡ Some (colour_at s other)
      out = row_image_out s d other x passed

      go : (a b c : Bool) → covers (left_of r) r.width k x ≡ c
          → row_image s d (cond (a && b) (row_in r k y p other) (row_out other)) x
          ≡ cond (a && (c && b)) (image_read d (depth r) p ((scale k (top_of r) y).0 * r.width + (scale k (left_of r) x).0)) (Some (colour_at s other))
      go false b c z = out
      go true false false z = out
      go true false true z = out
      go true true c z = image_in s p ∙ ap (λ (t : Bool). cond t (image_read d (depth r) p ((scale k (top_of r) y).0 * r.width + (scale k (left_of r) x).0)) (Some (colour_at s other))) (z ∙ sym (and-true c))

-- ---- what a layer gives outside its area

module _ (c : Bool) (r : Record) (i l : ℕ) where
  other_mask : l % 2 ≡ 0 → other_of c r i l ≡ cond (not (coded r) && eqb l 2 && c) 1 0
  unfolding other_of
  other_mask e = ap (λ (b : Bool). cond b (cond (not (coded r) && eqb l 2 && c) 1 0) (i * record_size + 14)) (eq-eqb (l % 2) 0 e)

  pub other_image : l % 2 ≡ 1 → other_of c r i l ≡ i * record_size + 14
  unfolding other_of
  other_image e = ap (λ (b : Bool). cond b (cond (not (coded r) && eqb l 2 && c) 1 0) (i * record_size + 14)) (ne_eqb (l % 2) 0 (λ z. omega arith))

bit_cond : (b : Bool) → bit_of (cond b 1 0) ≡ cond b One Zero
unfolding bit_of
bit_cond true = refl
bit_cond false = refl

base_there : (s : List ℕ) (i : ℕ) → colour_at s (i * record_size + 14) ≡ base_of (record_at s i)
unfolding record_at
base_there s i =
    let a : i * record_size + 14 + 1 ≡ i * record_size + 15 = omega arith in
    let b : i * record_size + 14 + 2 ≡ i * record_size + 16 = omega arith in
    λ t. record { c0 = get_or s (i * record_size + 14) 0; c1 = get_or s (a t) 0; c2 = get_or s (b t) 0 }

-- ---- and so in the scene

module _ (v : Scene) (x y : MainPos) (l : ℕ) where
  abbrev row_here : Row
  row_here = row_of v.sheet v.extent v.planes y l

  pub mask_same : l % 2 ≡ 0 → depth (record_of v l) ≡ 1 → row_mask v.samples row_here x ≡ mask_at v l x y
  unfolding row_of layer_record mask_at inside index_of virtual
  mask_same e q =
      let i : ℕ = v.extent.first + (l - 1) in
      let r = record_of v l in
      mask_by v.samples (record_of v l) (ratio (main_of v) (record_of v l)) x y (other_of (coded (record_of v 3)) (record_of v l) i l) (plane_start v.planes l) q
      ∙ ap (λ (n : ℕ). cond (coded r) (cond (inside (main_of v) r x y) (mask_read v.samples (plane_start v.planes l) (index_of (main_of v) r x y)) (bit_of n)) (bit_of n)) (other_mask (coded (record_of v 3)) r i l e)
      ∙ go (coded r)
    where
      go : (b : Bool)
          → cond b
          (cond (inside (main_of v) (record_of v l) x y) (mask_read v.samples (plane_start v.planes l) (index_of (main_of v) (record_of v l) x y)) (bit_of (cond (not b && eqb l 2 && coded (record_of v 3)) 1 0)))
          (bit_of (cond (not b && eqb l 2 && coded (record_of v 3)) 1 0))
          ≡ cond b (cond (inside (main_of v) (record_of v l) x y) (mask_read v.samples (plane_start v.planes l) (index_of (main_of v) (record_of v l) x y)) Zero) (virtual v l)
      go true = ap (λ (m : Mask). cond (inside (main_of v) (record_of v l) x y) (mask_read v.samples (plane_start v.planes l) (index_of (main_of v) (record_of v l) x y)) m) (bit_cond false)
      go false = bit_cond (eqb l 2 && coded (record_of v 3))

  pub image_same : l % 2 ≡ 1 → row_image v.sheet v.samples row_here x ≡ image_at v l x y
  unfolding row_of layer_record image_at inside index_of
  image_same e =
      let i : ℕ = v.extent.first + (l - 1) in
      let r = record_of v l in
      image_by v.samples (record_of v l) (ratio (main_of v) (record_of v l)) x y (other_of (coded (record_of v 3)) (record_of v l) i l) v.sheet (plane_start v.planes l)
      ∙ ap (λ c. cond (coded r && inside (main_of v) r x y) (image_read v.samples (depth r) (plane_start v.planes l) (index_of (main_of v) r x y)) (Some c))
      (ap (colour_at v.sheet) (other_image (coded (record_of v 3)) r i l e) ∙ base_there v.sheet i)
