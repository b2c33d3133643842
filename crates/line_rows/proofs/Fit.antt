-- The rows of a scene that is shown: what they name is there, and the pixel decided from them is the picture's.
-- Assumes nothing.
use Prim.Native.Nat.{ℕ, zero, suc, ◌+◌, ◌-◌, ◌*◌, ◌/◌, ◌%◌, ◌≤◌, ◌<◌}
use native.Mathlib.Nat.{add-mul}
use native.Mathlib.Omega.{arith}
use mathlib.Core.Path.{◌≡◌, refl, sym, ap, ap₂, subst, ◌∙◌}
use mathlib.Core.Bool.{true, ◌&&◌}
use mathlib.Core.List.{List}
use lib.ListN.{length}
use lib.Dec.{lit<}
use Rattle.laws.proofs.Cases.{cond_with}
use Rattle.laws.proofs.Says.{says_and, says_true}
use Rattle.octets.specs.Octets.{put_at}
use Rattle.octets.proofs.Laws.{put_length}
use Rattle.sheet_rules.specs.StripeTable.{layer_record}
use Rattle.sheet_rules.specs.declared.Record.{Record}
use Rattle.sheet_rules.specs.Record.{record_size}
use Rattle.sheet_rules.specs.Judge.{coded}
use Rattle.pixel_rules.specs.declared.MainPos.{MainPos}
use Rattle.std.specs.Prelude.{Option, Some, None}
use Rattle.pixel_rules.specs.Place.{ratio, left_of, top_of, scale, covers, inside}
use Rattle.pixel_rules.specs.Planes.{PlaneList, plane_start}
use Rattle.pixel_rules.specs.Samples.{Scene, record_of, main_of, index_of, mask_at, image_at, depth, pairs_of}
use Rattle.pixel_rules.specs.Decide.{pair_step, decide, stack_at, pixel_at}
use Rattle.pixel_rules.proofs.Division.{says_covers, says_inside, depth_mask}
use Rattle.picture_rules.proofs.Scenes.{Stage, stage_layers, stage_placed, ratio_most, scene_ratio, scene_ratio_some}
use Rattle.picture_rules.proofs.Within.{sample_there}
use Rattle.line_fetch.specs.declared.Row.{Row}
use Rattle.line_fetch.specs.Rows.{row_size, row_at, row_mask, row_image, Turns, MaskFits, ImageFits}
use Rattle.line_pixel.specs.Rows.{row_stack, RowsFit}
use Rattle.line_rows.specs.Rows.{row_in, row_out, row_by, other_of, row_of, rows_of}
use Rattle.line_rows.proofs.Laws.{length_rows_lem}
use Rattle.line_rows.proofs.Same.{row_among, mask_same, image_same, other_image}

-- ---- one row: what it names is there, if the samples of a start are

module _ (r : Record) (k : ℕ) (y : MainPos) (p : Option ℕ) (other : ℕ) (some : 0 < k) (small : k < 65536) where
  -- the samples of the layer in this line are in the buffer
  abbrev There : List ℕ → Type 0
  There d = (a : ℕ) → p ≡ Some a → (x : MainPos) → covers (left_of r) r.width k x ≡ true → covers (top_of r) r.height k y ≡ true
      → a + ((scale k (top_of r) y).0 * r.width + (scale k (left_of r) x).0) * depth r + depth r ≤ length d

  turns_in : (q : Option ℕ) → Turns (row_in r k y q other)
  unfolding row_in
  turns_in None = record { some = some; small = small; factor = refl }
  turns_in (Some i) = record { some = some; small = small; factor = refl }

  turns_out : Turns (row_out other)
  turns_out = record { some = lit< tt; small = lit< tt; factor = refl }

  crossed : coded r && covers (top_of r) r.height k y ≡ true → covers (top_of r) r.height k y ≡ true
  crossed t = ((says_and (says_true (coded r)) (says_true (covers (top_of r) r.height k y))).told t).1

  over : (x : MainPos) → r.x ≤ x.0 → x.0 < r.x + r.width * k → covers (left_of r) r.width k x ≡ true
  over x a b = (says_covers (left_of r) r.width k x).shown (a, b)

  each_there : (d : List ℕ) → There d → covers (top_of r) r.height k y ≡ true → (a : ℕ) → p ≡ Some a → (x : MainPos) → covers (left_of r) r.width k x ≡ true
      → a + (scale k (top_of r) y).0 * r.width * depth r + (scale k (left_of r) x).0 * depth r + depth r ≤ length d
  each_there d f t a z x o = let h = f a z x o t in let q = add-mul ((scale k (top_of r) y).0 * r.width) (scale k (left_of r) x).0 (depth r) in omega arith

  mask_in_lem : (d : List ℕ) → depth r ≡ 1 → There d → covers (top_of r) r.height k y ≡ true → (q : Option ℕ) → p ≡ q → MaskFits d (row_in r k y q other)
  unfolding row_in
  mask_in_lem d e f t None z = record { turns = turns_in None; there = λ x a b n. absurd (n refl) }
  mask_in_lem d e f t (Some i) z =
      record {
        turns = turns_in (Some i);
        there = λ x a b n.
            let h = each_there d f t i z x (over x a b) in
            let g : (scale k (left_of r) x).0 * depth r ≡ (scale k (left_of r) x).0 * 1 = ap (λ (m : ℕ). (scale k (left_of r) x).0 * m) e in
            omega arith;
      }

  pub mask_fits : (d : List ℕ) → depth r ≡ 1 → There d → MaskFits d (row_by r k y p other)
  unfolding row_by
  mask_fits d e f =
      cond_with (MaskFits d) (coded r && covers (top_of r) r.height k y) (λ t. mask_in_lem d e f (crossed t) p refl)
      (λ t. record { turns = turns_out; there = λ x a b n. absurd (n refl) })

  image_in : (s d : List ℕ) → other + 3 ≤ length s → There d → covers (top_of r) r.height k y ≡ true → (q : Option ℕ) → p ≡ q → ImageFits s d (row_in r k y q other)
  unfolding row_in
  image_in s d o f t None z = record { turns = turns_in None; there = λ x a b n. absurd (n refl); base = o }
  image_in s d o f t (Some i) z = record { turns = turns_in (Some i); there = λ x a b n. each_there d f t i z x (over x a b); base = o }

  pub image_fits : (s d : List ℕ) → other + 3 ≤ length s → There d → ImageFits s d (row_by r k y p other)
  unfolding row_by
  image_fits s d o f =
      cond_with (ImageFits s d) (coded r && covers (top_of r) r.height k y) (λ t. image_in s d o f (crossed t) p refl)
      (λ t. record { turns = turns_out; there = λ x a b n. absurd (n refl); base = o })

-- ---- the rows of a scene that is shown

module _ (v : Scene) (pl : PlaneList) (k n : ℕ) (y : MainPos) (g : Stage v.sheet pl v.samples k n v) (whole : v.extent.first + v.extent.layers ≤ length v.sheet / record_size) where
  module _ (l : ℕ) (a : 1 ≤ l) (b : l ≤ v.extent.layers) where
    mask_depth : l % 2 ≡ 0 → depth (record_of v l) ≡ 1
    mask_depth e = depth_mask (record_of v l) (ap (λ (n : ℕ). n % 2) (stage_placed g l a b).layer ∙ e)

    within : (x : MainPos) → covers (left_of (record_of v l)) (record_of v l).width (ratio (main_of v) (record_of v l)) x ≡ true
        → covers (top_of (record_of v l)) (record_of v l).height (ratio (main_of v) (record_of v l)) y ≡ true → inside (main_of v) (record_of v l) x y ≡ true
    within x p q = (says_inside (main_of v) (record_of v l) x y).shown (p, q)

    ratio_small : ratio (main_of v) (record_of v l) < 65536
    ratio_small = let m = ratio_most (ratio (main_of v) (record_of v l)) (scene_ratio g l a b).0 in omega arith

    pub scene_mask : l % 2 ≡ 0 → MaskFits v.samples (row_of v.sheet v.extent v.planes y l)
    unfolding row_of layer_record index_of
    scene_mask e =
        mask_fits (record_of v l) (ratio (main_of v) (record_of v l)) y (plane_start v.planes l) (other_of (coded (record_of v 3)) (record_of v l) (v.extent.first + (l - 1)) l)
        (scene_ratio_some g l a b) ratio_small v.samples (mask_depth e) (λ i z x p q. sample_there g l i z x y (within x p q))

    pub scene_image : l % 2 ≡ 1 → ImageFits v.sheet v.samples (row_of v.sheet v.extent v.planes y l)
    unfolding row_of layer_record index_of
    scene_image e =
        image_fits (record_of v l) (ratio (main_of v) (record_of v l)) y (plane_start v.planes l) (other_of (coded (record_of v 3)) (record_of v l) (v.extent.first + (l - 1)) l)
        (scene_ratio_some g l a b) ratio_small v.sheet v.samples
        (let o = other_image (coded (record_of v 3)) (record_of v l) (v.extent.first + (l - 1)) l e in omega arith)
        (λ i z x p q. sample_there g l i z x y (within x p q))

  -- N is odd: the pairs and layer 1
  count : v.extent.layers ≡ pairs_of v * 2 + 1
  count = let c = stage_layers g in omega arith

  module _ (z : List ℕ) (room : v.extent.layers * row_size ≤ length z) where
    abbrev rows : List ℕ
    rows = put_at z 0 (rows_of v.sheet v.extent v.planes y v.extent.layers)

    long : length rows ≡ length z
    long = let l = length_rows_lem v.sheet v.extent v.planes y v.extent.layers in put_length z 0 (rows_of v.sheet v.extent v.planes y v.extent.layers) (omega arith)

    here : (l : ℕ) → 1 ≤ l → l ≤ v.extent.layers → row_at rows l ≡ row_of v.sheet v.extent v.planes y l
    here l a b = row_among v.sheet v.extent v.planes y z v.extent.layers l a b

    image_here : (j : ℕ) → j ≤ pairs_of v → ImageFits v.sheet v.samples (row_at rows (j * 2 + 1))
    image_here j h =
        let c = count in
        subst (ImageFits v.sheet v.samples) (sym (here (j * 2 + 1) (omega arith) (omega arith))) (scene_image (j * 2 + 1) (omega arith) (omega arith) (omega arith))

    mask_here : (j : ℕ) → 1 ≤ j → j ≤ pairs_of v → MaskFits v.samples (row_at rows (j * 2))
    mask_here j g h =
        let c = count in
        subst (MaskFits v.samples) (sym (here (j * 2) (omega arith) (omega arith))) (scene_mask (j * 2) (omega arith) (omega arith) (omega arith))

    pub rows_fit : RowsFit v.sheet v.samples rows (pairs_of v)
    rows_fit =
        let c = count in
        let l = long in
        record {
          room = omega arith;
          image = image_here 0 (omega arith);
          pair = λ j g h. record { some = g; room = omega arith; mask = mask_here j g h; image = image_here j h };
        }

    module _ (x : MainPos) where
      image_is_lem : (j : ℕ) → j ≤ pairs_of v → row_image v.sheet v.samples (row_at rows (j * 2 + 1)) x ≡ image_at v (j * 2 + 1) x y
      image_is_lem j h =
          let c = count in
          let odd : (j * 2 + 1) % 2 ≡ 1 = omega arith in
          ap (λ (r : Row). row_image v.sheet v.samples r x) (here (j * 2 + 1) (omega arith) (omega arith))
          ∙ image_same v x y (j * 2 + 1) odd

      mask_is_lem : (j : ℕ) → 1 ≤ j → j ≤ pairs_of v → row_mask v.samples (row_at rows (j * 2)) x ≡ mask_at v (j * 2) x y
      mask_is_lem j g h =
          let c = count in
          let even : j * 2 % 2 ≡ 0 = omega arith in
          ap (λ (r : Row). row_mask v.samples r x) (here (j * 2) (omega arith) (omega arith))
          ∙ mask_same v x y (j * 2) even (mask_depth (j * 2) (omega arith) (omega arith) even)

      decide_is : (j : ℕ) → j ≤ pairs_of v → decide (row_stack v.sheet v.samples rows x) j ≡ decide (stack_at v x y) j
      unfolding decide
      decide_is zero h = image_is_lem 0 h
      decide_is (suc j) h =
          ap₂ (λ m lo. pair_step m lo (row_image v.sheet v.samples (row_at rows (suc j * 2 + 1)) x)) (mask_is_lem (suc j) (omega arith) h) (decide_is j (omega arith))
          ∙ ap (pair_step (mask_at v (suc j * 2) x y) (decide (stack_at v x y) j)) (image_is_lem (suc j) h)

      pub pixel_is : decide (row_stack v.sheet v.samples rows x) (pairs_of v) ≡ pixel_at v x y
      unfolding pixel_at
      pixel_is = decide_is (pairs_of v) (omega arith)
