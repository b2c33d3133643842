-- The rows of a scene that is shown are plain: the ratios of an accepted sheet are 12 at most, and a sample has one octet or three.
-- Assumes nothing.
use Prim.Native.Nat.{ℕ, ◌+◌, ◌-◌, ◌*◌, ◌%◌, ◌≤◌}
use native.Mathlib.Omega.{arith}
use mathlib.Core.Path.{◌≡◌, refl, sym, subst}
use mathlib.Core.Logic.{◌≢◌}
use mathlib.Core.Bool.{Bool, true, false, ◌&&◌, ◌||◌, cond}
use mathlib.Core.List.{List}
use lib.ListN.{length}
use lib.Dec.{eqb}
use Rattle.laws.proofs.Cases.{cond_with}
use Rattle.octets.specs.Octets.{put_at}
use Rattle.sheet_rules.specs.declared.Record.{Record}
use Rattle.sheet_rules.specs.Record.{is_grey}
use Rattle.sheet_rules.specs.StripeTable.{layer_record}
use Rattle.sheet_rules.specs.Judge.{coded}
use Rattle.pixel_rules.specs.declared.MainPos.{MainPos}
use Rattle.std.specs.Prelude.{Option, Some, None}
use Rattle.pixel_rules.specs.Place.{ratio, top_of, covers}
use Rattle.pixel_rules.specs.Planes.{PlaneList, plane_start}
use Rattle.pixel_rules.specs.Samples.{Scene, record_of, main_of, depth, pairs_of}
use Rattle.picture_rules.proofs.Scenes.{Stage, stage_layers, ratio_most, scene_ratio}
use Rattle.line_fetch.specs.Rows.{row_size}
use Rattle.line_rows.specs.Rows.{row_in, row_by, other_of, row_of, rows_of}
use Rattle.line_rows.proofs.Same.{row_among}
use Rattle.paint_image.specs.Image.{Plain}
use Rattle.paint_floor.specs.Floors.{PlainRows}

depth_kind : (r : Record) → depth r ≢ 3 → depth r ≡ 1
depth_kind r n = by (eqb (r.layer % 2) 0 || is_grey r) n
  where
    by : (b : Bool) → ◌≢◌ {A = ℕ} (cond b 1 3) 3 → ◌≡◌ {A = ℕ} (cond b 1 3) 1
    by true h = refl
    by false h = absurd (h refl)

module _ (r : Record) (q : ℕ) (y : MainPos) (other : ℕ) (few : q ≤ 12) where
  plain_in : (p : Option ℕ) → Plain (row_in r q y p other)
  unfolding row_in
  plain_in None = record { few = few; one = λ n m. absurd (n refl) }
  plain_in (Some a) = record { few = few; one = λ n m. depth_kind r m }

  plain_by : (p : Option ℕ) → Plain (row_by r q y p other)
  unfolding row_by
  plain_by p =
      cond_with Plain (coded r && covers (top_of r) r.height q y) (λ t. plain_in p) (λ t. record { few = omega arith; one = λ n m. absurd (n refl) })

module _ (v : Scene) (pl : PlaneList) (k n : ℕ) (y : MainPos) (g : Stage v.sheet pl v.samples k n v) where
  plain_row : (l : ℕ) → 1 ≤ l → l ≤ v.extent.layers → Plain (row_of v.sheet v.extent v.planes y l)
  unfolding row_of layer_record
  plain_row l a b =
      plain_by (record_of v l) (ratio (main_of v) (record_of v l)) y (other_of (coded (record_of v 3)) (record_of v l) (v.extent.first + (l - 1)) l)
      (ratio_most (ratio (main_of v) (record_of v l)) (scene_ratio g l a b).0) (plane_start v.planes l)

  pub rows_plain : (z : List ℕ) → v.extent.layers * row_size ≤ length z → PlainRows (put_at z 0 (rows_of v.sheet v.extent v.planes y v.extent.layers)) (pairs_of v)
  rows_plain z room =
      let c = stage_layers g in
      record {
        image = λ j h. subst Plain (sym (row_among v.sheet v.extent v.planes y z v.extent.layers (j * 2 + 1) (omega arith) (omega arith))) (plain_row (j * 2 + 1) (omega arith) (omega arith));
        mask = λ j i h. subst Plain (sym (row_among v.sheet v.extent v.planes y z v.extent.layers (j * 2) (omega arith) (omega arith))) (plain_row (j * 2) (omega arith) (omega arith));
      }

  pub pairs_few : pairs_of v ≤ 7
  pairs_few = let c = stage_layers g in omega arith
