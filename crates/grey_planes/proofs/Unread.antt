-- A layer that was not read shows the same, grey or in colour: nothing, wherever a pixel hangs on it. A shade of it is as unknown as a colour.
-- Assumes nothing.
use Prim.Native.Nat.{ℕ, ◌+◌, ◌%◌, ◌≤◌, ◌<◌}
use native.Mathlib.Omega.{arith}
use mathlib.Core.Path.{◌≡◌, refl, sym, ap, subst, ◌∙◌}
use mathlib.Core.Logic.{◌⊎◌, inl, inr, ◌≢◌}
use mathlib.Core.List.{List}
use lib.ListN.{length}
use Rattle.laws.proofs.Cases.{clash}
use Rattle.laws.proofs.Says.{says_eq, says_else}
use Rattle.sheet_rules.specs.declared.Colour.{Colour}
use Rattle.sheet_rules.specs.declared.Record.{Record}
use Rattle.sheet_rules.specs.Sentences.{Accepted}
use Rattle.sheet_rules.proofs.Among.{get_d_among}
use Rattle.pixel_rules.specs.declared.Plane.{Plane}
use Rattle.std.specs.Prelude.{Option, None}
use Rattle.pixel_rules.specs.Planes.{PlaneList, plane_start}
use Rattle.pixel_rules.specs.Samples.{Scene, record_of, plane_span, depth, image_read}
use Rattle.pixel_rules.proofs.Starts.{start_some}
use Rattle.picture_rules.specs.Line.{line_of, line_into}
use Rattle.picture_rules.specs.Sentences.{no_plane, scene_of, plane, FineEntry, AllFine}
use Rattle.grey_planes.specs.Spread.{colour_sheet, Alike}
use Rattle.grey_planes.proofs.Layer.{layer_clears, layers_same, record_same, record_but}
use Rattle.grey_planes.proofs.Lines.{lines_same}

module _ (s : List ℕ) (pl : PlaneList) (d : List ℕ) (k l : ℕ) (ok : Accepted s) (fine : AllFine (scene_of s pl d k) pl) (least : 1 ≤ l)
    (most : l ≤ (scene_of s pl d k).extent.layers) (unread : plane_start pl.entries l ≡ None) where
  abbrev v : Scene
  v = scene_of s pl d k

  abbrev w : Scene
  w = scene_of (colour_sheet s k l) pl d k

  image_kept_lem : (j : ℕ) → j % 2 ≡ 1 → (i : ℕ) → (j ≡ l) ⊎ (j ≢ l)
      → image_read d (depth (record_of w j)) (plane_start pl.entries j) i ≡ image_read d (depth (record_of v j)) (plane_start pl.entries j) i
  unfolding image_read
  image_kept_lem j odd i (inl e) =
      let u : plane_start pl.entries j ≡ None = ap (plane_start pl.entries) e ∙ unread in
      ap (λ (x : Option ℕ). image_read d (depth (record_of w j)) x i) u ∙ sym (ap (λ (x : Option ℕ). image_read d (depth (record_of v j)) x i) u)
  image_kept_lem j odd i (inr n) = ap (λ (r : Record). image_read d (depth r) (plane_start pl.entries j) i) (record_same s k ok l least most j (omega arith) n)

  unread_alike : Alike v w
  unread_alike =
      record {
        layers = layers_same s k ok l least most;
        records = record_but s k ok l least most;
        masks = λ j h e i n. refl;
        images = λ j e i n. image_kept_lem j e i (says_else (says_eq j l));
      }

  -- a layer that is listed is another one
  listed_other : (i : ℕ) → i < length pl.entries → (plane pl.entries i).layer ≢ l
  listed_other i h e =
      let p = start_some pl.entries (plane pl.entries i) (get_d_among no_plane pl.entries i h) in
      let z = sym p.1 ∙ ap (plane_start pl.entries) e ∙ unread in
      clash cc

  unread_entry : (i : ℕ) → i < length pl.entries → FineEntry w pl.entries i
  unread_entry i h =
      let g = fine.entries i h in
      let p : Plane = plane pl.entries i in
      let some = g.rises in
      let e : record_of w p.layer ≡ record_of v p.layer = record_same s k ok l least most p.layer (omega arith) (listed_other i h) in
      record {
        rises = g.rises;
        present = subst (λ (m : ℕ). p.layer ≤ m) (sym (layers_same s k ok l least most)) g.present;
        coded = subst (λ (r : Record). r.len ≢ 0) (sym e) g.coded;
        within = subst (λ (r : Record). p.start + plane_span r ≤ length d) (sym e) g.within;
      }

  unread_fine : AllFine w pl
  unread_fine = record { entries = unread_entry; whole = fine.whole }

pub unread_plane : (s : List ℕ) (pl : PlaneList) (d : List ℕ) (k l : ℕ) → Accepted s → AllFine (scene_of s pl d k) pl → 1 ≤ l → l ≤ (scene_of s pl d k).extent.layers
    → plane_start pl.entries l ≡ None → (y : ℕ) (u : Colour) (out : List ℕ)
    → (line_of (colour_sheet s k l) pl d k y (length out) ≡ line_of s pl d k y (length out)) × (line_into (colour_sheet s k l) pl d k y u out ≡ line_into s pl d k y u out)
unread_plane s pl d k l ok fine least most unread y u out =
    lines_same s (colour_sheet s k l) pl pl d d k ok (layer_clears s k ok l least most) fine (unread_fine s pl d k l ok fine least most unread)
    (unread_alike s pl d k l ok fine least most unread) y u out
