-- Line put below line: each pixel of the band, and so all its octets.
-- Assumes nothing.
use Prim.Native.Nat.{ℕ, ◌+◌, ◌*◌, ◌/◌, ◌%◌, ◌≤◌, ◌<◌}
use native.Mathlib.Nat.{add-mul, zero-mul, mul_comm, mod-lt, div-add-mod', div-lt_iff_lt-mul}
use native.Mathlib.Omega.{arith}
use mathlib.Core.Path.{◌≡◌, refl, sym, ap, subst, ◌∙◌}
use mathlib.Core.Logic.{⊎_elim}
use mathlib.Core.List.{List}
use lib.ListN.{length, get_or, drop}
use lib.Seq.{ext_get_or, get_or-drop, get_or-take}
use borrow.Author.Rules.{rules}
use Rattle.laws.proofs.Says.{says_lt, says_else}
use Rattle.octets.specs.Octets.{put_at}
use Rattle.octets.proofs.Laws.{put_length, put_get_d, put_get_d_after}
use Rattle.sheet_rules.specs.declared.Colour.{Colour}
use Rattle.sheet_rules.specs.declared.Extent.{Extent}
use Rattle.pixel_rules.specs.declared.MainPos.{MainPos}
use Rattle.pixel_rules.specs.Samples.{Scene, width_of}
use Rattle.pixel_rules.specs.Decide.{pixel_at}
use Rattle.picture_rules.specs.Line.{four_of, line_pixels}
use Rattle.band_rules.specs.Band.{band_lines, band_size}
use Rattle.band_rules.proofs.Octets.{length_lines, lines_line}
use Rattle.line_fetch.specs.Rows.{rows_size}
use Rattle.line_planes.specs.declared.Listing.{Listing}
use Rattle.line_planes.specs.Listing.{entries_of}
use Rattle.line_rows.specs.Rows.{Standing}
use Rattle.line_lanes.specs.Lanes.{lane_size, lanes_size, lane_at, lanes_of, LanesFit}
use Rattle.line_lanes.proofs.Rows.{lane_among}
use Rattle.paint_words.specs.Words.{four_from}
use Rattle.paint_coat.specs.Coat.{Coated, over}
use Rattle.paint_coat.proofs.Coats.{coated_none, coated_chain}
use Rattle.line_compose.specs.Composing.{scene_from}
use Rattle.line_compose.proofs.Laws.{shown_standing}
use Rattle.paint_line.proofs.Octets.{octet_at, four_pixels}
use Rattle.band_lines.specs.Lines.{band_four, Laned, LinesFit, SomeLinesFit, SomePut}
use Rattle.band_lines.proofs.Laws.{some, band_four_lem}

-- ---- the octets of a band, pixel by pixel

module _ (u : Colour) (s : List ℕ) (extent : Extent) (t : Listing) (d ns : List ℕ) (width room : ℕ) (g : LinesFit (scene_from s extent t d) width room) (w : Laned (scene_from s extent t d) ns) where
  abbrev scene : Scene
  scene = scene_from s extent t d

  -- column x of line y among n lines
  four_lines : (n y x : ℕ) → y < n → x < width → four_from (band_lines u scene n) ((y * width + x) * 4) ≡ four_of u (pixel_at scene (record { 0 = x }) (record { 0 = y }))
  unfolding four_from line_pixels
  four_lines n y x h b =
      let e = g.wide in
      let k : y * (width_of scene * 4) ≡ y * width * 4 = ap (λ (i : ℕ). y * (i * 4)) (sym e) ∙ turned y width in
      let l = lines_line u scene n y h in
      let o : (i : ℕ) → i < 4 → get_or (band_lines u scene n) ((y * width + x) * 4 + i) 0 ≡ get_or (line_pixels u scene y) (x * 4 + i) 0 =
      λ i q.
      let a : (y * width + x) * 4 + i ≡ y * (width_of scene * 4) + (x * 4 + i) = omega (arith, k) in
      ap (λ (j : ℕ). get_or (band_lines u scene n) j 0) a ∙ sym (get_or-drop (y * (width_of scene * 4)) (band_lines u scene n) (x * 4 + i) 0)
      ∙ sym (get_or-take (width_of scene * 4) (drop (y * (width_of scene * 4)) (band_lines u scene n)) (x * 4 + i) 0 (omega arith)) ∙ ap (λ (v : List ℕ). get_or v (x * 4 + i) 0) l in
      let z : (y * width + x) * 4 + 0 ≡ (y * width + x) * 4 = omega arith in
      let v : x * 4 + 0 ≡ x * 4 = omega arith in
      let p₀ = ap (λ (j : ℕ). get_or (band_lines u scene n) j 0) (sym z) ∙ o 0 (omega arith) ∙ ap (λ (j : ℕ). get_or (line_pixels u scene y) j 0) v in
      let p₁ = o 1 (omega arith) in
      let p₂ = o 2 (omega arith) in
      let p₃ = o 3 (omega arith) in
      let q : four_from (line_pixels u scene y) (x * 4) ≡ four_of u (pixel_at scene (record { 0 = x }) (record { 0 = y })) = four_pixels u (λ (m : MainPos). pixel_at scene m (record { 0 = y })) (width_of scene) x (omega arith) in
      cc
    where
      turned : (a b : ℕ) → a * (b * 4) ≡ a * b * 4
      turned a b = omega arith

  -- a band that has each pixel has each line
  pub band_all : (out₀ out : List ℕ) → room ≡ length out₀ → Coated (over (band_four u scene width)) out₀ 0 (extent.height * width) out → out ≡ put_at out₀ 0 (band_lines u scene extent.height)
  unfolding over band_size
  band_all out₀ out er c =
      let f = g.fits in
      let e = g.wide in
      let l = length_lines u scene extent.height in
      let k : extent.height * (width_of scene * 4) ≡ extent.height * width * 4 = ap (λ (i : ℕ). extent.height * (i * 4)) (sym e) ∙ turned extent.height width in
      let r : width_of scene * extent.height ≡ extent.height * width = ap (λ (i : ℕ). i * extent.height) (sym e) ∙ mul_comm width extent.height in
      ext_get_or 0 out (put_at out₀ 0 (band_lines u scene extent.height)) (c.long ∙ sym (put_length out₀ 0 (band_lines u scene extent.height) (omega arith)))
      (λ i b. ⊎_elim
      (λ (y : i < extent.height * width * 4).
      let q : i / 4 * 4 + i % 4 ≡ i = omega arith in
      let m : i % 4 < 4 = omega arith in
      let n : i / 4 < extent.height * width = omega arith in
      let z : 0 + i ≡ i = omega arith in
      ap (λ (j : ℕ). get_or out j 0) (sym q) ∙ octet_at out (i / 4) (i % 4) m
      ∙ ap (λ (v : List ℕ). get_or v (i % 4) 0) (c.there (i / 4) (omega arith) n ∙ pixel (i / 4) n)
      ∙ sym (octet_at (band_lines u scene extent.height) (i / 4) (i % 4) m) ∙ ap (λ (j : ℕ). get_or (band_lines u scene extent.height) j 0) q
      ∙ sym (put_get_d out₀ 0 (band_lines u scene extent.height) i (omega arith) (omega arith)) ∙ ap (λ (j : ℕ). get_or (put_at out₀ 0 (band_lines u scene extent.height)) j 0) z)
      (λ (y : i < extent.height * width * 4 → ⊥). c.behind i (omega arith) ∙ sym (put_get_d_after out₀ 0 (band_lines u scene extent.height) i (omega arith) (omega arith)))
      (says_else (says_lt i (extent.height * width * 4))))
    where
      turned : (a b : ℕ) → a * (b * 4) ≡ a * b * 4
      turned a b = omega arith

      pixel : (p : ℕ) → p < extent.height * width → band_four u scene width p ≡ four_from (band_lines u scene extent.height) (p * 4)
      pixel p h =
          let a = some s extent t d ns width room g w in
          let x = mod-lt p a in
          let y : p / width < extent.height = (div-lt_iff_lt-mul {k = width} {x = p} {y = extent.height} a).1 h in
          let z : p / width * width + p % width ≡ p = div-add-mod' p width in
          ap (band_four u scene width) (sym z) ∙ band_four_lem s extent t d ns width room g w u (p / width) (p % width) x ∙ sym (four_lines extent.height (p / width) (p % width) y x)
          ∙ ap (λ (i : ℕ). four_from (band_lines u scene extent.height) (i * 4)) z

-- ---- all lines of a stripe, put from the top down: the same of every plane list that has these lanes, since the loop has the lanes, and the list no longer

pub record Stacking (u : Colour) (s : List ℕ) (extent : Extent) (d : List ℕ) (width : ℕ) (ns out₀ out : List ℕ) (y : ℕ) : Type 0 where
  pub within : y ≤ extent.height
  pub long : length out ≡ length out₀
  pub of : (t : Listing) → LinesFit (scene_from s extent t d) width (length out₀) → Laned (scene_from s extent t d) ns → Coated (over (band_four u (scene_from s extent t d) width)) out₀ 0 (y * width) out

-- the lanes of a stripe that is to be shown, in as many numbers as any stripe's
module _ (s : List ℕ) (extent : Extent) (t : Listing) (d : List ℕ) (width room : ℕ) (g : LinesFit (scene_from s extent t d) width room) where
  pub lanes_standing : Standing s extent
  lanes_standing = shown_standing s extent t d 0 g.shown

  pub lanes_room : (numbers : ℕ) → lanes_size ≤ numbers → extent.layers * lane_size ≤ numbers
  lanes_room numbers h = let f = lanes_standing.fifteen in omega arith

  lanes_put : (base ns : List ℕ) → (ns ≡ put_at base 0 (lanes_of s extent (entries_of t) extent.layers)) × LanesFit ns extent.layers → Laned (scene_from s extent t d) ns
  lanes_put base ns e = record { fit = e.1; each = λ l a b. ap (λ (w : List ℕ). lane_at w l) e.0 ∙ lane_among s extent (entries_of t) base extent.layers l a b }

module _ (u : Colour) (s : List ℕ) (extent : Extent) (d : List ℕ) (width : ℕ) (ns out₀ : List ℕ) where
  pub stacking_none : Stacking u s extent d width ns out₀ out₀ 0
  stacking_none = record { within = omega arith; long = refl; of = λ t f w. coated_none (over (band_four u (scene_from s extent t d) width)) out₀ 0 (0 * width) (let z = zero-mul width in omega arith) }

  module _ (out : List ℕ) (y : ℕ) (g : Stacking u s extent d width ns out₀ out y) where
    pub stacking_more : (new : List ℕ) (r : ℕ) → SomePut u s extent d ns y width out r new → Stacking u s extent d width ns out₀ new (y + r)
    stacking_more new r k =
        record {
          within = k.most;
          long = k.long ∙ g.long;
          of = λ t f w.
              coated_chain (over (band_four u (scene_from s extent t d) width)) out₀ out new 0 (y * width) ((y + r) * width) (omega arith)
              (let a = add-mul y r width in omega arith) (g.of t f w) (k.put t (subst (λ (n : ℕ). LinesFit (scene_from s extent t d) width n) (sym g.long) f) w);
        }

    -- this list has them
    module _ (t : Listing) (f : LinesFit (scene_from s extent t d) width (length out₀)) (base : List ℕ)
        (e : (ns ≡ put_at base 0 (lanes_of s extent (entries_of t) extent.layers)) × LanesFit ns extent.layers) where
      laned : Laned (scene_from s extent t d) ns
      laned = lanes_put s extent t d width (length out₀) f base ns e

      pub stacking_line : (numbers : ℕ) → rows_size ≤ numbers → y < extent.height → SomeLinesFit s extent d ns y width (length out) numbers
      stacking_line numbers k h =
          let c = (lanes_standing s extent t d width (length out₀) f).fifteen in
          record { list = t; lines = subst (λ (n : ℕ). LinesFit (scene_from s extent t d) width n) (sym g.long) f; lanes = laned; below = h; rows = omega arith }

      pub stacking_all : extent.height ≤ y → out ≡ put_at out₀ 0 (band_lines u (scene_from s extent t d) extent.height)
      stacking_all h =
          let b = g.within in
          let z : y ≡ extent.height = omega arith in
          band_all u s extent t d ns width (length out₀) f laned out₀ out refl
          (subst (λ (n : ℕ). Coated (over (band_four u (scene_from s extent t d) width)) out₀ 0 (n * width) out) z (g.of t f laned))

    pub stacking_long : length out ≡ length out₀
    stacking_long = g.long

pub ruleset stacking = (rules, stacking_none, lanes_standing, lanes_room)
