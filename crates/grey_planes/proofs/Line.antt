-- The theorem: a grey plane gives the line that the same plane in colour gives on the sheet with octet 17 cleared, octet for octet and answer for answer.
-- Assumes nothing.
use Prim.Native.Nat.{ℕ, ◌+◌, ◌*◌, ◌%◌, ◌≤◌, ◌<◌}
use native.Mathlib.Omega.{arith}
use mathlib.Core.Path.{◌≡◌, refl, sym, ap, ap₂, subst, subst₂, ◌∙◌}
use mathlib.Core.Logic.{◌⊎◌, inl, inr, ◌≢◌, ⊎_elim}
use mathlib.Core.Bool.{Bool, true, cond}
use mathlib.Core.List.{List}
use lib.ListN.{length, get_or, take, drop, length-append, length-map, length-drop, get_or-append}
use lib.Seq.{get_or-append-add, get_or-take, get_or-drop, length-take-le}
use borrow.Author.Tests.{eqb-true, eq-eqb, ne_eqb}
use Rattle.laws.proofs.Says.{says_eq, says_else}
use Rattle.sheet_rules.specs.declared.Colour.{Colour}
use Rattle.sheet_rules.specs.declared.Record.{Record}
use Rattle.sheet_rules.specs.Record.{colour_at, is_grey, marked}
use Rattle.sheet_rules.specs.Sentences.{Coded, Grey, Accepted}
use Rattle.pixel_rules.specs.declared.Plane.{Plane}
use Rattle.std.specs.Prelude.{Option, Some, None}
use Rattle.pixel_rules.specs.Planes.{PlaneList, plane_start}
use Rattle.pixel_rules.specs.Samples.{Scene, record_of, plane_span, depth, bit_of, grey_of, colour_in, mask_read, image_read}
use Rattle.pixel_rules.proofs.Division.{depth_grey, depth_colour, depth_some, span_mask, span_grey, span_colour, span_within, colour_own}
use Rattle.picture_rules.specs.Line.{line_of, line_into}
use Rattle.picture_rules.specs.Sentences.{scene_of, plane, FineEntry, AllFine}
use Rattle.picture_rules.proofs.Within.{Read, start_read_lem}
use Rattle.grey_planes.specs.Spread.{spread, starting_at, colour_sheet, colour_list, colour_samples, Has, Alike}
use Rattle.grey_planes.proofs.Sheets.{clears_accepted}
use Rattle.grey_planes.proofs.Layer.{layer_is, layer_among, layer_clears, layers_same, record_own, record_same, record_but}
use Rattle.grey_planes.proofs.Lines.{lines_same}
use Rattle.grey_planes.proofs.Planes.{length_spread, spread_octets, plane_restarted, before_restarted, start_there, start_kept}

module _ (s : List ℕ) (pl : PlaneList) (d : List ℕ) (k l a : ℕ) (ok : Accepted s) (fine : AllFine (scene_of s pl d k) pl)
    (grey : is_grey (record_of (scene_of s pl d k) l) ≡ true) (listed : plane_start pl.entries l ≡ Some a) where
  abbrev v : Scene
  v = scene_of s pl d k

  abbrev r : Record
  r = record_of v l

  abbrev plane1 : List ℕ
  plane1 = take (plane_span r) (drop a d)

  abbrev s' : List ℕ
  s' = colour_sheet s k l

  abbrev pl' : PlaneList
  pl' = colour_list pl d l

  abbrev d' : List ℕ
  d' = colour_samples d r a

  abbrev w : Scene
  w = scene_of s' pl' d' k

  -- ---- the grey layer and the others that are listed

  reads : (j b : ℕ) → plane_start pl.entries j ≡ Some b → Read v j b
  reads j b e = start_read_lem v pl fine j b e

  layer_at : (j b : ℕ) → plane_start pl.entries j ≡ Some b → (record_of v j).layer ≡ j
  layer_at j b e = let g = reads j b e in layer_is s k ok j g.least g.most

  least : 1 ≤ l
  least = (reads l a listed).least

  most : l ≤ v.extent.layers
  most = (reads l a listed).most

  -- octet 17 is 1 in image layers alone
  odd : l % 2 ≡ 1
  odd =
      let o = eqb-true r.octet17 1 grey in
      ⊎_elim (λ (z : r.octet17 ≡ 0). absurd (omega arith)) (λ (g : Grey r). ap (λ (n : ℕ). n % 2) (sym (layer_at l a listed)) ∙ g.2)
      (ok.0.unbroken.grey r (layer_among s k ok l least most))

  -- ---- the samples

  front : (q : ℕ) → q < length d → get_or d' q 0 ≡ get_or d q 0
  front q h = get_or-append d (spread plane1) 0 q h

  span : plane_span r ≡ r.width * r.height
  span = span_grey r grey

  plane_long : length plane1 ≡ plane_span r
  plane_long =
      let g = (reads l a listed).room in
      let n = length-drop a d in
      length-take-le (plane_span r) (drop a d) (omega arith)

  behind : (i n : ℕ) → get_or d' (length d + i * 3 + n) 0 ≡ get_or (spread plane1) (i * 3 + n) 0
  behind i n =
      let e : length d + i * 3 + n ≡ length d + (i * 3 + n) = omega arith in
      ap (λ (q : ℕ). get_or d' q 0) e ∙ get_or-append-add d (spread plane1) (i * 3 + n) 0

  colour_there : (i : ℕ) → Has v l i → colour_at d' (length d + i * 3) ≡ grey_of (get_or d (a + i) 0)
  colour_there i h =
      let n = plane_long in
      let e = span in
      let o = spread_octets plane1 i (omega arith) in
      let z : length d + i * 3 ≡ length d + i * 3 + 0 = omega arith in
      let q : i * 3 + 0 ≡ i * 3 = omega arith in
      let c0 : get_or d' (length d + i * 3) 0 ≡ get_or d (a + i) 0 =
      ap (λ (m : ℕ). get_or d' m 0) z ∙ behind i 0 ∙ ap (λ (m : ℕ). get_or (spread plane1) m 0) q ∙ o.0 ∙ get_or-take (plane_span r) (drop a d) i 0 (omega arith) ∙ get_or-drop a d i 0 in
      let c1 = behind i 1 ∙ o.1 in
      let c2 = behind i 2 ∙ o.2 in
      λ t. record { c0 = c0 t; c1 = c1 t; c2 = c2 t }

  -- the grey layer, in colour
  colour_depth : depth (record_of w l) ≡ 3
  colour_depth = ap depth (record_own s k ok l least most) ∙ depth_colour (marked 0 r) (ap (λ (m : ℕ). m % 2) (layer_at l a listed) ∙ odd) refl

  image_own : (i : ℕ) → Has v l i
      → image_read d' (depth (record_of w l)) (plane_start pl'.entries l) i ≡ image_read d (depth r) (plane_start pl.entries l) i
  unfolding image_read colour_in
  image_own i h =
      let b = start_there l (length d) pl.entries a listed in
      let z : a + i ≡ a + i * 1 = omega arith in
      ap₂ (λ (n : ℕ) (x : Option ℕ). image_read d' n x i) colour_depth b
      ∙ ap Some (colour_there i h ∙ ap (λ (m : ℕ). grey_of (get_or d m 0)) z)
      ∙ sym (ap₂ (λ (n : ℕ) (x : Option ℕ). image_read d n x i) (depth_grey r grey) listed)

  -- every other layer, where it was
  image_front : (j i : ℕ) → Has v j i → (x : Option ℕ) → plane_start pl.entries j ≡ x → image_read d' (depth (record_of v j)) x i ≡ image_read d (depth (record_of v j)) x i
  unfolding image_read
  image_front j i h None z = refl
  image_front j i h (Some b) z =
      let q = (reads j b z).room in
      let n = span_within (record_of v j) i h in
      let p : ℕ = b + i * depth (record_of v j) in
      ap Some (colour_own (depth (record_of v j)) d d' p p (depth_some (record_of v j)) (λ m t. front (p + m) (omega arith)))

  mask_front : (j i : ℕ) → j % 2 ≡ 0 → Has v j i → (x : Option ℕ) → plane_start pl.entries j ≡ x → mask_read d' x i ≡ mask_read d x i
  unfolding mask_read
  mask_front j i o h None z = refl
  mask_front j i o h (Some b) z =
      let q = (reads j b z).room in
      let n = span_mask (record_of v j) (ap (λ (m : ℕ). m % 2) (layer_at j b z) ∙ o) in
      ap bit_of (front (b + i) (omega arith))

  pub grey_alike : Alike v w
  grey_alike =
      record {
        layers = layers_same s k ok l least most;
        records = record_but s k ok l least most;
        masks = λ j h e i n.
            let o = odd in
            ap (λ (x : Option ℕ). mask_read d' x i) (start_kept l (length d) pl.entries j (λ z. even_odd j z e o)) ∙ mask_front j i e n (plane_start pl.entries j) refl;
        images = λ j e i n. image j e i n (says_else (says_eq j l));
      }
    where
      even_odd : (j : ℕ) → j ≡ l → j % 2 ≡ 0 → l % 2 ≡ 1 → ⊥
      even_odd j z e o = omega arith

      image : (j : ℕ) → j % 2 ≡ 1 → (i : ℕ) → Has v j i → (j ≡ l) ⊎ (j ≢ l)
          → image_read d' (depth (record_of w j)) (plane_start pl'.entries j) i ≡ image_read d (depth (record_of v j)) (plane_start pl.entries j) i
      image j e i n (inl z) =
          subst
          (λ (m : ℕ). Has v m i → image_read d' (depth (record_of w m)) (plane_start pl'.entries m) i ≡ image_read d (depth (record_of v m)) (plane_start pl.entries m) i)
          (sym z) (image_own i) n
      image j e i n (inr z) =
          ap₂ (λ (m : ℕ) (x : Option ℕ). image_read d' m x i) (ap depth (record_same s k ok l least most j (omega arith) z)) (start_kept l (length d) pl.entries j z)
          ∙ image_front j i n (plane_start pl.entries j) refl

  -- ---- the list is fine as it was

  spread_long : length d' ≡ length d + plane_span r * 3
  spread_long = let n = plane_long in let e = length_spread plane1 in let z = length-append d (spread plane1) in omega arith

  entry_within : (p : Plane) → 1 ≤ p.layer → p.start + plane_span (record_of v p.layer) ≤ length d
      → (starting_at l (length d) p).start + plane_span (record_of w p.layer) ≤ length d'
  entry_within p h f = by (says_else (says_eq p.layer l))
    where
      by : (p.layer ≡ l) ⊎ (p.layer ≢ l) → (starting_at l (length d) p).start + plane_span (record_of w p.layer) ≤ length d'
      by (inl z) =
          let e : (starting_at l (length d) p).start ≡ length d = ap (λ (b : Bool). cond b (length d) p.start) (eq-eqb p.layer l z) in
          let c = ap (λ (j : ℕ). plane_span (record_of w j)) z ∙ ap plane_span (record_own s k ok l least most) ∙ span_colour (marked 0 r) (ap (λ (m : ℕ). m % 2) (layer_at l a listed) ∙ odd) refl in
          let n = spread_long in
          let q = span in
          omega arith
      by (inr z) =
          let e : (starting_at l (length d) p).start ≡ p.start = ap (λ (b : Bool). cond b (length d) p.start) (ne_eqb p.layer l z) in
          let c = ap plane_span (record_same s k ok l least most p.layer h z) in
          let n = spread_long in
          omega arith

  colour_entry : (i : ℕ) → i < length pl.entries → FineEntry w pl'.entries i
  colour_entry i h =
      let g = fine.entries i h in
      let p : Plane = plane pl.entries i in
      let e = sym (plane_restarted l (length d) pl.entries i h) in
      let some = g.rises in
      record {
        rises = subst₂ (λ (m : ℕ) (q : Plane). m < q.layer) (sym (before_restarted l (length d) pl.entries i h)) e g.rises;
        present = subst₂ (λ (q : Plane) (m : ℕ). q.layer ≤ m) e (sym grey_alike.layers) g.present;
        coded = subst (λ (q : Plane). Coded (record_of w q.layer)) e (subst (λ (n : ℕ). n ≢ 0) (sym (ap (λ (x : Record). x.len) (record_but s k ok l least most p.layer))) g.coded);
        within = subst (λ (q : Plane). q.start + plane_span (record_of w q.layer) ≤ length d') e (entry_within p (omega arith) g.within);
      }

  colour_fine : AllFine w pl'
  colour_fine =
      record { entries = λ i h. colour_entry i (subst (λ (n : ℕ). i < n) (length-map pl.entries (starting_at l (length d))) h); whole = fine.whole }

-- ---- for every line of the stripe, every unseen colour and every buffer: a layer that is grey, listed at a, and the same in colour

pub grey_plane : (s : List ℕ) (pl : PlaneList) (d : List ℕ) (k l a : ℕ) → Accepted s → AllFine (scene_of s pl d k) pl → is_grey (record_of (scene_of s pl d k) l) ≡ true
    → plane_start pl.entries l ≡ Some a → (y : ℕ) (u : Colour) (out : List ℕ)
    → (line_of (colour_sheet s k l) (colour_list pl d l) (colour_samples d (record_of (scene_of s pl d k) l) a) k y (length out) ≡ line_of s pl d k y (length out))
    × (line_into (colour_sheet s k l) (colour_list pl d l) (colour_samples d (record_of (scene_of s pl d k) l) a) k y u out ≡ line_into s pl d k y u out)
grey_plane s pl d k l a ok fine grey listed y u out =
    lines_same s (s' s pl d k l a ok fine grey listed) pl (pl' s pl d k l a ok fine grey listed) d (d' s pl d k l a ok fine grey listed) k ok
    (layer_clears s k ok l (least s pl d k l a ok fine grey listed) (most s pl d k l a ok fine grey listed)) fine
    (colour_fine s pl d k l a ok fine grey listed) (grey_alike s pl d k l a ok fine grey listed) y u out

-- and what comes of it is again a sheet beside which the list is fine, so that the next grey layer can follow
pub grey_next : (s : List ℕ) (pl : PlaneList) (d : List ℕ) (k l a : ℕ) → Accepted s → AllFine (scene_of s pl d k) pl → is_grey (record_of (scene_of s pl d k) l) ≡ true
    → plane_start pl.entries l ≡ Some a
    → Accepted (colour_sheet s k l) × AllFine (scene_of (colour_sheet s k l) (colour_list pl d l) (colour_samples d (record_of (scene_of s pl d k) l) a) k) (colour_list pl d l)
grey_next s pl d k l a ok fine grey listed = (
  (clears_accepted s (colour_sheet s k l) (layer_clears s k ok l (least s pl d k l a ok fine grey listed) (most s pl d k l a ok fine grey listed)) ok).0,
  colour_fine s pl d k l a ok fine grey listed,
)
