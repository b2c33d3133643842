-- One law for each way out of the functions that paint a row: its premises are what is known there.
-- Assumes nothing.
use Prim.Native.Nat.{ℕ, zero, suc, ◌+◌, ◌-◌, ◌*◌, ◌/◌, ◌%◌, ◌≤◌, ◌<◌}
use native.Mathlib.Omega.{arith}
use mathlib.Core.Path.{◌≡◌, refl, sym, ap, subst, ◌∙◌}
use mathlib.Core.Logic.{◌≢◌, ◌⊎◌, inl, inr, ⊎_elim}
use mathlib.Core.Bool.{Bool, true, false, ◌&&◌, cond, false≢true}
use mathlib.Core.List.{List, [], ◌∷◌}
use lib.ListN.{length, get_or}
use lib.Seq.{ext_get_or}
use lib.Dec.{eqb, ltb}
use borrow.Author.Tests.{ne_eqb}
use borrow.Author.Rules.{rules}
use Rattle.laws.proofs.Cases.{clash}
use Rattle.laws.proofs.Says.{says_eq, says_lt, says_and, says_else}
use Rattle.octets.specs.Octets.{put_at}
use Rattle.octets.proofs.Laws.{put_length, put_get_d, put_get_d_after}
use Rattle.sheet_rules.specs.declared.Colour.{Colour}
use Rattle.pixel_rules.specs.declared.MainPos.{MainPos}
use Rattle.std.specs.Prelude.{Option, None}
use Rattle.pixel_rules.specs.declared.Mask.TheVariants.{Zero, One, Hidden}
use Rattle.pixel_rules.specs.Place.{scale}
use Rattle.pixel_rules.specs.Samples.{bit_of}
use Rattle.pixel_rules.specs.Decide.{decide}
use Rattle.picture_rules.specs.Line.{four_of, pixels}
use Rattle.picture_rules.proofs.Fours.{length_pixels}
use Rattle.line_fetch.specs.declared.Row.{Row}
use Rattle.line_fetch.specs.Rows.{row_at, row_mask}
use Rattle.line_fetch.proofs.Laws.{mask_before, mask_after, mask_read_lem}
use Rattle.line_pixel.specs.Rows.{row_stack}
use Rattle.paint_rules.specs.Floor.{dark, Settled, chosen, stage}
use Rattle.paint_rules.proofs.Floors.{chosen_stage, stage_same, stage_end}
use Rattle.paint_words.specs.Words.{octets_of}
use Rattle.paint_coat.specs.Coat.{Coated, over}
use Rattle.paint_coat.proofs.Coats.{coated_none, coated_chain, coated_as}
use Rattle.paint_image.specs.Image.{shown_four, moved}
use Rattle.paint_floor.specs.Floors.{Sure, Starts}
use Rattle.paint_show.specs.Show.{floor_from, shows, Paired, Least}
use Rattle.paint_layers.specs.Layers.{decided}
use Rattle.paint_layers.proofs.Fours.{shown_is}
use Rattle.paint_line.proofs.Octets.{octet_at, four_pixels}
use Rattle.paint_line.specs.Painted.{MasksTold}

-- ---- masks that are told

zero_hidden : (n : ℕ) → bit_of n ≢ Hidden
unfolding bit_of
zero_hidden n e = by (eqb n 0) e
  where
    by : (b : Bool) → cond b Zero One ≡ Hidden → ⊥
    by true z = clash cc
    by false z = clash cc

-- a mask that was read, or has no samples, is known everywhere
mask_known : (d : List ℕ) (m : Row) (x : ℕ) → (m.read ≢ 0) ⊎ (m.to.0 ≤ m.from.0) → row_mask d m (record { 0 = x }) ≢ Hidden
mask_known d m x k e =
    ⊎_elim
    (λ (z : x < m.from.0). zero_hidden m.other (mask_before d m (record { 0 = x }) (bit_of m.other) z refl ∙ e))
    (λ (z : x < m.from.0 → ⊥).
    ⊎_elim
    (λ (w : x < m.to.0).
    ⊎_elim
    (λ (n : m.read ≢ 0).
    zero_hidden (get_or d (m.at + (scale m.ratio m.from (record { 0 = x })).0) 0)
    (mask_read_lem d m (record { 0 = x }) (bit_of (get_or d (m.at + (scale m.ratio m.from (record { 0 = x })).0) 0)) (scale m.ratio m.from (record { 0 = x })) (omega arith) w n refl refl ∙ e))
    (λ (n : m.to.0 ≤ m.from.0). absurd (omega arith)) k)
    (λ (w : x < m.to.0 → ⊥). zero_hidden m.other (mask_after d m (record { 0 = x }) (bit_of m.other) (omega arith) refl ∙ e))
    (says_else (says_lt x m.to.0)))
    (says_else (says_lt x m.from.0))

-- the pairs above f and below j are told
pub record Telling (ns : List ℕ) (f pairs j : ℕ) : Type 0 where
  pub from : f < j
  pub told : (i : ℕ) → f < i → i < j → ((row_at ns (i * 2)).read ≢ 0) ⊎ ((row_at ns (i * 2)).to.0 ≤ (row_at ns (i * 2)).from.0)

pub telling_begun : (ns : List ℕ) (f pairs : ℕ) → Telling ns f pairs (f + 1)
telling_begun ns f pairs = record { from = omega arith; told = λ i p q. absurd (omega arith) }

mask_told : (read from to : ℕ) → (eqb read 0 && ltb from to) ≡ false → (read ≢ 0) ⊎ (to ≤ from)
mask_told read from to e =
    ⊎_elim
    (λ (z : read ≡ 0).
    ⊎_elim
    (λ (w : from < to). absurd (false≢true (sym e ∙ (says_and (says_eq read 0) (says_lt from to)).shown (z, w))))
    (λ (w : from < to → ⊥). inr (omega arith))
    (says_else (says_lt from to)))
    (λ (z : read ≡ 0 → ⊥). inl z)
    (says_else (says_eq read 0))

pub telling_more : (ns : List ℕ) (f pairs j : ℕ) (m : Row) → Telling ns f pairs j → m ≡ row_at ns (j * 2) → (eqb m.read 0 && ltb m.from.0 m.to.0) ≡ false → Telling ns f pairs (j + 1)
telling_more ns f pairs j m c em e =
    let p = c.from in
    record {
      from = omega arith;
      told = λ i a b. ⊎_elim
          (λ (z : i < j). c.told i a z)
          (λ (z : i < j → ⊥).
          let y : j ≡ i = omega arith in
          subst (λ (k : ℕ). ((row_at ns (k * 2)).read ≢ 0) ⊎ ((row_at ns (k * 2)).to.0 ≤ (row_at ns (k * 2)).from.0)) y
          (subst (λ (w : Row). (w.read ≢ 0) ⊎ (w.to.0 ≤ w.from.0)) em (mask_told m.read m.from.0 m.to.0 e)))
          (says_else (says_lt i j));
    }

pub telling_end : (ns : List ℕ) (f pairs j : ℕ) → Telling ns f pairs j → pairs < j → false ≡ false → MasksTold ns f pairs
telling_end ns f pairs j c h e = record { told = λ i a b. c.told i a (omega arith) }

-- with the highest pair's mask
pub telling_last : (ns : List ℕ) (f pairs j : ℕ) (m : Row) → Telling ns f pairs j → pairs ≤ j → m ≡ row_at ns (j * 2) → (eqb m.read 0 && ltb m.from.0 m.to.0) ≡ false → false ≡ false
    → MasksTold ns f pairs
telling_last ns f pairs j m c h em e k = telling_end ns f pairs (j + 1) (telling_more ns f pairs j m c em e) (omega arith) k

pub telling_not : (ns : List ℕ) (f pairs : ℕ) → true ≡ false → MasksTold ns f pairs
telling_not ns f pairs e = absurd (false≢true (sym e))

pub ruleset telling = (rules, telling_begun, telling_more, telling_end, telling_last, telling_not)

-- ---- a part

module _ (u : Colour) (s d ns : List ℕ) (pairs f a b : ℕ) (un : List ℕ) (eu : un ≡ four_of u None) (few : pairs ≤ 7) where
  -- the highest pair covers it all
  pub part_covered : (l e : List ℕ) → Starts s d ns pairs a b f → f ≡ pairs → Coated (over (moved a a (floor_from un s d ns f))) l a (a + (b - a)) e → a ≤ b → Coated (decided u s d ns pairs) l a b e
  unfolding over moved floor_from chosen decided
  part_covered l e g z c h =
      let y : a + (b - a) ≡ b = omega arith in
      let k = g.most in
      subst (λ (i : ℕ). Coated (decided u s d ns pairs) l a i e) y
      (coated_as (over (moved a a (floor_from un s d ns f))) (decided u s d ns pairs) l e a (a + (b - a))
      (λ x o p q.
      let w : a + (x - a) ≡ x = omega arith in
      ap (λ (i : ℕ). shown_four un (chosen (row_stack s d ns (record { 0 = i })) f)) w
      ∙ shown_is u un (chosen (row_stack s d ns (record { 0 = x })) f) eu
      ∙ ap (four_of u) (rw (ne_eqb f dark (λ (v : f ≡ dark). omega arith)) (sym (g.shows x p (omega arith)) ∙ ap (decide (row_stack s d ns (record { 0 = x }))) z))) c)

  pub floors_paired : (sel : List ℕ) → Sure s d ns f a (b - a) pairs sel → Paired sel 0 (b - a) pairs
  floors_paired sel g = record { few = λ i p q n. (g.held i q).most n }

  pub floors_least : (sel : List ℕ) → Sure s d ns f a (b - a) pairs sel → Least sel 0 (b - a) f
  floors_least sel g = record { least = λ i p q n. (g.held i q).least n }

  -- above the floor no mask is 1, and all are told, so that the floor is what shows
  floor_shows : (x c : ℕ) → Settled (row_stack s d ns (record { 0 = x })) f c pairs → MasksTold ns f pairs → (n : ℕ) → f + n ≤ pairs
      → stage (row_stack s d ns (record { 0 = x })) c f ≡ stage (row_stack s d ns (record { 0 = x })) c (f + n)
  floor_shows x c k m zero h = let z : f ≡ f + 0 = omega arith in ap (stage (row_stack s d ns (record { 0 = x })) c) z
  floor_shows x c k m (suc n) h =
      let z : suc (f + n) ≡ f + suc n = omega arith in
      floor_shows x c k m n (omega arith)
      ∙ stage_same (row_stack s d ns (record { 0 = x })) f c pairs k (f + n) (omega arith) (λ o. mask_known d (row_at ns (suc (f + n) * 2)) x (m.told (suc (f + n)) (omega arith) (omega arith)))
      ∙ ap (stage (row_stack s d ns (record { 0 = x })) c) z

  pub part_shown : (sel l e : List ℕ) → f ≤ pairs → Sure s d ns f a (b - a) pairs sel → MasksTold ns f pairs → Coated (shows un s d ns sel a) l a b e → Coated (decided u s d ns pairs) l a b e
  unfolding shows floor_from decided
  part_shown sel l e h g m c =
      coated_as (shows un s d ns sel a) (decided u s d ns pairs) l e a b
      (λ x o p q.
      let z : a + (x - a) ≡ x = omega arith in
      let y : f + (pairs - f) ≡ pairs = omega arith in
      let k = subst (λ (i : ℕ). Settled (row_stack s d ns (record { 0 = i })) f (get_or sel (x - a) 0) pairs) z (g.held (x - a) (omega arith)) in
      shown_is u un (chosen (row_stack s d ns (record { 0 = x })) (get_or sel (x - a) 0)) eu
      ∙ ap (four_of u)
      (chosen_stage (row_stack s d ns (record { 0 = x })) f (get_or sel (x - a) 0) pairs k ∙ floor_shows x (get_or sel (x - a) 0) k m (pairs - f) (omega arith)
      ∙ ap (stage (row_stack s d ns (record { 0 = x })) (get_or sel (x - a) 0)) y ∙ stage_end (row_stack s d ns (record { 0 = x })) f (get_or sel (x - a) 0) pairs k)) c

-- ---- the row

pub record Painting (u : Colour) (s d ns : List ℕ) (pairs width : ℕ) (l out : List ℕ) (x : ℕ) : Type 0 where
  pub upto : x ≤ width
  pub long : length out ≡ length l
  pub done : Coated (decided u s d ns pairs) l 0 x out

module _ (u : Colour) (s d ns : List ℕ) (pairs width : ℕ) (l : List ℕ) where
  pub painting_begun : Painting u s d ns pairs width l l 0
  painting_begun = record { upto = omega arith; long = refl; done = coated_none (decided u s d ns pairs) l 0 0 (omega arith) }

  pub painting_more : (out new : List ℕ) (x e : ℕ) → Painting u s d ns pairs width l out x → x < e → e ≤ width → Coated (decided u s d ns pairs) out x e new → Painting u s d ns pairs width l new e
  painting_more out new x e c p q g =
      record { upto = q; long = g.long ∙ c.long; done = coated_chain (decided u s d ns pairs) l out new 0 x e (omega arith) (omega arith) c.done g }

  abbrev sample : MainPos → Option Colour
  sample x = decide (row_stack s d ns x) pairs

  pub painting_end : (out : List ℕ) (x : ℕ) → Painting u s d ns pairs width l out x → width ≤ x → width * 4 ≤ length l → out ≡ put_at l 0 (pixels u sample width)
  unfolding decided
  painting_end out x c h r =
      let p = c.upto in
      let z : x ≡ width = omega arith in
      let n = length_pixels u sample width in
      let g = c.done in
      ext_get_or 0 out (put_at l 0 (pixels u sample width)) (c.long ∙ sym (put_length l 0 (pixels u sample width) (omega arith)))
      (λ i k. ⊎_elim
      (λ (y : i < width * 4).
      let q : i / 4 * 4 + i % 4 ≡ i = omega arith in
      let t : i % 4 < 4 = omega arith in
      ap (λ (j : ℕ). get_or out j 0) (sym q) ∙ octet_at out (i / 4) (i % 4) t
      ∙ ap (λ (v : List ℕ). get_or v (i % 4) 0) (g.there (i / 4) (omega arith) (omega arith) ∙ sym (four_pixels u sample width (i / 4) (omega arith)))
      ∙ sym (octet_at (pixels u sample width) (i / 4) (i % 4) t) ∙ ap (λ (j : ℕ). get_or (pixels u sample width) j 0) q
      ∙ sym (put_get_d l 0 (pixels u sample width) i (omega arith) (omega arith)) ∙ ap (λ (j : ℕ). get_or (put_at l 0 (pixels u sample width)) j 0) (let w : 0 + i ≡ i = omega arith in w))
      (λ (y : i < width * 4 → ⊥). g.behind i (omega arith) ∙ sym (put_get_d_after l 0 (pixels u sample width) i (omega arith) (omega arith)))
      (says_else (says_lt i (width * 4))))

pub unseen_word : (u : Colour) (w : ℕ) → octets_of w ≡ u.c0 ∷ u.c1 ∷ u.c2 ∷ 0 ∷ [] → octets_of w ≡ four_of u None
unfolding four_of
unseen_word u w e = e
