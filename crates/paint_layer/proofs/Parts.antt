-- Parts of a row: what an image layer shows along one of a kind, what a mask's octets are, and coats told in these words.
-- Assumes nothing.
use Prim.Native.Nat.{ℕ, ◌+◌, ◌-◌, ◌*◌, ◌/◌, ◌≤◌, ◌<◌}
use native.Mathlib.Omega.{arith}
use native.Mathlib.Nat.{div-one}
use mathlib.Core.Path.{◌≡◌, refl, sym, ap, ap₂, subst, ◌∙◌}
use mathlib.Core.Logic.{◌≢◌, inl, inr, ⊎_elim}
use mathlib.Core.Bool.{true, false, ◌||◌, cond, false≢true}
use mathlib.Core.List.{List}
use lib.ListN.{length, get_or, take, drop, length-take, length-drop}
use lib.Seq.{take_all, get_or-drop}
use lib.Dec.{eqb, leb, ltb}
use borrow.Author.Rules.{rules}
use Rattle.laws.proofs.Says.{says_le, says_lt, says_or}
use Rattle.pixel_rules.specs.Place.{scale}
use Rattle.sheet_rules.specs.Record.{colour_at}
use Rattle.line_fetch.specs.declared.Row.{Row}
use Rattle.line_fetch.specs.Rows.{ImageFits}
use Rattle.line_fetch.proofs.Laws.{image_before, image_after, image_unread}
use Rattle.paint_words.specs.Words.{octets_of, four_from, seen_from}
use Rattle.paint_coat.specs.Coat.{Coated, over, flat, four_in, samples_by, chosen_by}
use Rattle.paint_coat.proofs.Coats.{coated_as}
use Rattle.paint_image.specs.Image.{image_from, area_from, shown_four, moved, Beside}
use Rattle.paint_image.proofs.Laws.{area_is}
use Rattle.paint_choice.specs.Choice.{bits_from, MaskPart, SpreadAt}
use Rattle.paint_layer.specs.Layer.{words_from, mask_at, Span, Dark, Ruled}

-- ---- the tests

pub no_span : (d : List ℕ) (r : Row) (x y : ℕ) → false ≡ true → Span d r x y
no_span d r x y e = absurd (false≢true e)

pub no_dark : (r : Row) (x y : ℕ) → false ≡ true → Dark r x y
no_dark r x y e = absurd (false≢true e)

-- the last of its samples is there
pub last_there : (s d : List ℕ) (r : Row) (x y : ℕ) → ImageFits s d r → x < y → r.read ≡ 3 → r.ratio ≡ 1 → r.from.0 ≤ x → y ≤ r.to.0
    → r.at + (y - 1 - r.from.0) * 3 + 3 ≤ length d
unfolding scale
last_there s d r x y g h t o f k =
    let n : r.read ≢ 0 = λ (e : r.read ≡ 0). omega arith in
    let e = g.there (record { 0 = y - 1 }) (omega arith) (omega arith) n in
    let z : (y - 1 - r.from.0) / r.ratio ≡ y - 1 - r.from.0 = ap (λ (i : ℕ). (y - 1 - r.from.0) / i) o ∙ div-one (y - 1 - r.from.0) in
    let w : (y - 1 - r.from.0) / r.ratio * r.read ≡ (y - 1 - r.from.0) * 3 = ap₂ (λ (i j : ℕ). i * j) z t in
    omega arith

pub is_span : (d : List ℕ) (r : Row) (x y : ℕ) → x < y → r.read ≡ 3 → r.ratio ≡ 1 → r.from.0 ≤ x → y ≤ r.to.0 → ltb (r.at + (y - 1 - r.from.0) * 3 + 3) (length d) ≡ true
    → Span d r x y
is_span d r x y h t o f k e =
    let v = (says_lt (r.at + (y - 1 - r.from.0) * 3 + 3) (length d)).told e in
    record { three = t; single = o; from = f; to = k; more = omega arith }

pub is_base : (r : Row) (x y : ℕ) → leb y r.from.0 || leb r.to.0 x ≡ true → Beside r x y
is_base r x y e =
    record {
      out = λ p a b. ⊎_elim
          (λ (k : y ≤ r.from.0). inl (omega arith))
          (λ (k : r.to.0 ≤ x). inr (omega arith))
          ((says_or (says_le y r.from.0) (says_le r.to.0 x)).told e);
    }

pub ruleset testing = (rules, no_span, no_dark, is_base)

-- ---- what an image layer shows from x up to y

pub record Shows (f g : ℕ → List ℕ) (x y : ℕ) : Type 0 where
  pub same : (p : ℕ) → x ≤ p → p < y → f p ≡ g p

module _ (un s d : List ℕ) (r : Row) (x y : ℕ) where
  pub dark_shows : Dark r x y → Shows (flat un) (image_from un s d r) x y
  unfolding flat image_from shown_four
  dark_shows g =
      let f = g.from in
      let t = g.to in
      record { same = λ p a b. ap (shown_four un) (image_unread s d r (record { 0 = p }) (omega arith) (omega arith) g.unread) }

  pub base_shows : (w : ℕ) → Beside r x y → octets_of w ≡ seen_from s r.other → Shows (flat (octets_of w)) (image_from un s d r) x y
  unfolding flat image_from shown_four seen_from
  base_shows w g e =
      record {
        same = λ p a b. e ∙ ⊎_elim
            (λ (z : p < r.from.0). ap (shown_four un) (image_before s d r (record { 0 = p }) (colour_at s r.other) z refl))
            (λ (z : r.to.0 ≤ p). ap (shown_four un) (image_after s d r (record { 0 = p }) (colour_at s r.other) z refl))
            (g.out p a b);
      }

  pub three_shows : Span d r x y → Shows (samples_by 3 1 d x (r.at + (x - r.from.0) * 3)) (image_from un s d r) x y
  unfolding samples_by area_from
  three_shows g =
      let f = g.from in
      let t = g.to in
      let h = g.three in
      record {
        same = λ p a b.
            let v : r.at + (x - r.from.0) * 3 + (p - x) / 1 * 3 ≡ r.at + (p - r.from.0) * 3 = omega arith in
            let w : (p - r.from.0) / r.ratio ≡ p - r.from.0 = ap (λ (i : ℕ). (p - r.from.0) / i) g.single ∙ div-one (p - r.from.0) in
            let n : r.read ≢ 0 = λ (e : r.read ≡ 0). omega arith in
            ap (four_in 3 d) v ∙ ap (λ (i : ℕ). four_in 3 d (r.at + i * 3)) (sym w)
            ∙ ap (λ (i : ℕ). four_in i d (r.at + (p - r.from.0) / r.ratio * i)) (sym h)
            ∙ area_is un s d r p (omega arith) (omega arith) n;
      }

-- ---- coats in other words

module _ (l e : List ℕ) (x y : ℕ) (h : x ≤ y) where
  pub up_to : (f : ℕ → List ℕ → List ℕ) → Coated f l x (x + (y - x)) e → Coated f l x y e
  up_to f c = let z : x + (y - x) ≡ y = omega arith in subst (λ (i : ℕ). Coated f l x i e) z c

-- a layer that was laid into a row of its own
row_shows : (f : ℕ → List ℕ) (x y : ℕ) (row₀ row : List ℕ) → Coated (over (moved 0 x f)) row₀ 0 (0 + (y - x)) row → Shows (words_from row x) f x y
unfolding over moved words_from
row_shows f x y row₀ row c =
    record { same = λ p a b. let z : x + (p - x - 0) ≡ p = omega arith in c.there (p - x) (omega arith) (omega arith) ∙ ap f z }

-- ---- a mask's octets

part_octet : (m : List ℕ) (k i : ℕ) → k ≤ length m → get_or (take (length m - k) (drop k m)) i 0 ≡ get_or m (k + i) 0
part_octet m k i h =
    let l = length-drop k m in
    let whole : take (length m - k) (drop k m) ≡ drop k m = take_all (length m - k) (drop k m) (omega arith) in
    ap (λ (n : List ℕ). get_or n i 0) whole ∙ get_or-drop k m i 0

part_long : (m : List ℕ) (k : ℕ) → k ≤ length m → length (take (length m - k) (drop k m)) ≡ length m - k
part_long m k h = let a = length-take (length m - k) (drop k m) in let b = length-drop k m in omega arith

mask_as : (m n : ℕ → ℕ) (low up : ℕ → List ℕ → List ℕ) (l e : List ℕ) (x y : ℕ) → ((p : ℕ) → x ≤ p → p < y → m p ≡ n p) → Coated (chosen_by m low up) l x y e
    → Coated (chosen_by n low up) l x y e
unfolding chosen_by
mask_as m n low up l e x y s c =
    coated_as (chosen_by m low up) (chosen_by n low up) l e x y (λ p o a b. ap (λ (i : ℕ). cond (eqb i 0) (low p o) (up p o)) (s p a b)) c

module _ (d : List ℕ) (m : Row) (x y : ℕ) (g : MaskPart d m x y) (low up : ℕ → List ℕ → List ℕ) (l e : List ℕ) where
  pub mask_whole : m.ratio ≡ 1 → m.at + (x - m.from.0) ≤ length d
      → Coated (chosen_by (bits_from (take (length d - (m.at + (x - m.from.0))) (drop (m.at + (x - m.from.0)) d)) x 0) low up) l x y e
      → Coated (chosen_by (mask_at d m) low up) l x y e
  unfolding bits_from mask_at
  mask_whole k h c =
      let f = g.from in
      mask_as (bits_from (take (length d - (m.at + (x - m.from.0))) (drop (m.at + (x - m.from.0)) d)) x 0) (mask_at d m) low up l e x y
      (λ p a b.
      let z : m.at + (x - m.from.0) + (0 + (p - x)) ≡ m.at + (p - m.from.0) = omega arith in
      let w : (p - m.from.0) / m.ratio ≡ p - m.from.0 = ap (λ (i : ℕ). (p - m.from.0) / i) k ∙ div-one (p - m.from.0) in
      part_octet d (m.at + (x - m.from.0)) (0 + (p - x)) h ∙ ap (λ (i : ℕ). get_or d i 0) (z ∙ ap (λ (i : ℕ). m.at + i) (sym w))) c

  pub mask_spread : (room at : ℕ) (b : List ℕ) → SpreadAt d m x y room at b → Coated (chosen_by (bits_from (take (length b - at) (drop at b)) x 0) low up) l x y e
      → Coated (chosen_by (mask_at d m) low up) l x y e
  unfolding bits_from mask_at
  mask_spread room at b s c =
      let n = s.long in
      let f = s.fits in
      mask_as (bits_from (take (length b - at) (drop at b)) x 0) (mask_at d m) low up l e x y
      (λ p i j.
      let z : x + (0 + (p - x)) ≡ p = omega arith in
      part_octet b at (0 + (p - x)) (omega arith) ∙ s.there (0 + (p - x)) (omega arith)
      ∙ ap (λ (k : ℕ). get_or d (m.at + (k - m.from.0) / m.ratio) 0) z) c

module _ (d : List ℕ) (m : Row) (x y : ℕ) (g : MaskPart d m x y) (k : m.ratio ≡ 1) where
  -- the mask's last octet is there
  pub whole_long : m.at + (x - m.from.0) + (y - x) ≤ length d
  whole_long =
      let f = g.from in
      let s = g.some in
      let t = g.to in
      let e = g.there (y - 1) (omega arith) (omega arith) in
      let w : (y - 1 - m.from.0) / m.ratio ≡ y - 1 - m.from.0 = ap (λ (i : ℕ). (y - 1 - m.from.0) / i) k ∙ div-one (y - 1 - m.from.0) in
      omega arith

  pub whole_room : y - x ≤ length (take (length d - (m.at + (x - m.from.0))) (drop (m.at + (x - m.from.0)) d))
  whole_room = let h = whole_long in let a = part_long d (m.at + (x - m.from.0)) (omega arith) in omega arith

pub spread_room : (d : List ℕ) (m : Row) (x y room at : ℕ) (b : List ℕ) → SpreadAt d m x y room at b → y - x ≤ length (take (length b - at) (drop at b))
spread_room d m x y room at b s = let n = s.long in let f = s.fits in let a = part_long b at (omega arith) in omega arith

pub ruleset masking = (rules, whole_room, spread_room)

-- ---- part by part, a row of their own being lent for it

-- ---- an image layer by a rule, whatever the rule promises of a pixel

module _ (f : ℕ → List ℕ → List ℕ) (up : ℕ → List ℕ) (post : ℕ → ℕ → ℕ → ℕ → Type 0) (x y : ℕ)
    (h : Ruled f up post x y) where
  pub shown_ruled : (g : ℕ → List ℕ) → Shows g up x y → Ruled f g post x y
  shown_ruled g s i w v k b o q = h i w v k b (o ∙ s.same (x + i) (omega arith) (omega arith)) q

  pub laid_ruled : (p e : ℕ) (row₀ row : List ℕ) → x ≤ p → e ≤ y → Coated (over (moved 0 p up)) row₀ 0 (0 + (e - p)) row → (i w v k : ℕ) → i < e - p
      → octets_of v ≡ four_from row (i * 4) → post (p - x + i) w v k → octets_of k ≡ f (p + i) (octets_of w)
  unfolding words_from
  laid_ruled p e row₀ row a b c i w v k j o q =
      let z : x + (p - x + i) ≡ p + i = omega arith in
      let n : i * 4 ≡ (p + i - p) * 4 = omega arith in
      let s : four_from row ((p + i - p) * 4) ≡ up (p + i) = (row_shows up p e row₀ row c).same (p + i) (omega arith) (omega arith) in
      h (p - x + i) w v k (omega arith) (o ∙ ap (four_from row) n ∙ s ∙ ap up (sym z)) q ∙ ap (λ (m : ℕ). f m (octets_of w)) z
