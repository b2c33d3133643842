-- One law for each way out of the functions that lay an image layer: its premises are what is known there.
-- Assumes nothing.
use Prim.Native.Nat.{ℕ, suc, ◌+◌, ◌-◌, ◌*◌, ◌/◌, ◌≤◌, ◌<◌}
use native.Mathlib.Omega.{arith}
use native.Mathlib.Nat.{div-add-mod', mod-lt, div-le_self, div-eq_of_lt-le, mul-le-mul_right, add-mul, one-mul, add-mul-div_right, suc-mul}
use mathlib.Core.Path.{◌≡◌, refl, sym, ap, subst, ◌∙◌}
use mathlib.Core.Logic.{◌≢◌, ⊎_elim, inl, inr}
use mathlib.Core.Bool.{Bool, true, false, cond}
use mathlib.Core.List.{List}
use lib.ListN.{length, get_or}
use lib.Dec.{eqb}
use borrow.Author.Tests.{ne_eqb}
use borrow.Author.Rules.{rules}
use Rattle.laws.proofs.Says.{says_lt, says_else}
use Rattle.pixel_rules.specs.declared.SamplePos.{SamplePos}
use Rattle.pixel_rules.specs.Place.{scale}
use Rattle.line_sample.specs.Factor.{Steps}
use Rattle.line_fetch.specs.declared.Row.{Row}
use Rattle.line_fetch.specs.Rows.{Turns, ImageFits}
use Rattle.line_fetch.proofs.Laws.{image_before, image_after, image_unread, image_read_lem}
use Rattle.std.specs.Prelude.{Some}
use Rattle.pixel_rules.specs.Samples.{colour_in, grey_of}
use Rattle.sheet_rules.specs.Record.{colour_at}
use Rattle.paint_words.specs.Words.{octets_of, seen_from, grey_from}
use Rattle.paint_coat.specs.Coat.{Coated, over, flat, four_in, samples_by}
use Rattle.paint_coat.proofs.Coats.{coated_none, coated_chain, coated_as}
use Rattle.paint_image.specs.Image.{image_from, area_from, moved, Plain, SampleAt, PartFits, OneFits, WholeFits, Within, Between, Beside, shown_four}

-- ---- the sample of a pixel

pub row_steps : (r : Row) (x : ℕ) → Turns r → r.from.0 ≤ x → x < 65536 → Steps r.ratio r.factor r.from (record { 0 = x })
unfolding scale
row_steps r x t a h =
    let d = div-le_self (x - r.from.0) r.ratio in
    record { some = t.some; small = t.small; factor = t.factor; past = a; near = omega arith }

pub sample_at : (r : Row) (x : ℕ) (p : SamplePos) → Turns r → r.from.0 ≤ x → p ≡ scale r.ratio r.from (record { 0 = x }) → SampleAt r x p.0
unfolding scale
sample_at r x p t a e =
    let i : p.0 ≡ (x - r.from.0) / r.ratio = ap (λ (q : SamplePos). q.0) e in
    let d = div-add-mod' (x - r.from.0) r.ratio in
    let m = mod-lt (x - r.from.0) t.some in
    let s : p.0 * r.ratio ≡ (x - r.from.0) / r.ratio * r.ratio = ap (λ (q : ℕ). q * r.ratio) i in
    record { is = i; low = omega arith; high = omega arith }

pub ruleset placing = (rules, row_steps, sample_at)

-- ---- three octets, or one

pub word_three : (d : List ℕ) (p each w : ℕ) → each ≡ 3 → octets_of w ≡ seen_from d p → octets_of w ≡ four_in each d p
unfolding four_in
word_three d p each w q e = e ∙ sym (rw q)

pub word_grey : (d : List ℕ) (p each w : ℕ) → each ≢ 3 → octets_of w ≡ grey_from d p → octets_of w ≡ four_in each d p
unfolding four_in
word_grey d p each w q e = e ∙ sym (simp (ne_eqb each 3 q))

pub room_one : (p each n : ℕ) → (each ≢ 3 → each ≡ 1) → each ≢ 3 → p + each ≤ n → p < n
room_one p each n k q h = let z = k q in omega arith

pub room_three : (p each n : ℕ) → each ≡ 3 → p + each ≤ n → p + 3 ≤ n
room_three p each n q h = omega arith

pub ruleset kinds = (rules, word_three, word_grey, room_one, room_three)

-- ---- pixels of one sample

module _ (d : List ℕ) (r : Row) (i a b : ℕ) (g : OneFits d r i a b) where
  pub one_room : r.at + i * r.read + r.read ≤ length d
  one_room = g.there

  pub one_kind : r.read ≢ 3 → r.read ≡ 1
  one_kind = g.kind

  in_one : (x : ℕ) → a ≤ x → x < b → (x - r.from.0) / r.ratio ≡ i
  in_one x p q =
      let l = g.low in
      let h = g.high in
      let m : (i + 1) * r.ratio ≡ i * r.ratio + r.ratio = add-mul i 1 r.ratio ∙ ap (λ (o : ℕ). i * r.ratio + o) (one-mul r.ratio) in
      div-eq_of_lt-le r.ratio (omega arith) (omega arith)

  pub one_laid : (t w : ℕ) (l e : List ℕ) → octets_of w ≡ four_in r.read d (r.at + i * r.read) → Coated (over (flat (octets_of w))) l t (t + (b - a)) e
      → Coated (over (moved t a (area_from d r))) l t (t + (b - a)) e
  unfolding over flat moved area_from
  one_laid t w l e h c =
      coated_as (over (flat (octets_of w))) (over (moved t a (area_from d r))) l e t (t + (b - a))
      (λ x o p q.
      let z = in_one (a + (x - t)) (omega arith) (omega arith) in
      h ∙ ap (λ (m : ℕ). four_in r.read d (r.at + m * r.read)) (sym z))
      c

pub ruleset ones = (rules, one_kind, one_room, one_laid)

-- ---- whole samples

module _ (d : List ℕ) (r : Row) (t q n f : ℕ) (l : List ℕ) where
  pub whole_none : n ≡ 0 → Coated (over (moved t f (area_from d r))) l t (t + n * r.ratio) l
  whole_none z = coated_none (over (moved t f (area_from d r))) l t (t + n * r.ratio) (let y : n * r.ratio ≡ 0 * r.ratio = ap (λ (m : ℕ). m * r.ratio) z in omega arith)

  -- k pixels a sample: so many samples on, so many pixels
  pub whole_laid : (e : List ℕ) → WholeFits d r q n f → Coated (over (samples_by r.read r.ratio d t (r.at + q * r.read))) l t (t + n * r.ratio) e
      → Coated (over (moved t f (area_from d r))) l t (t + n * r.ratio) e
  unfolding over moved area_from samples_by
  whole_laid e g c =
      let h = g.start in
      coated_as (over (samples_by r.read r.ratio d t (r.at + q * r.read))) (over (moved t f (area_from d r))) l e t (t + n * r.ratio)
      (λ x o p u.
      let y : f + (x - t) - r.from.0 ≡ x - t + q * r.ratio = omega arith in
      let z : (f + (x - t) - r.from.0) / r.ratio ≡ (x - t) / r.ratio + q = ap (λ (m : ℕ). m / r.ratio) y ∙ add-mul-div_right (x - t) q g.some in
      let w : ((x - t) / r.ratio + q) * r.read ≡ (x - t) / r.ratio * r.read + q * r.read = add-mul ((x - t) / r.ratio) q r.read in
      let v : r.at + q * r.read + (x - t) / r.ratio * r.read ≡ r.at + ((x - t) / r.ratio + q) * r.read = omega arith in
      ap (four_in r.read d) (v ∙ ap (λ (m : ℕ). r.at + m * r.read) (sym z)))
      c

module _ (d : List ℕ) (r : Row) (q n f : ℕ) (g : WholeFits d r q n f) where
  pub whole_room : n ≢ 0 → r.at + q * r.read + n * r.read ≤ length d
  whole_room z = let w = add-mul q n r.read in let h = g.there (omega arith) in omega arith

  pub whole_some : n ≢ 0 → 0 < n
  whole_some z = omega arith

  pub whole_kind : r.read ≢ 3 → r.read ≡ 1
  whole_kind = g.kind

pub ruleset wholes = (rules, whole_none, whole_laid, whole_room, whole_some, whole_kind)

-- ---- parts, one behind the other

pub moved_chain : (f : ℕ → List ℕ) (t a m b u : ℕ) (l o e : List ℕ) → a ≤ m → m ≤ b → u ≡ t + (m - a) → Coated (over (moved t a f)) l t u o
    → Coated (over (moved u m f)) o u (u + (b - m)) e → Coated (over (moved t a f)) l t (t + (b - a)) e
unfolding over moved
moved_chain f t a m b u l o e p q z c g =
    let y : u + (b - m) ≡ t + (b - a) = omega arith in
    coated_chain (over (moved t a f)) l o e t u (t + (b - a)) (omega arith) (omega arith) c
    (subst (λ (i : ℕ). Coated (over (moved t a f)) o u i e) y
    (coated_as (over (moved u m f)) (over (moved t a f)) o e u (u + (b - m)) (λ x w j k. let i : m + (x - u) ≡ a + (x - t) = omega arith in ap f i) g))

-- ---- from a sample's start on

module _ (d : List ℕ) (r : Row) (f b q j : ℕ) (g : PartFits d r f b) (h : f ≤ b) (z : f ≡ r.from.0 + q * r.ratio) (s : SampleAt r b j) where
  pub from_order : q ≤ j
  from_order =
      ⊎_elim
      (λ (n : j < q).
      let m = mul-le-mul_right r.ratio n in
      let k : suc j * r.ratio ≡ j * r.ratio + r.ratio = suc-mul j r.ratio in
      let v = s.high in
      absurd (omega arith))
      (λ (n : j < q → ⊥). omega arith)
      (says_else (says_lt j q))

  part_count : (j - q) * r.ratio ≡ r.from.0 + j * r.ratio - f
  part_count =
      let o = from_order in
      let y : j - q + q ≡ j = omega arith in
      let k = add-mul (j - q) q r.ratio in
      let w : (j - q + q) * r.ratio ≡ j * r.ratio = ap (λ (m : ℕ). m * r.ratio) y in
      omega arith

  from_past : f ≤ r.from.0 + j * r.ratio
  from_past = let m = mul-le-mul_right r.ratio from_order in omega arith

  pub from_sub : f ≤ r.from.0 + j * r.ratio
  from_sub = from_past

  from_there : 0 < j - q → r.at + (q + (j - q)) * r.read ≤ length d
  from_there n =
      let o = from_order in
      let w = s.low in
      let y : q + (j - q) ≡ j = omega arith in
      let k : j - 1 + 1 ≡ j = omega arith in
      let v : (j - 1 + 1) * r.ratio ≡ (j - 1) * r.ratio + r.ratio = add-mul (j - 1) 1 r.ratio ∙ ap (λ (i : ℕ). (j - 1) * r.ratio + i) (one-mul r.ratio) in
      let v' : (j - 1 + 1) * r.ratio ≡ j * r.ratio = ap (λ (i : ℕ). i * r.ratio) k in
      let u : (j - 1 + 1) * r.read ≡ (j - 1) * r.read + r.read = add-mul (j - 1) 1 r.read ∙ ap (λ (i : ℕ). (j - 1) * r.read + i) (one-mul r.read) in
      let u' : (j - 1 + 1) * r.read ≡ j * r.read = ap (λ (i : ℕ). i * r.read) k in
      let a = g.turns.some in
      let c = g.to in
      let e : (r.from.0 + (j - 1) * r.ratio - r.from.0) / r.ratio ≡ j - 1 = div-eq_of_lt-le r.ratio (omega arith) (omega arith) in
      let t = g.there (r.from.0 + (j - 1) * r.ratio) (omega arith) (omega arith) in
      let t' : (r.from.0 + (j - 1) * r.ratio - r.from.0) / r.ratio * r.read ≡ (j - 1) * r.read = ap (λ (i : ℕ). i * r.read) e in
      let i : (q + (j - q)) * r.read ≡ j * r.read = ap (λ (i : ℕ). i * r.read) y in
      omega arith

  pub from_whole : WholeFits d r q (j - q) f
  from_whole = record { some = g.turns.some; kind = λ n. g.plain.one g.read n; start = z; there = from_there }

  from_kind : r.read ≢ 3 → r.read ≡ 1
  from_kind n = g.plain.one g.read n

  pub from_room : (t len : ℕ) → (t + (b - f)) * 4 ≤ len → (t + (j - q) * r.ratio) * 4 ≤ len
  from_room t len k = let c = part_count in let p = from_past in let w = s.low in omega arith

  pub from_one : r.from.0 + j * r.ratio < b → OneFits d r j (r.from.0 + j * r.ratio) b
  from_one n =
      let v = s.high in
      let c = g.to in
      let a = g.turns.some in
      let k : (j + 1) * r.ratio ≡ j * r.ratio + r.ratio = add-mul j 1 r.ratio ∙ ap (λ (i : ℕ). j * r.ratio + i) (one-mul r.ratio) in
      let e : (r.from.0 + j * r.ratio - r.from.0) / r.ratio ≡ j = div-eq_of_lt-le r.ratio (omega arith) (omega arith) in
      let t = g.there (r.from.0 + j * r.ratio) (omega arith) (omega arith) in
      let t' : (r.from.0 + j * r.ratio - r.from.0) / r.ratio * r.read ≡ j * r.read = ap (λ (i : ℕ). i * r.read) e in
      record { some = omega arith; low = omega arith; high = omega arith; kind = from_kind; there = omega arith }

  pub from_none : (t : ℕ) (l o : List ℕ) → b ≤ r.from.0 + j * r.ratio → Coated (over (moved t f (area_from d r))) l t (t + (j - q) * r.ratio) o
      → Coated (over (moved t f (area_from d r))) l t (t + (b - f)) o
  from_none t l o n c =
      let k = part_count in
      let w = s.low in
      let y : t + (j - q) * r.ratio ≡ t + (b - f) = omega arith in
      subst (λ (i : ℕ). Coated (over (moved t f (area_from d r))) l t i o) y c

  pub from_both : (t : ℕ) (l o e : List ℕ) → r.from.0 + j * r.ratio < b → Coated (over (moved t f (area_from d r))) l t (t + (j - q) * r.ratio) o
      → Coated (over (moved (t + (r.from.0 + j * r.ratio - f)) (r.from.0 + j * r.ratio) (area_from d r))) o (t + (r.from.0 + j * r.ratio - f)) (t + (r.from.0 + j * r.ratio - f) + (b - (r.from.0 + j * r.ratio))) e
      → Coated (over (moved t f (area_from d r))) l t (t + (b - f)) e
  from_both t l o e n c k =
      let y : t + (j - q) * r.ratio ≡ t + (r.from.0 + j * r.ratio - f) = ap (λ (i : ℕ). t + i) part_count in
      moved_chain (area_from d r) t f (r.from.0 + j * r.ratio) b (t + (r.from.0 + j * r.ratio - f)) l o e from_past (omega arith) refl
      (subst (λ (i : ℕ). Coated (over (moved t f (area_from d r))) l t i o) y c) k

pub ruleset froms = (rules, from_order, from_sub, from_whole, from_room, from_one, from_none, from_both)

-- ---- a part of the area, from a pixel of sample i on

module _ (d : List ℕ) (r : Row) (a b i : ℕ) (g : PartFits d r a b) (h : a < b) (s : SampleAt r a i) where
  in_sample : r.at + i * r.read + r.read ≤ length d
  in_sample =
      let k = g.from in
      let c = g.to in
      let t = g.there a k (omega arith) in
      let e : i * r.read ≡ (a - r.from.0) / r.ratio * r.read = ap (λ (m : ℕ). m * r.read) s.is in
      omega arith

  area_kind : r.read ≢ 3 → r.read ≡ 1
  area_kind n = g.plain.one g.read n

  pub area_one : b ≤ r.from.0 + i * r.ratio + r.ratio → OneFits d r i a b
  area_one n = record { some = omega arith; low = s.low; high = n; kind = area_kind; there = in_sample }

  pub area_first : OneFits d r i a (r.from.0 + i * r.ratio + r.ratio)
  area_first = let v = s.high in record { some = omega arith; low = s.low; high = omega arith; kind = area_kind; there = in_sample }

  pub area_next : r.from.0 + i * r.ratio + r.ratio < b → PartFits d r (r.from.0 + i * r.ratio + r.ratio) b
  area_next n = record { turns = g.turns; plain = g.plain; read = g.read; from = omega arith; to = g.to; near = g.near; there = g.there }

  pub area_start : r.from.0 + i * r.ratio + r.ratio ≡ r.from.0 + (i + 1) * r.ratio
  area_start =
      let k : (i + 1) * r.ratio ≡ i * r.ratio + r.ratio = add-mul i 1 r.ratio ∙ ap (λ (m : ℕ). i * r.ratio + m) (one-mul r.ratio) in
      omega arith

  pub area_both : (t : ℕ) (l o e : List ℕ) → r.from.0 + i * r.ratio + r.ratio < b
      → Coated (over (moved t a (area_from d r))) l t (t + (r.from.0 + i * r.ratio + r.ratio - a)) o
      → Coated (over (moved (t + (r.from.0 + i * r.ratio + r.ratio - a)) (r.from.0 + i * r.ratio + r.ratio) (area_from d r))) o (t + (r.from.0 + i * r.ratio + r.ratio - a)) (t + (r.from.0 + i * r.ratio + r.ratio - a) + (b - (r.from.0 + i * r.ratio + r.ratio))) e
      → Coated (over (moved t a (area_from d r))) l t (t + (b - a)) e
  area_both t l o e n c k =
      let v = s.high in
      moved_chain (area_from d r) t a (r.from.0 + i * r.ratio + r.ratio) b (t + (r.from.0 + i * r.ratio + r.ratio - a)) l o e (omega arith) (omega arith) refl c k

pub count_small : (r : Row) (a i : ℕ) → Turns r → SampleAt r a i → i ≤ a
count_small r a i t s = let d = div-le_self (a - r.from.0) r.ratio in let e = s.is in omega arith

pub ruleset areas = (rules, area_one, area_first, area_next, area_start, area_both)

-- ---- the base colour, the area

module _ (un s d : List ℕ) (r : Row) (t a b : ℕ) where
  pub part_none : (l : List ℕ) → b ≤ a → Coated (over (moved t a (image_from un s d r))) l t (t + (b - a)) l
  part_none l h = coated_none (over (moved t a (image_from un s d r))) l t (t + (b - a)) (omega arith)

  base_is : Beside r a b → (x : ℕ) → a ≤ x → x < b → seen_from s r.other ≡ image_from un s d r x
  unfolding image_from shown_four seen_from
  base_is g x p q =
      ⊎_elim
      (λ (z : x < r.from.0). ap (shown_four un) (image_before s d r (record { 0 = x }) (colour_at s r.other) z refl))
      (λ (z : r.to.0 ≤ x). ap (shown_four un) (image_after s d r (record { 0 = x }) (colour_at s r.other) z refl))
      (g.out x p q)

  pub base_laid : (w : ℕ) (l e : List ℕ) → Beside r a b → a < b → octets_of w ≡ seen_from s r.other → Coated (over (flat (octets_of w))) l t (t + (b - a)) e
      → Coated (over (moved t a (image_from un s d r))) l t (t + (b - a)) e
  unfolding over flat moved
  base_laid w l e g h z c =
      coated_as (over (flat (octets_of w))) (over (moved t a (image_from un s d r))) l e t (t + (b - a))
      (λ x o p q. z ∙ base_is g (a + (x - t)) (omega arith) (omega arith)) c

  pub unread_laid : (l e : List ℕ) → Between r a b → r.read ≡ 0 → Coated (over (flat un)) l t (t + (b - a)) e → Coated (over (moved t a (image_from un s d r))) l t (t + (b - a)) e
  unfolding over flat moved image_from shown_four
  unread_laid l e g z c =
      coated_as (over (flat un)) (over (moved t a (image_from un s d r))) l e t (t + (b - a))
      (λ x o p q.
      ap (shown_four un) (image_unread s d r (record { 0 = a + (x - t) }) (g.from (a + (x - t)) (omega arith) (omega arith)) (g.to (a + (x - t)) (omega arith) (omega arith)) z)) c

  four_colour : (n p : ℕ) → four_in n d p ≡ shown_four un (Some (colour_in n d p))
  unfolding four_in shown_four colour_in seen_from grey_from
  four_colour n p = by (eqb n 3)
    where
      by : (z : Bool) → cond z (seen_from d p) (grey_from d p) ≡ shown_four un (Some (cond z (colour_at d p) (grey_of (get_or d p 0))))
      by true = refl
      by false = refl

  pub area_laid : (l e : List ℕ) → Between r a b → r.read ≢ 0 → Coated (over (moved t a (area_from d r))) l t (t + (b - a)) e
      → Coated (over (moved t a (image_from un s d r))) l t (t + (b - a)) e
  unfolding over moved image_from area_from scale
  area_laid l e g z c =
      coated_as (over (moved t a (area_from d r))) (over (moved t a (image_from un s d r))) l e t (t + (b - a))
      (λ x o p q.
      let y : ℕ = a + (x - t) in
      four_colour r.read (r.at + (a + (x - t) - r.from.0) / r.ratio * r.read)
      ∙ ap (shown_four un)
      (image_read_lem s d r (record { 0 = a + (x - t) }) (colour_in r.read d (r.at + (a + (x - t) - r.from.0) / r.ratio * r.read)) (record { 0 = (a + (x - t) - r.from.0) / r.ratio })
      (g.from (a + (x - t)) (omega arith) (omega arith)) (g.to (a + (x - t)) (omega arith) (omega arith)) z refl refl)) c

-- within its area, where it was read, a layer gives its sample
pub area_is : (un s d : List ℕ) (r : Row) (y : ℕ) → r.from.0 ≤ y → y < r.to.0 → r.read ≢ 0 → area_from d r y ≡ image_from un s d r y
unfolding image_from area_from scale
area_is un s d r y f o n =
    four_colour un s d r 0 0 0 r.read (r.at + (y - r.from.0) / r.ratio * r.read)
    ∙ ap (shown_four un)
    (image_read_lem s d r (record { 0 = y }) (colour_in r.read d (r.at + (y - r.from.0) / r.ratio * r.read)) (record { 0 = (y - r.from.0) / r.ratio }) f o n refl refl)

pub base_room : (s d : List ℕ) (r : Row) → ImageFits s d r → r.other + 3 ≤ length s
base_room s d r g = g.base

pub area_fits : (s d : List ℕ) (r : Row) (a b : ℕ) → ImageFits s d r → Plain r → Between r a b → a < b → b < 65536 → r.read ≢ 0 → PartFits d r a b
unfolding scale
area_fits s d r a b f p g h k n =
    let x = g.to (b - 1) (omega arith) (omega arith) in
    record {
      turns = f.turns;
      plain = p;
      read = n;
      from = g.from a (omega arith) h;
      to = omega arith;
      near = k;
      there = λ x i j. f.there (record { 0 = x }) i j n;
    }

pub ruleset laying = (rules, part_none, base_laid, unread_laid, area_laid, base_room, area_fits)

-- ---- all three

module _ (r : Row) (a b f g : ℕ) (p : Within r.from.0 a b f) (q : Within r.to.0 f b g) where
  pub beside_before : Beside r a f
  beside_before = record { out = λ x i j. inl (p.before x i j) }

  pub between_both : Between r f g
  between_both = record { from = λ x i j. p.behind x i (let h = q.high in omega arith); to = λ x i j. q.before x i j }

  pub beside_behind : Beside r g b
  beside_behind = record { out = λ x i j. inr (q.behind x i j) }

  pub image_chain : (un s d : List ℕ) (t : ℕ) (l o₁ o₂ o₃ : List ℕ) → Coated (over (moved t a (image_from un s d r))) l t (t + (f - a)) o₁
      → Coated (over (moved (t + (f - a)) f (image_from un s d r))) o₁ (t + (f - a)) (t + (f - a) + (g - f)) o₂
      → Coated (over (moved (t + (g - a)) g (image_from un s d r))) o₂ (t + (g - a)) (t + (g - a) + (b - g)) o₃
      → Coated (over (moved t a (image_from un s d r))) l t (t + (b - a)) o₃
  image_chain un s d t l o₁ o₂ o₃ x y z =
      let i = p.low in
      let j = q.low in
      let k = q.high in
      moved_chain (image_from un s d r) t a g b (t + (g - a)) l o₂ o₃ (omega arith) k refl
      (moved_chain (image_from un s d r) t a f g (t + (f - a)) l o₁ o₂ i j refl x y) z

pub ruleset imaging = (rules, beside_before, between_both, beside_behind, image_chain)
