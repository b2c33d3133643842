-- One law for each way out of the functions of floors: its premises are what is known there.
-- Assumes nothing.
use Prim.Native.Nat.{ℕ, suc, ◌+◌, ◌-◌, ◌*◌, ◌/◌, ◌≤◌, ◌<◌}
use native.Mathlib.Omega.{arith}
use native.Mathlib.Nat.{add-mul, one-mul, mul-le-mul_right, suc-mul, add-mul-div_right, div-one}
use mathlib.Core.Path.{◌≡◌, sym, ap, ◌∙◌}
use mathlib.Core.Logic.{⊎_elim}
use mathlib.Core.List.{List}
use lib.ListN.{length, get_or}
use borrow.Author.Rules.{rules}
use Rattle.laws.proofs.Says.{says_lt, says_else}
use Rattle.line_fetch.specs.declared.Row.{Row}
use Rattle.paint_image.specs.Image.{SampleAt}
use Rattle.paint_choice.specs.Choice.{Marked, bits_from, Spread, SpreadAt, mask_bits, MaskPart}
use Rattle.paint_choice.proofs.Marks.{marked_as}

-- ---- a mask that was read

room_from : (x y s n len : ℕ) → x < y → s ≤ x → y ≤ s + n → n ≤ len → x - s + (y - x) ≤ len
room_from x y s n len h i j k = let w : x - s + (y - x) ≡ y - s = omega arith in omega arith

inside_end : (x z s y n : ℕ) → z < y - x → y ≤ s + n → s ≤ x → x - s + z < n
inside_end x z s y n g h i = omega arith

past_from : (o s x z : ℕ) (f : ℕ) → f ≤ s → s ≤ x → o ≡ s - f → x + z - f ≡ x - s + z + o
past_from o s x z f g h i = omega arith

module _ (d : List ℕ) (m : Row) (x y : ℕ) (g : MaskPart d m x y) (i j : ℕ) (p : SampleAt m x i) (q : SampleAt m (y - 1) j) where
  pub read_order : i ≤ j
  read_order =
      ⊎_elim
      (λ (n : j < i).
      let r = mul-le-mul_right m.ratio n in
      let k : suc j * m.ratio ≡ j * m.ratio + m.ratio = suc-mul j m.ratio in
      let o = q.high in
      let u = p.low in
      let s = g.some in
      absurd (omega arith))
      (λ (n : j < i → ⊥). omega arith)
      (says_else (says_lt j i))

  span : (j - i + 1) * m.ratio ≡ j * m.ratio - i * m.ratio + m.ratio
  span =
      let o = read_order in
      let b : (j - i + 1) * m.ratio ≡ (j - i) * m.ratio + m.ratio = add-mul (j - i) 1 m.ratio ∙ ap (λ (n : ℕ). (j - i) * m.ratio + n) (one-mul m.ratio) in
      let c : (j - i + i) * m.ratio ≡ (j - i) * m.ratio + i * m.ratio = add-mul (j - i) i m.ratio in
      let z : j - i + i ≡ j = omega arith in
      let w : (j - i + i) * m.ratio ≡ j * m.ratio = ap (λ (n : ℕ). n * m.ratio) z in
      let u = mul-le-mul_right m.ratio o in
      omega arith

  pub bits_room : (len : ℕ) → y - x + 24 ≤ len → (j - i + 1) * m.ratio ≤ len
  bits_room len r =
      let s = span in
      let k = g.few in
      let n = g.some in
      let a₁ = p.high in
      let b₁ = q.low in
      let u = mul-le-mul_right m.ratio read_order in
      omega arith

  pub bits_there : m.at + i + (j - i + 1) ≤ length d
  bits_there =
      let o = read_order in
      let s = g.some in
      let f = g.from in
      let t = g.to in
      let e = g.there (y - 1) (omega arith) (omega arith) in
      let z = q.is in
      omega arith

  reach : y ≤ m.from.0 + i * m.ratio + (j - i + 1) * m.ratio
  reach = let n = span in let o = q.high in let u = mul-le-mul_right m.ratio read_order in let z = g.some in omega arith

  pub spread_at : (l b : List ℕ) → y - x + 24 ≤ length l → Spread d (m.at + i) m.ratio (j - i + 1) l b → SpreadAt d m x y (length l) (x - (m.from.0 + i * m.ratio)) b
  spread_at l b r s =
      record {
        long = s.long;
        fits = room_from x y (m.from.0 + i * m.ratio) ((j - i + 1) * m.ratio) (length l) g.some p.low reach (bits_room (length l) r);
        there = λ z t.
            let w = p.low in
            let k = past_from (i * m.ratio) (m.from.0 + i * m.ratio) x z m.from.0 (omega arith) w (omega arith) in
            let y₁ : (x + z - m.from.0) / m.ratio ≡ (x - (m.from.0 + i * m.ratio) + z) / m.ratio + i =
            ap (λ (o : ℕ). o / m.ratio) k ∙ add-mul-div_right (x - (m.from.0 + i * m.ratio) + z) i g.turns.some in
            let q₁ : m.at + i + (x - (m.from.0 + i * m.ratio) + z) / m.ratio ≡ m.at + (x + z - m.from.0) / m.ratio = omega arith in
            s.there (x - (m.from.0 + i * m.ratio) + z) (inside_end x z (m.from.0 + i * m.ratio) y ((j - i + 1) * m.ratio) t reach w) ∙ ap (λ (o : ℕ). get_or d o 0) q₁;
      }

module _ (d : List ℕ) (m : Row) (v a x y : ℕ) (g : MaskPart d m x y) (h : a ≤ x) where
  pub read_whole : (l e : List ℕ) → m.ratio ≡ 1 → Marked (bits_from d (x - a) (m.at + (x - m.from.0))) l (x - a) (y - a) v e → Marked (mask_bits d m a) l (x - a) (y - a) v e
  unfolding bits_from mask_bits
  read_whole l e k c =
      let f = g.from in
      marked_as (bits_from d (x - a) (m.at + (x - m.from.0))) (mask_bits d m a) l e (x - a) (y - a) v
      (λ i p q.
      let z : m.at + (x - m.from.0) + (i - (x - a)) ≡ m.at + (a + i - m.from.0) = omega arith in
      let w : (a + i - m.from.0) / m.ratio ≡ a + i - m.from.0 = ap (λ (o : ℕ). (a + i - m.from.0) / o) k ∙ div-one (a + i - m.from.0) in
      ap (λ (o : ℕ). get_or d o 0) (z ∙ ap (λ (o : ℕ). m.at + o) (sym w))) c

  pub whole_there : m.ratio ≡ 1 → m.at + (x - m.from.0) + (y - a - (x - a)) ≤ length d
  whole_there k =
      let f = g.from in
      let s = g.some in
      let t = g.to in
      let e = g.there (y - 1) (omega arith) (omega arith) in
      let w : (y - 1 - m.from.0) / m.ratio ≡ y - 1 - m.from.0 = ap (λ (o : ℕ). (y - 1 - m.from.0) / o) k ∙ div-one (y - 1 - m.from.0) in
      omega arith

  pub spread_room : (room r : ℕ) (b : List ℕ) → SpreadAt d m x y room r b → r + (y - a - (x - a)) ≤ length b
  spread_room room r b s = let z : y - a - (x - a) ≡ y - x = omega arith in let k = s.long in let f = s.fits in omega arith

  pub read_spread : (l e b : List ℕ) (room r : ℕ) → SpreadAt d m x y room r b → Marked (bits_from b (x - a) r) l (x - a) (y - a) v e → Marked (mask_bits d m a) l (x - a) (y - a) v e
  unfolding bits_from mask_bits
  read_spread l e b room r s c =
      marked_as (bits_from b (x - a) r) (mask_bits d m a) l e (x - a) (y - a) v
      (λ z f t.
      let k : x + (z - (x - a)) ≡ a + z = omega arith in
      s.there (z - (x - a)) (omega arith) ∙ ap (λ (o : ℕ). get_or d (m.at + (o - m.from.0) / m.ratio) 0) k) c

pub ruleset reading = (rules, read_whole, whole_there, spread_room, read_spread)
