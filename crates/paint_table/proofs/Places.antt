-- What the places of a table are: each floor's column leads to the samples of its row, pixel by pixel of the part, within the samples.
-- Assumes nothing.
use Prim.Native.Nat.{ℕ, ◌+◌, ◌-◌, ◌*◌, ◌/◌, ◌%◌, ◌≤◌, ◌<◌}
use native.Mathlib.Omega.{arith}
use native.Mathlib.Nat.{mul-le-mul, mul-le-mul_right, add-mul, add-mul-div_right, div-add-mod', mul_assoc, div-le_self}
use mathlib.Core.Path.{◌≡◌, refl, sym, ap, subst, ◌∙◌}
use mathlib.Core.Logic.{◌≢◌, ⊎_elim}
use mathlib.Core.List.{List}
use lib.ListN.{length, get_or}
use borrow.Author.Tests.{eq-eqb}
use Rattle.laws.proofs.Says.{says_eq, says_else}
use Rattle.line_fetch.specs.declared.Row.{Row}
use Rattle.line_fetch.specs.Rows.{row_at}
use Rattle.paint_rules.specs.Floor.{dark}
use Rattle.paint_coat.specs.Coat.{four_in}
use Rattle.paint_image.specs.Image.{image_from, area_from}
use Rattle.paint_image.proofs.Laws.{area_is}
use Rattle.paint_gather.specs.Gather.{entry, place_in, Reaches}
use Rattle.paint_table.specs.Table.{place_of, Ready, Lined, row_for, Tabled}
use Rattle.paint_table.proofs.Laws.{quotients}

-- after twelve pixels a ratio that divides twelve has gone on by whole samples
whole : (n g k : ℕ) → 0 < k → 12 % k ≡ 0 → (n + g * 12) / k ≡ n / k + g * (12 / k)
whole n g k h z =
    let a = div-add-mod' 12 k in
    let b : 12 / k * k ≡ 12 = omega arith in
    let c : g * 12 ≡ g * (12 / k) * k = ap (λ (m : ℕ). g * m) (sym b) ∙ sym (mul_assoc g (12 / k) k) in
    ap (λ (m : ℕ). (n + m) / k) c ∙ add-mul-div_right n (g * (12 / k)) h

module _ (each : ℕ) (d t : List ℕ) (c : ℕ) (r : Row) (k a b step : ℕ) (g : Ready each d r k a b) (l : Lined each t c r a) (z : 12 % k ≡ 0) (e : step ≡ 12 / k * each) where
  pub line_place : (i : ℕ) → place_in t step i c ≡ r.at + (a + i - r.from.0) / r.ratio * each
  unfolding place_in place_of
  line_place i =
      let f = g.from in
      let q : a + i - r.from.0 ≡ a + i % 12 - r.from.0 + i / 12 * 12 = omega arith in
      let ez : 12 % r.ratio ≡ 0 = subst (λ (m : ℕ). 12 % m ≡ 0) (sym g.ratio) z in
      let w : (a + i - r.from.0) / r.ratio ≡ (a + i % 12 - r.from.0) / r.ratio + i / 12 * (12 / r.ratio) = ap (λ (m : ℕ). m / r.ratio) q ∙ whole (a + i % 12 - r.from.0) (i / 12) r.ratio g.turns.some ez in
      let o : entry t (i % 12) c ≡ r.at + (a + i % 12 - r.from.0) / r.ratio * each = l.there (i % 12) (omega arith) in
      let s : step ≡ 12 / r.ratio * each = e ∙ ap (λ (m : ℕ). 12 / m * each) (sym g.ratio) in
      let u : i / 12 * step ≡ i / 12 * (12 / r.ratio) * each = ap (λ (m : ℕ). i / 12 * m) s ∙ sym (mul_assoc (i / 12) (12 / r.ratio) each) in
      let v : (a + i - r.from.0) / r.ratio * each ≡ (a + i % 12 - r.from.0) / r.ratio * each + i / 12 * (12 / r.ratio) * each = ap (λ (m : ℕ). m * each) w ∙ add-mul ((a + i % 12 - r.from.0) / r.ratio) (i / 12 * (12 / r.ratio)) each in
      omega arith

  pub line_reach : (i : ℕ) → i < b - a → place_in t step i c + 4 ≤ length d
  line_reach i h =
      let f = g.from in
      let p = line_place i in
      let w = g.wide in
      let m = quotients (a + i - r.from.0) (b - 1 - r.from.0) r.ratio g.turns.some (omega arith) in
      let v = mul-le-mul_right {m = (a + i - r.from.0) / r.ratio} {n = (b - 1 - r.from.0) / r.ratio} each m in
      omega arith

  pub line_shown : (un s : List ℕ) (i : ℕ) → 1 ≤ each → i < b - a → image_from un s d r (a + i) ≡ four_in each d (place_in t step i c)
  unfolding area_from
  line_shown un s i some h =
      let f = g.from in
      let o = g.to in
      let read = g.read in
      let n : r.read ≢ 0 = λ (m : r.read ≡ 0). omega arith in
      sym (area_is un s d r (a + i) (omega arith) (omega arith) n)
      ∙ ap (λ (m : ℕ). four_in m d (r.at + (a + i - r.from.0) / r.ratio * m)) read
      ∙ ap (four_in each d) (sym (line_place i))

module _ (each : ℕ) (d ns t lit : List ℕ) (pairs f a b step : ℕ) (g : Tabled each d ns t lit pairs f a b step) where
  pub tabled_reach : (sel : List ℕ) (p q : ℕ) → q ≤ b - a → q ≤ length sel → pairs ≤ 7 → ((i : ℕ) → p ≤ i → i < q → get_or sel i 0 ≢ dark → f ≤ get_or sel i 0)
      → ((i : ℕ) → p ≤ i → i < q → get_or sel i 0 ≢ dark → get_or sel i 0 ≤ pairs) → Reaches sel t d step p q
  tabled_reach sel p q h n few low high =
      record {
        long = n;
        table = g.long;
        few = λ i u v. ⊎_elim
            (λ (z : get_or sel i 0 ≡ dark). omega arith)
            (λ (z : get_or sel i 0 ≡ dark → ⊥). let m = high i u v z in omega arith)
            (says_else (says_eq (get_or sel i 0) dark));
        there = λ i u v. ⊎_elim
            (λ (z : get_or sel i 0 ≡ dark).
            subst (λ (m : ℕ). place_in t step i m + 4 ≤ length d) (sym z)
            (line_reach each d t dark g.first g.first.ratio a b step g.ready g.dark g.divides g.steps i (omega arith)))
            (λ (z : get_or sel i 0 ≡ dark → ⊥).
            line_reach each d t (get_or sel i 0) (row_for lit ns g.first (get_or sel i 0)) g.first.ratio a b step (g.fit (get_or sel i 0) (low i u v z) (high i u v z))
            (g.lined (get_or sel i 0) (low i u v z) (high i u v z)) g.divides g.steps i (omega arith))
            (says_else (says_eq (get_or sel i 0) dark));
      }

  pub tabled_shown : (un s : List ℕ) (c i : ℕ) → f ≤ c → c ≤ pairs → get_or lit c 0 ≡ 1 → i < b - a → image_from un s d (row_at ns (c * 2 + 1)) (a + i) ≡ four_in each d (place_in t step i c)
  unfolding row_for
  tabled_shown un s c i p q e h =
      let own : row_for lit ns g.first c ≡ row_at ns (c * 2 + 1) = rw (eq-eqb (get_or lit c 0) 1 e) refl in
      line_shown each d t c (row_at ns (c * 2 + 1)) g.first.ratio a b step (subst (λ (r : Row). Ready each d r g.first.ratio a b) own (g.fit c p q))
      (subst (λ (r : Row). Lined each t c r a) own (g.lined c p q)) g.divides g.steps un s i g.some h

  pub tabled_step : step ≤ 36
  tabled_step =
      let m = mul-le-mul {n₁ = 12 / g.first.ratio} {m₁ = each} {n₂ = 12} {m₂ = 3} (div-le_self 12 g.first.ratio) g.most in
      let e = g.steps in
      omega arith
