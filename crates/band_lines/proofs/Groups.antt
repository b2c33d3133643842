-- A line of a group is decided by its sample of layer 2: what is painted with layer 2 all 0, or all 1.
-- Assumes nothing.
use Prim.Native.Nat.{ℕ, zero, suc, ◌+◌, ◌-◌, ◌*◌, ◌/◌, ◌%◌, ◌≤◌, ◌<◌}
use native.Mathlib.Nat.{div-one, add-mul}
use native.Mathlib.Omega.{arith}
use mathlib.Core.Path.{◌≡◌, refl, sym, ap, ap₂, subst, ◌∙◌}
use mathlib.Core.Logic.{◌≢◌, ⊎_elim}
use mathlib.Core.Bool.{cond}
use mathlib.Core.List.{List}
use lib.ListN.{length, get_or}
use lib.Dec.{eqb}
use borrow.Author.Tests.{eq-eqb, ne_eqb}
use Rattle.laws.proofs.Says.{says_eq, says_else}
use Rattle.std.specs.Prelude.{Option}
use Rattle.sheet_rules.specs.declared.Colour.{Colour}
use Rattle.pixel_rules.specs.declared.Mask.{Mask}
use Rattle.pixel_rules.specs.Place.{scale}
use Rattle.pixel_rules.specs.Samples.{bit_of}
use Rattle.pixel_rules.specs.Decide.{Stack, pair_step, decide}
use Rattle.line_fetch.specs.declared.Row.{Row}
use Rattle.line_fetch.specs.Rows.{row_size, row_at, row_mask, row_image, MaskFits}
use Rattle.line_fetch.proofs.Laws.{mask_after, mask_read_lem}
use Rattle.line_pixel.specs.Rows.{row_stack}
use Rattle.line_rows.specs.Rows.{row_out}
use Rattle.line_lanes.specs.declared.Lane.{Lane}
use Rattle.line_lanes.specs.Lanes.{lane_at, row_from}
use Rattle.line_lanes.proofs.Laws.{row_crossed}
use Rattle.lane_groups.specs.Groups.{Grouped, Steady}
use Rattle.band_group.specs.Group.{bit_rows}
use Rattle.band_group.proofs.Rows.{row_own, row_other}

-- what is decided hangs on the samples alone
pub decide_same : (st ot : Stack) (n : ℕ) → ((j : ℕ) → 1 ≤ j → j ≤ n → st.mask j ≡ ot.mask j) → ((j : ℕ) → j ≤ n → st.image j ≡ ot.image j) → decide st n ≡ decide ot n
unfolding decide
decide_same st ot zero f g = g 0 (omega arith)
decide_same st ot (suc n) f g =
    ap (λ (o : Mask). pair_step o (decide st n) (st.image (suc n))) (f (suc n) (omega arith) (omega arith))
    ∙ ap₂ (λ (p q : Option Colour). pair_step (ot.mask (suc n)) p q) (decide_same st ot n (λ j a b. f j a (omega arith)) (λ j a. g j (omega arith))) (g (suc n) (omega arith))

-- ---- layer 2 in each line

module _ (w : Lane) (y g width : ℕ) (k : Steady w y g width) where
  abbrev rowed : ℕ → Row
  rowed at = record { from = w.from; to = w.to; factor = w.factor; read = w.read; at = at; other = w.other; ratio = w.ratio }

  steady_row : (t : ℕ) → t < g → row_from w (record { 0 = y + t }) ≡ rowed (w.start + (y + t - w.top.0) * w.step)
  unfolding scale
  steady_row t h =
      let a = k.top in
      let b = k.bottom in
      let e : (y + t - w.top.0) / w.ratio ≡ y + t - w.top.0 = ap (λ (n : ℕ). (y + t - w.top.0) / n) k.single ∙ div-one (y + t - w.top.0) in
      sym (row_crossed w (record { 0 = y + t }) (scale w.ratio w.top (record { 0 = y + t })) (w.start + (y + t - w.top.0) * w.step) (omega arith) (omega arith) refl
      (ap (λ (n : ℕ). w.start + n * w.step) (sym e)))

  -- line by line its samples stand one step further on
  pub steady_at : (t : ℕ) → t < g → (row_from w (record { 0 = y + t })).at ≡ (row_from w (record { 0 = y })).at + t * w.step
  steady_at t h =
      let a = k.top in
      let z : y + 0 ≡ y = omega arith in
      let s : y + t - w.top.0 ≡ y - w.top.0 + t = omega arith in
      let p : (y - w.top.0 + t) * w.step ≡ (y - w.top.0) * w.step + t * w.step = add-mul (y - w.top.0) t w.step in
      let q : (row_from w (record { 0 = y })).at ≡ w.start + (y - w.top.0) * w.step
      = ap (λ (r : Row). r.at) (ap (λ (i : ℕ). row_from w (record { 0 = i })) (sym z) ∙ steady_row 0 (omega arith)) ∙ ap (λ (i : ℕ). w.start + (i - w.top.0) * w.step) z in
      ap (λ (r : Row). r.at) (steady_row t h) ∙ ap (λ (i : ℕ). w.start + i * w.step) s ∙ ap (λ (i : ℕ). w.start + i) p ∙ omega (arith, q)

  pub steady_bit : (d : List ℕ) (t x : ℕ) → t < g → x < width → row_mask d (row_from w (record { 0 = y + t })) (record { 0 = x }) ≡ bit_of (get_or d ((row_from w (record { 0 = y })).at + t * w.step + x) 0)
  unfolding scale
  steady_bit d t x h b =
      let e = steady_row t h in
      let f = k.from in
      let o = k.to in
      let i : (x - w.from.0) / w.ratio ≡ x = ap₂ (λ (m n : ℕ). (x - m) / n) k.from k.single ∙ div-one (x - 0) ∙ omega arith in
      ap (λ (r : Row). row_mask d r (record { 0 = x })) e
      ∙ sym (mask_read_lem d (rowed (w.start + (y + t - w.top.0) * w.step)) (record { 0 = x }) (bit_of (get_or d (w.start + (y + t - w.top.0) * w.step + x) 0)) (scale w.ratio w.from (record { 0 = x }))
      (omega arith) (omega arith) k.read refl (ap (λ (n : ℕ). bit_of (get_or d (w.start + (y + t - w.top.0) * w.step + n) 0)) (sym i)))
      ∙ ap (λ (n : ℕ). bit_of (get_or d (n + x) 0)) (sym (ap (λ (r : Row). r.at) e) ∙ steady_at t h)

  -- and they are there
  pub steady_samples : (d : List ℕ) (t : ℕ) → t < g → 0 < width → MaskFits d (row_from w (record { 0 = y + t })) → (row_from w (record { 0 = y })).at + t * w.step + width ≤ length d
  unfolding scale
  steady_samples d t h b f =
      let e = steady_row t h in
      let o = k.to in
      let z = k.from in
      let i : (width - 1 - w.from.0) / w.ratio ≡ width - 1 = ap₂ (λ (m n : ℕ). (width - 1 - m) / n) k.from k.single ∙ div-one (width - 1 - 0) ∙ omega arith in
      let c = (subst (MaskFits d) e f).there (record { 0 = width - 1 }) (omega arith) (omega arith) k.read in
      let v : w.start + (y + t - w.top.0) * w.step ≡ (row_from w (record { 0 = y })).at + t * w.step = sym (ap (λ (r : Row). r.at) e) ∙ steady_at t h in
      omega (arith, i, c, v)

-- ---- a pixel of a line of the group

out_bit : (d : List ℕ) (n x : ℕ) → row_mask d (row_out n) (record { 0 = x }) ≡ bit_of n
out_bit d n x = sym (mask_after d (row_out n) (record { 0 = x }) (bit_of n) (omega arith) refl)

module _ (s d ns rows lines : List ℕ) (n y most g width t x : ℕ) (k : Grouped ns n y most g) (w : Steady (lane_at ns 2) y g width) (room : 2 * row_size ≤ length rows) (h : t < g) (b : x < width)
    (er : (l : ℕ) → 1 ≤ l → l ≤ n → row_at rows l ≡ row_from (lane_at ns l) (record { 0 = y })) (el : (l : ℕ) → 1 ≤ l → l ≤ n → row_at lines l ≡ row_from (lane_at ns l) (record { 0 = y + t }))
    (three : 3 ≤ n) (odd : n % 2 ≡ 1) where
  abbrev bit : ℕ
  bit = get_or d ((row_at rows 2).at + t * (lane_at ns 2).step + x) 0

  -- all rows but layer 2's are those of the first line, and layer 2 has the bit
  bit_row : (v : ℕ) → bit_of bit ≡ bit_of v → decide (row_stack s d lines (record { 0 = x })) (n / 2) ≡ decide (row_stack s d (bit_rows rows v) (record { 0 = x })) (n / 2)
  bit_row v e =
      decide_same (row_stack s d lines (record { 0 = x })) (row_stack s d (bit_rows rows v) (record { 0 = x })) (n / 2)
      (λ j p q. ⊎_elim
      (λ (z : j ≡ 1).
      let o : j * 2 ≡ 2 = omega arith in
      let a : (row_at rows 2).at ≡ (row_from (lane_at ns 2) (record { 0 = y })).at = ap (λ (r : Row). r.at) (er 2 (omega arith) (omega arith)) in
      ap (λ (i : ℕ). row_mask d (row_at lines i) (record { 0 = x })) o ∙ ap (λ (r : Row). row_mask d r (record { 0 = x })) (el 2 (omega arith) (omega arith))
      ∙ steady_bit (lane_at ns 2) y g width w d t x h b ∙ ap (λ (i : ℕ). bit_of (get_or d (i + t * (lane_at ns 2).step + x) 0)) (sym a) ∙ e ∙ sym (out_bit d v x)
      ∙ ap (λ (r : Row). row_mask d r (record { 0 = x })) (sym (row_own rows v room)) ∙ ap (λ (i : ℕ). row_mask d (row_at (bit_rows rows v) i) (record { 0 = x })) (sym o))
      (λ (z : j ≡ 1 → ⊥). ap (λ (r : Row). row_mask d r (record { 0 = x })) (same (j * 2) (omega arith) (omega arith) (λ o. z (omega arith))))
      (says_else (says_eq j 1)))
      (λ j p. ap (λ (r : Row). row_image s d r (record { 0 = x })) (same (j * 2 + 1) (omega arith) (omega arith) (λ o. absurd (omega arith))))
    where
      same : (l : ℕ) → 1 ≤ l → l ≤ n → l ≢ 2 → row_at lines l ≡ row_at (bit_rows rows v) l
      same l p q o = el l p q ∙ k.row l p q o t h ∙ sym (er l p q) ∙ sym (row_other rows v room l p o)

  bit_zero : bit ≡ 0 → bit_of bit ≡ bit_of 0
  bit_zero e = ap bit_of e

  bit_one : bit ≢ 0 → bit_of bit ≡ bit_of 1
  unfolding bit_of
  bit_one z = rw (ne_eqb bit 0 z) refl

  pub group_pixel : decide (row_stack s d lines (record { 0 = x })) (n / 2)
      ≡ cond (eqb bit 0) (decide (row_stack s d (bit_rows rows 0) (record { 0 = x })) (n / 2)) (decide (row_stack s d (bit_rows rows 1) (record { 0 = x })) (n / 2))
  group_pixel =
      ⊎_elim (λ (z : bit ≡ 0). bit_row 0 (bit_zero z) ∙ rw (eq-eqb bit 0 z) refl) (λ (z : bit ≡ 0 → ⊥). bit_row 1 (bit_one z) ∙ rw (ne_eqb bit 0 z) refl) (says_else (says_eq bit 0))
