-- One law for each way out of the functions that group lines: its premises are what is known there.
-- Assumes nothing.
use Prim.Native.Nat.{ℕ, ◌+◌, ◌-◌, ◌*◌, ◌/◌, ◌%◌, ◌≤◌, ◌<◌, min}
use native.Mathlib.Nat.{div-eq_of_lt-le, div-add-mod', mod-lt, mod-one, add-mul, one-mul, mul-zero}
use native.Mathlib.Omega.{arith}
use mathlib.Core.Path.{◌≡◌, refl, sym, ap, subst, ◌∙◌}
use mathlib.Core.Logic.{◌≢◌, ⊎_elim}
use mathlib.Core.Bool.{true, false, ◌&&◌}
use mathlib.Core.List.{List}
use lib.ListN.{length}
use lib.Dec.{eqb, leb}
use borrow.Author.Rules.{rules}
use Rattle.laws.proofs.Cases.{clash}
use Rattle.laws.proofs.Says.{says_eq, says_le, says_lt, says_and, says_else}
use Rattle.pixel_rules.specs.Place.{scale}
use Rattle.line_fetch.specs.declared.Row.{Row}
use Rattle.line_rows.specs.Rows.{row_out}
use Rattle.line_lanes.specs.declared.Lane.{Lane}
use Rattle.line_lanes.specs.Lanes.{lane_size, lane_at, row_from, LaneFits, LanesFit}
use Rattle.line_lanes.proofs.Laws.{row_above, row_below, row_crossed}
use Rattle.lane_groups.specs.Groups.{Same, Fewer, Grouped, Steady}

-- ---- the lines of one row of samples

pub left_one : (ratio down : ℕ) → ratio ≡ 1 → (1 ≤ 1) × (down % ratio + 1 ≤ ratio)
left_one ratio down e = let z : down % ratio ≡ 0 = ap (λ (k : ℕ). down % k) e ∙ mod-one down in (omega arith, omega arith)

pub left_some : (ratio down : ℕ) → 0 < ratio → (1 ≤ ratio - down % ratio) × (down % ratio + (ratio - down % ratio) ≤ ratio)
left_some ratio down h = let m = mod-lt down h in (omega arith, omega arith)

pub left_small : (ratio down : ℕ) → 0 < ratio → down % ratio ≤ ratio
left_small ratio down h = let m = mod-lt down h in omega arith

pub ruleset leaving = (rules, left_one, left_some, left_small)

same_div : (k n t : ℕ) → 0 < k → n % k + t < k → (n + t) / k ≡ n / k
same_div k n t h g =
    let d = div-add-mod' n k in
    let e : (n / k + 1) * k ≡ n / k * k + 1 * k = add-mul (n / k) 1 k in
    let o : 1 * k ≡ k = one-mul k in
    div-eq_of_lt-le k (omega arith) (omega arith)

module _ (w : Lane) (y : ℕ) where
  pub same_above : y < w.top.0 → Same w y (w.top.0 - y)
  same_above h =
      record {
        some = omega arith;
        row = λ t k. sym (row_above w (record { 0 = y + t }) (row_out w.other) (omega arith) refl) ∙ row_above w (record { 0 = y }) (row_out w.other) h refl;
      }

  pub same_below : w.bottom.0 ≤ y → Same w y 65536
  same_below h =
      record {
        some = omega arith;
        row = λ t k. sym (row_below w (record { 0 = y + t }) (row_out w.other) (omega arith) refl) ∙ row_below w (record { 0 = y }) (row_out w.other) h refl;
      }

  rowed : ℕ → Row
  rowed at = record { from = w.from; to = w.to; factor = w.factor; read = w.read; at = at; other = w.other; ratio = w.ratio }

  crossed : (t : ℕ) → w.top.0 ≤ y + t → y + t < w.bottom.0
      → rowed (w.start + (scale w.ratio w.top (record { 0 = y + t })).0 * w.step) ≡ row_from w (record { 0 = y + t })
  unfolding rowed
  crossed t a b = row_crossed w (record { 0 = y + t }) (scale w.ratio w.top (record { 0 = y + t })) (w.start + (scale w.ratio w.top (record { 0 = y + t })).0 * w.step) a b refl refl

  -- where the places of the rows are the same, so are the rows
  same_places : (n : ℕ) → 1 ≤ n → w.top.0 ≤ y → y + n ≤ w.bottom.0
      → ((t : ℕ) → t < n → (scale w.ratio w.top (record { 0 = y + t })).0 * w.step ≡ (scale w.ratio w.top (record { 0 = y })).0 * w.step) → Same w y n
  same_places n h a b p =
      record {
        some = h;
        row = λ t k.
            let z : y + 0 ≡ y = omega arith in
            sym (crossed t (omega arith) (omega arith)) ∙ ap (λ (i : ℕ). rowed (w.start + i)) (p t k)
            ∙ subst (λ (i : ℕ). rowed (w.start + (scale w.ratio w.top (record { 0 = i })).0 * w.step) ≡ row_from w (record { 0 = i })) z (crossed 0 (omega arith) (omega arith));
      }

  pub same_step : w.top.0 ≤ y → y < w.bottom.0 → w.step ≡ 0 → Same w y (w.bottom.0 - y)
  same_step a b e =
      same_places (w.bottom.0 - y) (omega arith) (omega arith) (omega arith)
      (λ t k.
      ap (λ (i : ℕ). (scale w.ratio w.top (record { 0 = y + t })).0 * i) e ∙ mul-zero (scale w.ratio w.top (record { 0 = y + t })).0
      ∙ sym (ap (λ (i : ℕ). (scale w.ratio w.top (record { 0 = y })).0 * i) e ∙ mul-zero (scale w.ratio w.top (record { 0 = y })).0))

  pub same_sample_lem : (left n : ℕ) → LaneFits w → w.top.0 ≤ y → y < w.bottom.0 → (1 ≤ left) × ((y - w.top.0) % w.ratio + left ≤ w.ratio)
      → n ≡ min left (w.bottom.0 - y) → Same w y n
  unfolding scale
  same_sample_lem left n f a b l g =
      let s = f.some in
      let l₀ = l.0 in
      let l₁ = l.1 in
      same_places n (omega arith) (omega arith) (omega arith)
      (λ t k.
      let z : y + t - w.top.0 ≡ y - w.top.0 + t = omega arith in
      ap (λ (i : ℕ). i * w.step) (ap (λ (i : ℕ). i / w.ratio) z ∙ same_div w.ratio (y - w.top.0) t s (omega arith)))

pub ruleset lining = (rules, same_above, same_below, same_step, same_sample_lem)

-- ---- all layers

module _ (ns : List ℕ) (l y g : ℕ) where
  pub fewer_two : l ≡ 2 → 1 ≤ g → Fewer ns l y g g
  fewer_two e h = record { some = h; most = omega arith; row = λ n. absurd (n e) }

  pub fewer_same : (w : Lane) (m r : ℕ) → w ≡ lane_at ns l → 1 ≤ g → Same w y m → r ≡ min g m → Fewer ns l y g r
  fewer_same w m r e h s k =
      let o = s.some in
      record { some = omega arith; most = omega arith; row = λ n t q. subst (λ (v : Lane). row_from v (record { 0 = y + t }) ≡ row_from v (record { 0 = y })) e (s.row t (omega arith)) }

pub lane_fits : (ns : List ℕ) (l : ℕ) (w : Lane) → LaneFits (lane_at ns l) → w ≡ lane_at ns l → LaneFits w
lane_fits ns l w f e = subst LaneFits (sym e) f

pub ruleset fewering = (rules, fewer_two, fewer_same, lane_fits)

-- the layers below l are looked at
pub record Grouping (ns : List ℕ) (n y most g l : ℕ) : Type 0 where
  pub first : 1 ≤ l
  pub upto : l ≤ n + 1
  pub some : 1 ≤ g
  pub few : g ≤ most
  pub row : (i : ℕ) → 1 ≤ i → i < l → i ≢ 2 → (t : ℕ) → t < g → row_from (lane_at ns i) (record { 0 = y + t }) ≡ row_from (lane_at ns i) (record { 0 = y })

module _ (ns : List ℕ) (n y most : ℕ) where
  pub grouping_none : 1 ≤ most → Grouping ns n y most most 1
  grouping_none h = record { first = omega arith; upto = omega arith; some = h; few = omega arith; row = λ i a b. absurd (omega arith) }

  module _ (g l : ℕ) (c : Grouping ns n y most g l) where
    pub grouping_more : (r : ℕ) → l ≤ n → Fewer ns l y g r → Grouping ns n y most r (l + 1)
    grouping_more r h f =
        let m = f.most in
        let k = c.few in
        record {
          first = omega arith;
          upto = omega arith;
          some = f.some;
          few = omega arith;
          row = λ i a b d t q. ⊎_elim
              (λ (z : i < l). c.row i a z d t (omega arith))
              (λ (z : i < l → ⊥).
              let e : i ≡ l = omega arith in
              subst (λ (j : ℕ). row_from (lane_at ns j) (record { 0 = y + t }) ≡ row_from (lane_at ns j) (record { 0 = y })) (sym e) (f.row (λ o. d (e ∙ o)) t q))
              (says_else (says_lt i l));
        }

    pub grouping_end : n < l → Grouped ns n y most g
    grouping_end h = record { some = c.some; few = c.few; row = λ i a b. c.row i a (let u = c.upto in omega arith) }

    -- one line has its own rows
    pub grouping_one : g ≤ 1 → Grouped ns n y most 1
    grouping_one h =
        let s = c.some in
        let k = c.few in
        record { some = omega arith; few = omega arith; row = λ i a b d t q. let z : y + t ≡ y = omega arith in ap (λ (j : ℕ). row_from (lane_at ns i) (record { 0 = j })) z }

    pub grouping_some : 1 ≤ g
    grouping_some = c.some

    pub grouping_first : 1 ≤ l
    grouping_first = c.first

    -- with the last layer
    pub grouping_last : (r : ℕ) → n ≤ l → l ≤ n → Fewer ns l y g r → Grouped ns n y most r
    grouping_last r h k f =
        let m = f.most in
        let u = c.few in
        record {
          some = f.some;
          few = omega arith;
          row = λ i a b d t q. ⊎_elim
              (λ (z : i < l). c.row i a z d t (omega arith))
              (λ (z : i < l → ⊥).
              let e : i ≡ l = omega arith in
              subst (λ (j : ℕ). row_from (lane_at ns j) (record { 0 = y + t }) ≡ row_from (lane_at ns j) (record { 0 = y })) (sym e) (f.row (λ o. d (e ∙ o)) t q))
              (says_else (says_lt i l));
        }

pub lanes_there : (ns : List ℕ) (n l : ℕ) → LanesFit ns n → l ≤ n → l * lane_size ≤ length ns
lanes_there ns n l g h = let t = g.there in omega arith

pub lanes_fit : (ns : List ℕ) (n l : ℕ) → LanesFit ns n → 1 ≤ l → l ≤ n → LaneFits (lane_at ns l)
lanes_fit ns n l g o h = g.each l o h

pub ruleset grouping = (rules, grouping_none, grouping_more, grouping_end, grouping_one, grouping_some, grouping_first, grouping_last, lanes_there, lanes_fit)

-- ---- layer 2

module _ (w : Lane) (y g width : ℕ) where
  pub steady_is : (w.read ≡ 0 → ⊥) → y ≤ w.bottom.0
      → (eqb w.ratio 1 && eqb w.from.0 0 && leb width w.to.0 && leb w.top.0 y && leb g (w.bottom.0 - y)) ≡ true → Steady w y g width
  steady_is n b t =
      let h = (says_and (says_and (says_and (says_and (says_eq w.ratio 1) (says_eq w.from.0 0)) (says_le width w.to.0)) (says_le w.top.0 y)) (says_le g (w.bottom.0 - y))).told t in
      let k = h.1 in
      record { read = n; single = h.0.0.0.0; from = h.0.0.0.1; to = h.0.0.1; top = h.0.1; bottom = omega arith }

  pub steady_not : false ≡ true → Steady w y g width
  steady_not e = clash cc

pub ruleset steadies = (rules, steady_is, steady_not)
