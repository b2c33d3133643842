-- One law for each way out of the functions that make a table: its premises are what is known there.
-- Assumes nothing.
use Prim.Native.Nat.{ℕ, zero, suc, ◌+◌, ◌-◌, ◌*◌, ◌/◌, ◌%◌, ◌≤◌, ◌<◌}
use native.Mathlib.Omega.{arith}
use native.Mathlib.Nat.{mul-le-mul_right, add-mul, one-mul, div-add-mod', mod-lt}
use mathlib.Core.Path.{◌≡◌, refl, sym, ap, ap₂, subst, ◌∙◌}
use mathlib.Core.Logic.{◌≢◌, ⊎_elim}
use mathlib.Core.Bool.{Bool, true, false, cond}
use mathlib.Core.List.{List}
use lib.ListN.{length, get_or, set, length-set}
use lib.Seq.{get_or-set_same, get_or-set_other}
use lib.Dec.{eqb, ltb}
use mir.Val.{Fits}
use mir.Syntax.{w64}
use borrow.Author.Rules.{rules}
use Rattle.laws.proofs.Cases.{clash}
use Rattle.laws.proofs.Says.{says_lt, says_eq, says_else}
use Rattle.pixel_rules.specs.Place.{scale}
use Rattle.line_fetch.specs.declared.Row.{Row}
use Rattle.line_fetch.specs.Rows.{row_size, row_at, Turns, ImageFits}
use Rattle.line_pixel.specs.Rows.{RowsFit}
use Rattle.paint_rules.specs.Floor.{dark}
use Rattle.paint_image.specs.Image.{SampleAt}
use Rattle.paint_gather.specs.Gather.{entry}
use Rattle.paint_table.specs.Table.{place_of, Ready, Lined, Placed, row_for, Column, Tabled}

-- ---- a row that is ready

module _ (each : ℕ) (d : List ℕ) (r : Row) (k a b : ℕ) where
  pub not_ready : false ≡ true → Ready each d r k a b
  not_ready e = clash cc

  module _ (s : List ℕ) (i : ℕ) (f : ImageFits s d r) (some : 1 ≤ each) (read : r.read ≡ each) (from : r.from.0 ≤ a) (h : a < b) (to : b ≤ r.to.0) (g : SampleAt r (b - 1) i) where
    last_there : r.at + i * each + each ≤ length d
    unfolding scale
    last_there =
        let x = f.there (record { 0 = b - 1 }) (omega arith) (omega arith) (λ (z : r.read ≡ 0). omega arith) in
        let z : r.at + i * each + each ≡ r.at + (b - 1 - r.from.0) / r.ratio * r.read + r.read = ap₂ (λ (m n : ℕ). r.at + m * n + n) g.is (sym read) in
        omega arith

    pub last_fits : length d < 18446744073709551616 → Fits w64 (i * each)
    last_fits n = let t = last_there in record { fits = omega arith }

    pub last_adds : length d < 18446744073709551616 → Fits w64 (r.at + i * each)
    last_adds n = let t = last_there in record { fits = omega arith }

    pub last_within : r.at + i * each ≤ length d
    last_within = let t = last_there in omega arith

    pub is_ready : r.ratio ≡ k → ltb 3 (length d - (r.at + i * each)) ≡ true → Ready each d r k a b
    is_ready ratio e =
        let v = (says_lt 3 (length d - (r.at + i * each))).told e in
        let w : r.at + i * each + 4 ≤ length d = omega arith in
        record {
          turns = f.turns;
          read = read;
          ratio = ratio;
          from = from;
          to = to;
          wide = subst (λ (m : ℕ). r.at + m * each + 4 ≤ length d) g.is w;
        }

pub ready_turns : (s d : List ℕ) (r : Row) → ImageFits s d r → Turns r
ready_turns s d r f = f.turns

pub ruleset readying = (rules, not_ready, last_fits, last_adds, last_within, is_ready, ready_turns)

-- ---- a column's places

pub quotients : (m n k : ℕ) → 0 < k → m ≤ n → m / k ≤ n / k
quotients m n k h le = ⊎_elim
    (λ (z : n / k < m / k).
    let a = mul-le-mul_right {m = n / k + 1} {n = m / k} k (omega arith) in
    let b : (n / k + 1) * k ≡ n / k * k + k = add-mul (n / k) 1 k ∙ ap (λ (x : ℕ). n / k * k + x) (one-mul k) in
    let c = div-add-mod' m k in
    let d = div-add-mod' n k in
    let e = mod-lt n h in
    absurd (omega arith))
    (λ (z : n / k < m / k → ⊥). omega arith)
    (says_else (says_lt (n / k) (m / k)))

module _ (each : ℕ) (d : List ℕ) (r : Row) (k a b : ℕ) (g : Ready each d r k a b) (room : a + 12 ≤ b) (j i : ℕ) (h : j < 12) (e : SampleAt r (a + j) i) where
  place_there : r.at + i * each + 4 ≤ length d
  place_there =
      let f = g.from in
      let w = g.wide in
      let z = e.is in
      let m : (a + j - r.from.0) / r.ratio ≤ (b - 1 - r.from.0) / r.ratio = quotients (a + j - r.from.0) (b - 1 - r.from.0) r.ratio g.turns.some (omega arith) in
      let p = mul-le-mul_right {m = (a + j - r.from.0) / r.ratio} {n = (b - 1 - r.from.0) / r.ratio} each m in
      let q : i * each ≡ (a + j - r.from.0) / r.ratio * each = ap (λ (n : ℕ). n * each) z in
      omega arith

  pub place_fits : length d < 18446744073709551616 → Fits w64 (i * each)
  place_fits n = let t = place_there in record { fits = omega arith }

  pub place_adds : length d < 18446744073709551616 → Fits w64 (r.at + i * each)
  place_adds n = let t = place_there in record { fits = omega arith }

pub record Placing (each : ℕ) (l : List ℕ) (c : ℕ) (r : Row) (a : ℕ) (t : List ℕ) (j : ℕ) : Type 0 where
  pub upto : j ≤ 12
  pub long : length t ≡ length l
  pub here : (m : ℕ) → m < j → entry t m c ≡ place_of each r a m
  pub kept : (m n : ℕ) → m < 12 → n < 16 → n ≢ c → entry t m n ≡ entry l m n

set_there : (t : List ℕ) (i v : ℕ) → i < length t → get_or (set t i v) i 0 ≡ v
set_there t i v h = get_or-set_same t i v 0 h

set_other : (t : List ℕ) (i m v : ℕ) → m ≢ i → get_or (set t i v) m 0 ≡ get_or t m 0
set_other t i m v h = get_or-set_other t i m v 0 h

module _ (each : ℕ) (l : List ℕ) (c : ℕ) (r : Row) (a : ℕ) where
  pub placing_begun : Placing each l c r a l 0
  placing_begun = record { upto = omega arith; long = refl; here = λ m h. absurd (omega arith); kept = λ m n h k z. refl }

  module _ (t : List ℕ) (j : ℕ) (p : Placing each l c r a t j) where
    pub placing_more : (i : ℕ) → j < 12 → c < 16 → 192 ≤ length l → SampleAt r (a + j) i → Placing each l c r a (set t (j * 16 + c) (r.at + i * each)) (j + 1)
    unfolding entry place_of
    placing_more i h k w e =
        let n = p.long in
        record {
          upto = omega arith;
          long = length-set t (j * 16 + c) (r.at + i * each) ∙ n;
          here = λ m q. ⊎_elim
              (λ (z : m ≡ j).
              ap (λ (x : ℕ). get_or (set t (j * 16 + c) (r.at + i * each)) (x * 16 + c) 0) z ∙ set_there t (j * 16 + c) (r.at + i * each) (omega arith)
              ∙ ap (λ (x : ℕ). r.at + x * each) e.is ∙ ap (λ (x : ℕ). r.at + (a + x - r.from.0) / r.ratio * each) (sym z))
              (λ (z : m ≡ j → ⊥). set_other t (j * 16 + c) (m * 16 + c) (r.at + i * each) (λ (y : m * 16 + c ≡ j * 16 + c). z (omega arith)) ∙ p.here m (omega arith))
              (says_else (says_eq m j));
          kept = λ m q x y z. set_other t (j * 16 + c) (m * 16 + q) (r.at + i * each) (λ (u : m * 16 + q ≡ j * 16 + c). z (omega arith)) ∙ p.kept m q x y z;
        }

    pub placing_end : 12 ≤ j → Placed each l c r a t
    placing_end h = record { long = p.long; here = record { there = λ m q. p.here m (let u = p.upto in omega arith) }; kept = p.kept }

pub column_room : (j c n : ℕ) → j < 12 → c < 16 → 192 ≤ n → j * 16 + c < n
column_room j c n h k w = omega arith

pub ruleset placings = (rules, place_fits, place_adds, placing_begun, placing_more, placing_end, column_room)

-- ---- the first row that is ready

module _ (s d ns : List ℕ) (pairs c : ℕ) (g : RowsFit s d ns pairs) (h : c ≤ pairs) where
  there : (c : ℕ) → c ≤ pairs → ((c * 2 + 1) * row_size ≤ length ns) × (ImageFits s d (row_at ns (c * 2 + 1)))
  there zero h = (let r = g.room in omega arith, g.image)
  there (suc c) h = ((g.pair (suc c) (omega arith) h).room, (g.pair (suc c) (omega arith) h).image)

  pub row_room : (c * 2 + 1) * row_size ≤ length ns
  row_room = (there c h).0

  pub row_fits : (r : Row) → r ≡ row_at ns (c * 2 + 1) → ImageFits s d r
  row_fits r e = subst (ImageFits s d) (sym e) (there c h).1

-- ---- a column

module _ (each : ℕ) (d ns : List ℕ) (first : Row) (c a b : ℕ) (l lit t : List ℕ) (p : 16 ≤ length lit) (h : c < 16) where
  lit_here : (v : ℕ) → get_or (set lit c v) c 0 ≡ v
  lit_here v = get_or-set_same lit c v 0 (omega arith)

  pub column_own : (r : Row) (z : Bool) → r ≡ row_at ns (c * 2 + 1) → (z ≡ true → Ready each d r first.ratio a b) → z ≡ true → Placed each l c r a t → Column each d ns first c a b l lit t (set lit c 1)
  unfolding row_for
  column_own r z e k w g =
      let q : r ≡ row_for (set lit c 1) ns first c = e ∙ sym (ap (λ (x : ℕ). cond (eqb x 1) (row_at ns (c * 2 + 1)) first) (lit_here 1)) in
      record {
        long = g.long;
        lits = length-set lit c 1;
        here = subst (λ (x : Row). Lined each t c x a) q g.here;
        ready = subst (λ (x : Row). Ready each d x first.ratio a b) q (k w);
        kept = g.kept;
        same = λ m n. get_or-set_other lit c m 1 0 n;
      }

  pub column_first : Ready each d first first.ratio a b → Placed each l c first a t → Column each d ns first c a b l lit t (set lit c 0)
  unfolding row_for
  column_first k g =
      let q : first ≡ row_for (set lit c 0) ns first c = sym (ap (λ (x : ℕ). cond (eqb x 1) (row_at ns (c * 2 + 1)) first) (lit_here 0)) in
      record {
        long = g.long;
        lits = length-set lit c 0;
        here = subst (λ (x : Row). Lined each t c x a) q g.here;
        ready = subst (λ (x : Row). Ready each d x first.ratio a b) q k;
        kept = g.kept;
        same = λ m n. get_or-set_other lit c m 0 0 n;
      }

pub ready_said : (each : ℕ) (d : List ℕ) (r : Row) (k a b : ℕ) (z : Bool) → (z ≡ true → Ready each d r k a b) → z ≡ true → Ready each d r k a b
ready_said each d r k a b z f e = f e

pub ruleset columns = (rules, row_room, row_fits, column_own, column_first, ready_said)

-- ---- all columns

pub record Tabling (each : ℕ) (d ns : List ℕ) (first : Row) (pairs f a b : ℕ) (l lit₀ t lit : List ℕ) (c : ℕ) : Type 0 where
  pub from : f ≤ c
  pub upto : c ≤ pairs + 1
  pub long : length t ≡ length l
  pub lits : length lit ≡ length lit₀
  pub dark : Lined each t dark first a
  pub lined : (m : ℕ) → f ≤ m → m < c → Lined each t m (row_for lit ns first m) a
  pub fit : (m : ℕ) → f ≤ m → m < c → Ready each d (row_for lit ns first m) first.ratio a b

module _ (each : ℕ) (d ns : List ℕ) (first : Row) (pairs f a b : ℕ) (l lit₀ : List ℕ) where
  pub tabling_begun : f ≤ pairs → Lined each l dark first a → Tabling each d ns first pairs f a b l lit₀ l lit₀ f
  tabling_begun h g =
      record { from = omega arith; upto = omega arith; long = refl; lits = refl; dark = g; lined = λ m p q. absurd (omega arith); fit = λ m p q. absurd (omega arith) }

  module _ (t lit : List ℕ) (c : ℕ) (g : Tabling each d ns first pairs f a b l lit₀ t lit c) where
    pub tabling_more : (n new : List ℕ) → c ≤ pairs → pairs ≤ 7 → Column each d ns first c a b t lit n new → Tabling each d ns first pairs f a b l lit₀ n new (c + 1)
    unfolding row_for
    tabling_more n new h few k =
        let from = g.from in
        record {
          from = omega arith;
          upto = omega arith;
          long = k.long ∙ g.long;
          lits = k.lits ∙ g.lits;
          dark = record { there = λ j q. k.kept j dark q (omega arith) (λ (z : dark ≡ c). omega arith) ∙ g.dark.there j q };
          lined = λ m p q. ⊎_elim
              (λ (z : m ≡ c). subst (λ (x : ℕ). Lined each n x (row_for new ns first x) a) (sym z) k.here)
              (λ (z : m ≡ c → ⊥).
              let e : row_for lit ns first m ≡ row_for new ns first m = ap (λ (x : ℕ). cond (eqb x 1) (row_at ns (m * 2 + 1)) first) (sym (k.same m z)) in
              record { there = λ j i. k.kept j m i (omega arith) z ∙ (g.lined m p (omega arith)).there j i ∙ ap (λ (x : Row). place_of each x a j) e })
              (says_else (says_eq m c));
          fit = λ m p q. ⊎_elim
              (λ (z : m ≡ c). subst (λ (x : ℕ). Ready each d (row_for new ns first x) first.ratio a b) (sym z) k.ready)
              (λ (z : m ≡ c → ⊥).
              let e : row_for lit ns first m ≡ row_for new ns first m = ap (λ (x : ℕ). cond (eqb x 1) (row_at ns (m * 2 + 1)) first) (sym (k.same m z)) in
              subst (λ (x : Row). Ready each d x first.ratio a b) e (g.fit m p (omega arith)))
              (says_else (says_eq m c));
        }

    pub tabling_end : pairs < c → 192 ≤ length l → 16 ≤ length lit₀ → 12 % first.ratio ≡ 0 → Ready each d first first.ratio a b → 1 ≤ each → each ≤ 3
        → Tabled each d ns t lit pairs f a b (12 / first.ratio * each)
    tabling_end h w v k r some most =
        let n = g.long in
        let m = g.lits in
        record {
          first = first;
          long = omega arith;
          lits = omega arith;
          divides = k;
          some = some;
          most = most;
          steps = refl;
          ready = r;
          dark = g.dark;
          lined = λ c p q. g.lined c p (omega arith);
          fit = λ c p q. g.fit c p (omega arith);
        }

pub ruleset tablings = (rules, tabling_begun, tabling_more, tabling_end)
