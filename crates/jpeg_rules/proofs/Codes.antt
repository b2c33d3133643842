-- The walk's table of codes beside the grammar's sentences: each class has the codes of its sentence. And what follows for the code of a marker that
-- may stand in a layer.
-- Assumes nothing.
--
--   Coded k c     the sentence of a class
--   Lies rows n   a code lies in the row of this number, or in none that there is, and behind the rows before it
--   kind_at rows n the class of the row of this number
use Prim.Native.Nat.{ℕ, zero, suc, ◌≤◌, ◌<◌}
use native.Mathlib.Omega.{arith}
use mathlib.Core.Path.{◌≡◌, refl, sym, ap, subst, ◌∙◌}
use mathlib.Core.Logic.{◌≢◌, inl, inr, ⊎_elim}
use mathlib.Core.Bool.{Bool, cond}
use mathlib.Core.List.{List, [], ◌∷◌}
use Rattle.laws.proofs.Cases.{clash}
use Rattle.laws.proofs.Says.{says_eq, says_le, says_within, says_else, says_fails}
use Rattle.jpeg_rules.specs.declared.Class.{Class}
use Rattle.jpeg_rules.specs.declared.Class.TheVariants.{Alone, Frame, Scan, End, Wrong, Segment}
use Rattle.jpeg_rules.specs.Codes.{IsFrame, IsFault, HasLength}
use Rattle.jpeg_rules.specs.Marker.{Row, row, codes, class_in, class_of}
use Rattle.jpeg_rules.specs.Grammar.{DataRun}

abbrev pub Coded : Class → ℕ → Type 0
Coded Alone c = c ≡ 0x01
Coded Frame c = IsFrame c
Coded Scan c = c ≡ 0xDA
Coded End c = c ≡ 0xD9
Coded Wrong c = IsFault c
Coded Segment c = HasLength c

-- ---- the table

unfoldable pub kind_at : List Row → ℕ → Class
kind_at [] n = Segment
kind_at (row low high k ∷ rows) zero = k
kind_at (row low high k ∷ rows) (suc n) = kind_at rows n

module _ (c : ℕ) where
  in_row : (low high : ℕ) (k : Class) (rows : List Row) → low ≤ c → c ≤ high → class_in (row low high k ∷ rows) c ≡ k
  unfolding class_in
  in_row low high k rows l h = ap (λ (b : Bool). cond b k (class_in rows c)) ((says_within low high c).shown (l, h))

  behind_row : (low high : ℕ) (k : Class) (rows : List Row) → high < c → class_in (row low high k ∷ rows) c ≡ class_in rows c
  unfolding class_in
  behind_row low high k rows h =
      ap (λ (b : Bool). cond b k (class_in rows c)) (says_fails (says_within low high c) (λ z. let l = z.1 in omega arith))

  unfoldable pub Lies : List Row → ℕ → Type 0
  Lies [] n = Unit {0}
  Lies (row low high k ∷ rows) zero = (low ≤ c) × (c ≤ high)
  Lies (row low high k ∷ rows) (suc n) = (high < c) × Lies rows n

  pub lies_class : (rows : List Row) (n : ℕ) → Lies rows n → class_in rows c ≡ kind_at rows n
  unfolding Lies kind_at class_in
  lies_class [] n l = refl
  lies_class (row low high k ∷ rows) zero l = in_row low high k rows l.0 l.1
  lies_class (row low high k ∷ rows) (suc n) l = behind_row low high k rows l.0 ∙ lies_class rows n l.1

  -- each row begins where the one before it ended
  pub rows_by : (P : Class → Type 0) {low high : ℕ} {k : Class} (rows : List Row) → low ≤ c → (c ≤ high → P k) → (high < c → P (class_in rows c))
      → P (class_in (row low high k ∷ rows) c)
  rows_by P {low = low} {high = high} {k = k} rows l here on =
      ⊎_elim (λ (h : c ≤ high). subst P (sym (in_row low high k rows l h)) (here h))
      (λ (h : c ≤ high → ⊥). let g : high < c = omega arith in subst P (sym (behind_row low high k rows g)) (on g))
      (says_else (says_le c high))

-- ---- a class and its sentence

pub coded_class : (c : ℕ) (k : Class) → Coded k c → class_of c ≡ k
unfolding class_of Lies kind_at
coded_class c Alone e = ap class_of e
coded_class c Frame f =
    ⊎_elim (λ (h : c ≤ 0xC3). lies_class c codes 3 (omega arith))
    (λ (h : c ≤ 0xC3 → ⊥).
    ⊎_elim (λ (i : c ≤ 0xC7). lies_class c codes 5 (omega arith))
    (λ (i : c ≤ 0xC7 → ⊥).
    ⊎_elim (λ (j : c ≤ 0xCB). lies_class c codes 7 (omega arith)) (λ (j : c ≤ 0xCB → ⊥). lies_class c codes 9 (omega arith))
    (says_else (says_le c 0xCB)))
    (says_else (says_le c 0xC7)))
    (says_else (says_le c 0xC3))
coded_class c Scan e = ap class_of e
coded_class c End e = ap class_of e
coded_class c Wrong (inl h) = lies_class c codes 10 (omega arith)
coded_class c Wrong (inr (inl e)) = ap class_of e
coded_class c Wrong (inr (inr (inl e))) = ap class_of e
coded_class c Wrong (inr (inr (inr (inl e)))) = ap class_of e
coded_class c Wrong (inr (inr (inr (inr h)))) = lies_class c codes 2 (omega arith)
coded_class c Segment (inl e) = ap class_of e
coded_class c Segment (inr (inl e)) = ap class_of e
coded_class c Segment (inr (inr (inl e))) = ap class_of e
coded_class c Segment (inr (inr (inr h))) = lies_class c codes 14 (omega arith)

-- a code has one sentence
pub coded_once : (c : ℕ) (j k : Class) → Coded j c → Coded k c → j ≡ k
coded_once c j k x y = sym (coded_class c j x) ∙ coded_class c k y

-- ---- a class by fewer tests, where others have failed before

pub class_low : (c : ℕ) → c ≢ 0x01 → c ≤ 0xBF → class_of c ≡ Wrong
unfolding class_of Lies kind_at
class_low c n h = ⊎_elim (λ (e : c ≡ 0x00). ap class_of e) (λ (d : c ≢ 0x00). lies_class c codes 2 (omega arith)) (says_else (says_eq c 0x00))

pub class_restart : (c : ℕ) → 0xD0 ≤ c → c ≤ 0xD8 → class_of c ≡ Wrong
unfolding class_of Lies kind_at
class_restart c l h =
    ⊎_elim (λ (i : c ≤ 0xD7). lies_class c codes 10 (omega arith)) (λ (i : c ≤ 0xD7 → ⊥). lies_class c codes 11 (omega arith))
    (says_else (says_le c 0xD7))

pub class_rest : (c : ℕ) → 0xD8 < c → c ≢ 0xD9 → c ≢ 0xDA → c ≢ 0xFF → class_of c ≡ Segment
unfolding class_of Lies kind_at
class_rest c l e d f =
    ⊎_elim (λ (h : c ≤ 0xFE). lies_class c codes 14 (omega arith)) (λ (h : c ≤ 0xFE → ⊥). lies_class c codes 16 (omega arith))
    (says_else (says_le c 0xFE))

-- ---- the code of a marker that may stand in a layer

-- a code that has another sentence is none of a fault
class_right : (c : ℕ) (k : Class) → k ≢ Wrong → Coded k c → IsFault c → ⊥
class_right c k n x w = n (coded_once c k Wrong x w)

pub alone_right : IsFault 0x01 → ⊥
alone_right = class_right 0x01 Alone (λ z. clash cc) refl

pub scan_right : IsFault 0xDA → ⊥
scan_right = class_right 0xDA Scan (λ z. clash cc) refl

pub end_right : IsFault 0xD9 → ⊥
end_right = class_right 0xD9 End (λ z. clash cc) refl

pub frame_right : (c : ℕ) → IsFrame c → IsFault c → ⊥
frame_right c = class_right c Frame (λ z. clash cc)

pub segment_right : (c : ℕ) → HasLength c → IsFault c → ⊥
segment_right c = class_right c Segment (λ z. clash cc)

-- FF is the code of no marker
pub right_other : (c : ℕ) → (IsFault c → ⊥) → c ≢ 0xFF
right_other c n e = n (inr (inr (inr (inl e))))

pub frame_other : (c : ℕ) → IsFrame c → c ≢ 0xFF
frame_other c f = right_other c (frame_right c f)

pub segment_other : (c : ℕ) → HasLength c → c ≢ 0xFF
segment_other c h = right_other c (segment_right c h)

-- it ends scan data, whatever its fill
pub right_stops : (fill c : ℕ) → (IsFault c → ⊥) → DataRun fill c → ⊥
right_stops fill c n (inl k) = n (inr (inr (inl k.0)))
right_stops fill c n (inr k) = n (inl k)
