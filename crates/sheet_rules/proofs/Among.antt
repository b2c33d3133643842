-- Lists of records with one more at the end: who is among them, which is where, and the heights.
-- Assumes nothing.
use Prim.Native.Nat.{ℕ, zero, suc, ◌+◌, ◌<◌}
use native.Mathlib.Omega.{arith}
use native.Mathlib.Nat.{add_assoc}
use mathlib.Core.Path.{◌≡◌, refl, sym, ap, subst, ◌∙◌}
use mathlib.Core.Logic.{⊎_elim}
use mathlib.Core.List.Memᴰ
use mathlib.Core.List.{List, [], ◌∷◌, ◌++◌, Memᴰ}
use lib.ListN.{length, get_or, length-append, get_or-append}
use lib.Seq.{get_or_at}
use Rattle.sheet_rules.specs.declared.Record.{Record}
use Rattle.sheet_rules.specs.Record.{blank, nth, sum_of, height_in}
use Rattle.sheet_rules.specs.Sentences.{Among, heights}

pub sum_append : (f : Record → ℕ) (ps qs : List Record) → sum_of f (ps ++ qs) ≡ sum_of f ps + sum_of f qs
unfolding sum_of
sum_append f [] qs = omega arith
sum_append f (p ∷ ps) qs = ap (λ (n : ℕ). f p + n) (sum_append f ps qs) ∙ sym (add_assoc (f p) (sum_of f ps) (sum_of f qs))

pub heights_append : (ps qs : List Record) → heights (ps ++ qs) ≡ heights ps + heights qs
unfolding heights
heights_append ps qs = sum_append height_in ps qs

-- what stands at a place of a list is among it, of records and of all else
pub get_d_among : {A : Type 0} (z : A) (l : List A) (i : ℕ) → i < length l → Memᴰ (get_or l i z) l
get_d_among z [] i h = absurd (omega arith)
get_d_among z (a ∷ l) zero h = Memᴰ.head refl
get_d_among z (a ∷ l) (suc i) h = Memᴰ.tail (get_d_among z l i (omega arith))

pub nth_among : (rs : List Record) (i : ℕ) → i < length rs → Among (nth rs i) rs
nth_among rs i h = get_d_among blank rs i h

module _ (rs : List Record) (r : Record) where
  pub length_more : length (rs ++ (r ∷ [])) ≡ length rs + 1
  length_more = length-append rs (r ∷ [])

  pub nth_old : (i : ℕ) → i < length rs → nth (rs ++ (r ∷ [])) i ≡ nth rs i
  nth_old i h = get_or-append rs (r ∷ []) blank i h

  pub nth_new : (i : ℕ) → i ≡ length rs → nth (rs ++ (r ∷ [])) i ≡ r
  nth_new i e = get_or_at rs r [] blank i (sym e)

  pub sum_more : (f : Record → ℕ) → sum_of f (rs ++ (r ∷ [])) ≡ sum_of f rs + f r
  unfolding sum_of
  sum_more f = let z : f r + 0 ≡ f r = omega arith in sum_append f rs (r ∷ []) ∙ ap (λ (n : ℕ). sum_of f rs + n) z

  pub heights_more : heights (rs ++ (r ∷ [])) ≡ heights rs + height_in r
  unfolding heights
  heights_more = sum_more height_in

  pub among_new : Among r (rs ++ (r ∷ []))
  among_new = Memᴰ.append_right rs (Memᴰ.head refl)

  pub among_old : (x : Record) → Among x rs → Among x (rs ++ (r ∷ []))
  among_old x m = Memᴰ.append_left (r ∷ []) m

  -- what holds of each record and of the new one holds of each
  pub all_more : (P : Record → Type 0) → ((x : Record) → Among x rs → P x) → P r → (x : Record) → Among x (rs ++ (r ∷ [])) → P x
  all_more P old new x m =
      ⊎_elim (λ k. old x k) (λ k. subst P (sym (Memᴰ.eq_of_singleton k)) new) (Memᴰ.append_cases rs m)

  pub pair_more : (R : Record → Record → Type 0) → ((x y : Record) → Among x rs → Among y rs → R x y)
      → ((x : Record) → Among x rs → R x r) → ((y : Record) → Among y rs → R r y) → R r r
      → (x y : Record) → Among x (rs ++ (r ∷ [])) → Among y (rs ++ (r ∷ [])) → R x y
  pair_more R old left right new x y m k =
      all_more (λ z. R x z)
      (λ z j. all_more (λ w. R w z) (λ w i. old w z i j) (right z j) x m)
      (all_more (λ w. R w r) left new x m)
      y k
