-- What the functions' proofs cite: for a store, a turn or an end of a loop, and a return, one law whose premises are the facts that stand there.
-- Assumes nothing.
use mathlib.Core.Path.{◌≡◌, ◌∙◌, sym}
use mathlib.Core.Bool.{true, false}
use mathlib.Core.List.{List, append_assoc}
use Prim.Native.Nat.{ℕ, ◌+◌, ◌-◌, ◌≤◌, ◌<◌}
use native.Mathlib.Nat.{add-zero, add_assoc}
use native.Mathlib.Omega.{arith}
use lib.ListN.{length, get_or, take, drop, drop_of_length-le}
use lib.Seq.{sets, sets-eq}
use borrow.Author.Tests.{le-leb, lt-leb, eq-eqb, ne_eqb}
use Rattle.octets.specs.Octets.{put_at, begins, stands_at}
use Rattle.octets.proofs.Laws.{drop_octet}

-- stores one after the other
pub sets_put : (d : List ℕ) (at : ℕ) (v : List ℕ) → at + length v ≤ length d → sets d at v ≡ put_at d at v
unfolding put_at
sets_put d at v h = sets-eq v d at h ∙ append_assoc (take at d) v (drop (at + length v) d)

-- the comparison
module _ (s : List ℕ) (at : ℕ) (want : List ℕ) where
  pub stands_past : length s < at → false ≡ stands_at s at want
  unfolding stands_at
  stands_past h = simp (lt-leb (at + length want) (length s) (omega arith))

  pub stands_short : length s - at < length want → false ≡ stands_at s at want
  unfolding stands_at
  stands_short h = simp (lt-leb (at + length want) (length s) (omega arith))

  pub stands_from : at ≤ length s → length want ≤ length s - at → stands_at s at want ≡ begins (drop (at + 0) s) (drop 0 want)
  unfolding stands_at
  stands_from h g = simp (add-zero, le-leb (at + length want) (length s) (omega arith))

  module _ (k : ℕ) (e : stands_at s at want ≡ begins (drop (at + k) s) (drop k want)) (h : at + length want ≤ length s) where
    pub stands_on : k < length want → get_or s (at + k) 0 ≡ get_or want k 0 → stands_at s at want ≡ begins (drop (at + (k + 1)) s) (drop (k + 1) want)
    unfolding begins
    stands_on g q = e ∙ simp (drop_octet s (at + k) (omega arith), drop_octet want k g, eq-eqb _ _ q, add_assoc)

    pub stands_differs : k < length want → (get_or s (at + k) 0 ≡ get_or want k 0 → ⊥) → false ≡ stands_at s at want
    unfolding begins
    stands_differs g q = sym (e ∙ simp (drop_octet s (at + k) (omega arith), drop_octet want k g, ne_eqb _ _ q))

    pub stands_ends : length want ≤ k → true ≡ stands_at s at want
    unfolding begins
    stands_ends g = sym (e ∙ simp (drop_of_length-le want g))

pub ruleset turns = (stands_past, stands_short, stands_from, stands_on, stands_differs, stands_ends, arith)
