-- What the proofs of this crate cite: for each way out of a function one law, over what is known there.
-- Assumes nothing.
use Prim.Native.Nat.{ℕ, ◌+◌, ◌*◌, ◌≤◌}
use mathlib.Core.Path.{◌≡◌, refl, sym, ◌∙◌}
use mathlib.Core.Bool.{Bool, true, false}
use mathlib.Core.List.{List, [], ◌∷◌}
use Rattle.std.specs.Int.{from_be_bytes, w16}
use lib.ListN.{length, get_or, get_or-eq_default}
use lib.Dec.{leb}
use borrow.Author.Rules.{rules}
use Rattle.octets.specs.Octets.{be16_at, be32_at}
use Rattle.answers.specs.declared.Refusal.{Refusal}
use Rattle.answers.specs.declared.Refusal.TheVariants.{Short}
use Rattle.std.specs.Prelude.{Result, Ok, Err, ⊤}
use Rattle.read_field.specs.Judged.{held_of, field_of}

-- ---- octet, two, four
pub octet_none : (s : List ℕ) (at : ℕ) → length s ≤ at → 0 ≡ get_or s at 0
octet_none s at h = sym (get_or-eq_default s 0 h)

-- two octets, the high one first
pub two_bytes : (a b : ℕ) → from_be_bytes w16 (a ∷ b ∷ []) ≡ a * 256 + b
two_bytes a b = refl

pub two_made : (s : List ℕ) (at a b r : ℕ) → a ≡ get_or s at 0 → b ≡ get_or s (at + 1) 0 → r ≡ from_be_bytes w16 (a ∷ b ∷ []) → r ≡ be16_at s at
unfolding be16_at
two_made s at a b r e f g = g ∙ two_bytes a b ∙ simp (f, e)

pub four_made : (s : List ℕ) (at a b : ℕ) → a ≡ be16_at s at → b ≡ be16_at s (at + 2) → a * 65536 + b ≡ be32_at s at
unfolding be32_at
four_made s at a b e f = simp (e, f)

-- ---- held and field
pub held_refused : (r : Result ⊤ Refusal) (a : Refusal) (good : Bool) (refusal : Refusal) → r ≡ Err a → Err a ≡ held_of r good refusal
unfolding held_of
held_refused r a good refusal e = simp e

pub held_good : (r : Result ⊤ Refusal) (good : Bool) (refusal : Refusal) → r ≡ Ok tt → good ≡ true → Ok tt ≡ held_of r good refusal
unfolding held_of
held_good r good refusal e g = simp (e, g)

pub held_bad : (r : Result ⊤ Refusal) (good : Bool) (refusal : Refusal) → r ≡ Ok tt → good ≡ false → Err refusal ≡ held_of r good refusal
unfolding held_of
held_bad r good refusal e g = simp (e, g)

pub field_made : (s : List ℕ) (r : Result ⊤ Refusal) (at n : ℕ) (good : Bool) (refusal : Refusal) (b : Bool) (q p : Result ⊤ Refusal) → b ≡ leb (at + n) (length s)
    → q ≡ held_of r b (Short at) → p ≡ held_of q good refusal → p ≡ field_of s r at n good refusal
unfolding field_of
field_made s r at n good refusal b q p e f g = g ∙ simp (f, e)

pub ruleset leaves = (rules, octet_none, two_made, four_made, held_refused, held_good, held_bad, field_made)
