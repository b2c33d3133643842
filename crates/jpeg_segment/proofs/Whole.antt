-- A whole segment has the room that its length says: a law of the definition alone.
-- Assumes nothing.
use Prim.Native.Nat.{ℕ, ◌+◌}
use mathlib.Core.List.{List}
use mathlib.Core.Path.{◌≡◌, refl, sym, ◌∙◌}
use native.Mathlib.Omega.{arith}
use lib.ListN.{length}
use lib.Dec.{ltb}
use borrow.Author.Tests.{ltb-false}
use Rattle.laws.proofs.Cases.{cond_with}
use Rattle.octets.specs.Octets.{be16_at}
use Rattle.std.specs.Prelude.{Result, Ok, Err}
use Rattle.jpeg_rules.specs.declared.Fault.{Fault}
use Rattle.jpeg_rules.specs.Walk.{seg_of}
use Rattle.jpeg_segment.specs.Room.{Room}

abbrev pub Roomy : List ℕ → ℕ → ℕ → Result ℕ Fault → Type 0
Roomy s n least (Ok next) = Room s n least next
Roomy s n least (Err f) = Unit {0}

pub roomy : (s : List ℕ) (n least : ℕ) → Roomy s n least (seg_of s n least)
unfolding seg_of
roomy s n least =
    cond_with (Roomy s n least) (ltb (length s) (n + 2)) (λ _. tt) λ _.
    cond_with (Roomy s n least) (ltb (be16_at s n) least) (λ _. tt) λ b.
    cond_with (Roomy s n least) (ltb (length s) (n + be16_at s n)) (λ _. tt) λ c.
    record { ends = refl; enough = omega (arith, ltb-false (be16_at s n) least b); fits = ltb-false _ _ c }

pub room : (s : List ℕ) (n least next : ℕ) {g : Result ℕ Fault} → g ≡ seg_of s n least → g ≡ Ok next → Room s n least next
room s n least next z b = rw (sym z ∙ b) at (roomy s n least)
