-- What the functions' proofs cite. Assumes nothing.
use mathlib.Core.Path.{◌≡◌, refl, ap, ◌∙◌}
use mathlib.Core.List.{List, ◌++◌, append_assoc}
use Prim.Native.Nat.{ℕ, ◌+◌, ◌-◌, ◌≤◌, ◌<◌, ◌/◌, ◌%◌}
use native.Mathlib.Numerals.{add-one}
use native.Mathlib.Omega.{arith}
use lib.ListN.{length, get_or, set, take}
use lib.Seq.{paste, paste-zero, paste-suc, take-length}
use borrow.Author.Rules.{set_long}
use borrow.Rule.Slice.PartMut.{put_mid, post_of, Post-is}
use Rattle.std.specs.Int.{w16, w32, to_be_bytes}
use Rattle.octets.specs.Octets.{octets16, octets32, put_at}

-- a part that is written whole
pub part_put : (d : List ℕ) (at : ℕ) (v r : List ℕ) → r ≡ v → put_mid at (at + length v - at) d r ≡ put_at d at v
unfolding put_at
part_put d at v r e = ap (λ (x : List ℕ). take at d ++ (x ++ post_of at (at + length v - at) d)) e ∙ ap (λ (x : List ℕ). take at d ++ (v ++ x)) (Post-is at (at + length v) d (omega arith))

-- the octets of a number, as the library has them
pub octets16_are : (v : ℕ) → v < 65536 → to_be_bytes w16 v ≡ octets16 v
unfolding octets16
octets16_are v h = let e : v / 256 % 256 ≡ v / 256 = omega arith in simp e refl

pub octets32_are : (v : ℕ) → v < 4294967296 → to_be_bytes w32 v ≡ octets32 v
unfolding octets32 octets16
octets32_are v h =
    let a : v / 16777216 % 256 ≡ v / 65536 / 256 = omega arith in
    let b : v / 65536 % 256 ≡ v / 65536 % 256 = refl in
    let c : v / 256 % 256 ≡ v % 65536 / 256 = omega arith in
    let e : v % 256 ≡ v % 65536 % 256 = omega arith in
    simp (a, c, e) refl

-- the copy
pub copy_on : (d₀ d : List ℕ) (at : ℕ) (v : List ℕ) (k : ℕ) → d ≡ paste d₀ at v k → at + length v ≤ length d₀ → k < length v
    → set d (at + k) (get_or v k 0) ≡ paste d₀ at v (k + 1)
copy_on d₀ d at v k e h g =
    ap (λ (l : List ℕ). set l (at + k) (get_or v k 0)) e ∙ paste-suc d₀ at v k 0 (omega arith) g ∙ rw add-one refl

pub copy_ends : (d₀ d : List ℕ) (at : ℕ) (v : List ℕ) (k : ℕ) → d ≡ paste d₀ at v k → k ≤ length v → length v ≤ k → d ≡ put_at d₀ at v
unfolding put_at
copy_ends d₀ d at v k e h g =
    let q : k ≡ length v = omega arith in
    e ∙ simp (q, take-length, append_assoc)

pub ruleset turns = (paste-zero, copy_on, copy_ends, set_long, arith)
