-- One law for each way out of the functions of a segment: its premises are what is known there.
-- Assumes nothing.
use Prim.Native.Nat.{ℕ, ◌+◌, ◌-◌, ◌≤◌, ◌<◌}
use mathlib.Core.Bool.{Bool, true, false}
use mathlib.Core.List.{List}
use mathlib.Core.Path.{◌≡◌, sym, ◌∙◌}
use native.Mathlib.Omega.{arith}
use lib.ListN.{length}
use borrow.Author.Tests.{eq-eqb, ne_eqb, le-leb, lt-leb, lt-ltb, le-ltb}
use Rattle.octets.specs.Octets.{be16_at, stands_at}
use Rattle.jpeg_rules.specs.declared.Fault.{Fault}
use Rattle.jpeg_rules.specs.declared.Fault.TheVariants.{Short, BadLength, BadRes}
use Rattle.jpeg_rules.specs.declared.Reach.{Reach}
use Rattle.std.specs.Prelude.{Option, Some, None, Result, Ok, Err}
use Rattle.std.specs.declared.ops.ControlFlow.TheVariants.{Continue}
use Rattle.jpeg_rules.specs.Grammar.{g3fax}
use Rattle.jpeg_rules.specs.Walk.{seg_of, resolves, tag_of, moved, refused, segment_of}
use Rattle.jpeg_segment.specs.Room.{Room}
use Rattle.jpeg_segment.proofs.Whole.{room}

-- ---- seg_at
module _ (s : List ℕ) (n least : ℕ) where
  pub seg_short : length s - n < 2 → Err (Short n) ≡ seg_of s n least
  unfolding seg_of
  seg_short h = simp (lt-ltb (length s) (n + 2) (omega arith))

  module _ {size : ℕ} (l : 2 ≤ length s - n) (e : size ≡ be16_at s n) where
    pub seg_small : size < least → Err (BadLength n) ≡ seg_of s n least
    unfolding seg_of
    seg_small h = simp (le-ltb (length s) (n + 2) (omega arith), lt-ltb (be16_at s n) least (omega arith))

    pub seg_open : least ≤ size → length s - n < size → Err (Short (n + 2)) ≡ seg_of s n least
    unfolding seg_of
    seg_open m h =
        simp (
          le-ltb (length s) (n + 2) (omega arith),
          le-ltb (be16_at s n) least (omega arith),
          lt-ltb (length s) (n + be16_at s n) (omega arith),
        )

    pub seg_whole : least ≤ size → size ≤ length s - n → Ok (n + size) ≡ seg_of s n least
    unfolding seg_of
    seg_whole m h =
        simp (
          e,
          le-ltb (length s) (n + 2) (omega arith),
          le-ltb (be16_at s n) least (omega arith),
          le-ltb (length s) (n + be16_at s n) (omega arith),
        )

pub ruleset seg_laws = (seg_short, seg_small, seg_open, seg_whole)

-- ---- tag_of
module _ (s : List ℕ) (st : Reach) (c n : ℕ) where
  pub tag_other : (c ≡ 0xE1 → ⊥) → None ≡ tag_of s st c n
  unfolding tag_of
  tag_other h = simp (ne_eqb c 0xE1 h)

  module _ (h : c ≡ 0xE1) where
    pub tag_second : (st.said.res ≡ 0 → ⊥) → None ≡ tag_of s st c n
    unfolding tag_of
    tag_second d = simp (eq-eqb c 0xE1 h, ne_eqb st.said.res 0 d)

    module _ (z : st.said.res ≡ 0) {next : ℕ} (y : Room s n 2 next) where
      pub tag_short : next - n < 12 → None ≡ tag_of s st c n
      unfolding tag_of
      tag_short l =
          let m : be16_at s n < 12 = omega arith in
          simp (eq-eqb c 0xE1 h, eq-eqb st.said.res 0 z, lt-leb 12 (be16_at s n) m)

      module _ (l : 12 ≤ next - n) {b : Bool} (t : b ≡ stands_at s (n + 2) g3fax) where
        long : 12 ≤ be16_at s n
        long = omega arith

        pub tag_none : b ≡ false → None ≡ tag_of s st c n
        unfolding tag_of
        tag_none f = simp (eq-eqb c 0xE1 h, eq-eqb st.said.res 0 z, le-leb 12 (be16_at s n) long, sym t ∙ f)

        pub tag_gives : {r : ℕ} → b ≡ true → r ≡ be16_at s (n + 10) → Some r ≡ tag_of s st c n
        unfolding tag_of
        tag_gives f e = simp (e, eq-eqb c 0xE1 h, eq-eqb st.said.res 0 z, le-leb 12 (be16_at s n) long, sym t ∙ f)

pub ruleset tag_laws = (tag_other, tag_second, tag_short, tag_none, tag_gives)

-- ---- segment_step
module _ (s : List ℕ) (main : ℕ) (st : Reach) (c n : ℕ) {g : Result ℕ Fault} (z : g ≡ seg_of s n 2) where
  pub segment_bad : {x : Fault} → g ≡ Err x → refused x ≡ segment_of s main st c n
  unfolding segment_of
  segment_bad b = simp (sym z ∙ b)

  module _ {next : ℕ} (b : g ≡ Ok next) {t : Option ℕ} (e : t ≡ tag_of s st c n) where
    pub segment_plain : {u : Reach} → t ≡ None → u ≡ moved st next st.said.res → Continue u ≡ segment_of s main st c n
    unfolding segment_of
    segment_plain p m = rw m (simp (sym z ∙ b, sym e ∙ p))

    module _ {r : ℕ} (p : t ≡ Some r) {f : Bool} (q : f ≡ resolves main r) where
      pub segment_gives : {u : Reach} → f ≡ true → u ≡ moved st next r → Continue u ≡ segment_of s main st c n
      unfolding segment_of
      segment_gives y m = rw m (simp (sym z ∙ b, sym e ∙ p, sym q ∙ y))

      pub segment_wrong : f ≡ false → refused (BadRes (n + 10)) ≡ segment_of s main st c n
      unfolding segment_of
      segment_wrong y = simp (sym z ∙ b, sym e ∙ p, sym q ∙ y)

pub ruleset segment_laws = (room, segment_bad, segment_plain, segment_gives, segment_wrong)
