-- One law for each way out of the functions that put pixels: its premises are what is known there.
-- Assumes nothing.
use Prim.Native.Nat.{ℕ, suc, ◌+◌, ◌*◌, ◌≤◌, ◌<◌}
use native.Mathlib.Omega.{arith}
use mathlib.Core.Path.{◌≡◌, refl, sym, ap, ap₂, ◌∙◌}
use mathlib.Core.List.{List, [], ◌∷◌, ◌++◌}
use lib.ListN.{length, set}
use borrow.Author.Rules.{rules}
use Rattle.octets.specs.Octets.{put_at}
use Rattle.octets.proofs.Laws.{put_nothing, put_put, put_length}
use Rattle.octets.proofs.Turns.{sets_put}
use Rattle.sheet_rules.specs.declared.Colour.{Colour}
use Rattle.pixel_rules.specs.declared.MainPos.{MainPos}
use Rattle.std.specs.Prelude.{Option, Some, None}
use Rattle.picture_rules.specs.Line.{four_of, pixels}
use Rattle.picture_rules.proofs.Fours.{length_four, length_pixels}

-- ---- the four octets of a pixel

module _ (u : Colour) (d : List ℕ) (at : ℕ) (p : Option Colour) (h : at + 4 ≤ length d) where
  stores : (a b c e : ℕ) → set (set (set (set d at a) (at + 1) b) (at + 2) c) (at + 3) e ≡ put_at d at (a ∷ b ∷ c ∷ e ∷ [])
  stores a b c e =
      let i : at + 1 ≡ suc at = omega arith in
      let j : at + 2 ≡ suc (suc at) = omega arith in
      let k : at + 3 ≡ suc (suc (suc at)) = omega arith in
      rw (i, j, k) (sets_put d at (a ∷ b ∷ c ∷ e ∷ []) h)

  pub four_seen : (c : Colour) → p ≡ Some c → set (set (set (set d at c.c0) (at + 1) c.c1) (at + 2) c.c2) (at + 3) 1 ≡ put_at d at (four_of u p)
  unfolding four_of
  four_seen c e = stores c.c0 c.c1 c.c2 1 ∙ rw e refl

  pub four_unseen : p ≡ None → set (set (set (set d at u.c0) (at + 1) u.c1) (at + 2) u.c2) (at + 3) 0 ≡ put_at d at (four_of u p)
  unfolding four_of
  four_unseen e = stores u.c0 u.c1 u.c2 0 ∙ rw e refl

-- ---- the loop over the pixels

pub record Painting (u : Colour) (out₀ : List ℕ) (f : MainPos → Option Colour) (width : ℕ) (out : List ℕ) (x : ℕ) : Type 0 where
  pub within : x ≤ width
  pub room : width * 4 ≤ length out₀
  pub long : length out ≡ length out₀
  pub painted : out ≡ put_at out₀ 0 (pixels u f x)

module _ (u : Colour) (out₀ : List ℕ) (f : MainPos → Option Colour) (width : ℕ) where
  pub painting_none : width * 4 ≤ length out₀ → Painting u out₀ f width out₀ 0
  unfolding pixels
  painting_none h = record { within = omega arith; room = h; long = refl; painted = sym (put_nothing out₀ 0) }

  pub painting_room : (out : List ℕ) (x : ℕ) → Painting u out₀ f width out x → x < width → x * 4 + 4 ≤ length out
  painting_room out x g h = let r = g.room in let l = g.long in omega arith

  pub painting_more : (out new : List ℕ) (x : ℕ) (p : Option Colour) → Painting u out₀ f width out x → x < width → p ≡ f (record { 0 = x })
      → new ≡ put_at out (x * 4) (four_of u p) → Painting u out₀ f width new (x + 1)
  unfolding pixels
  painting_more out new x p g h e q =
      let l = length_pixels u f x in
      let r = g.room in
      let k = g.long in
      let z : x + 1 ≡ suc x = omega arith in
      let lz : x * 4 ≡ 0 + length (pixels u f x) = omega arith in
      let four = length_four u p in
      record {
        within = omega arith;
        room = g.room;
        long = ap length q ∙ put_length out (x * 4) (four_of u p) (omega arith) ∙ g.long;
        painted =
            q ∙ ap₂ (λ (o : List ℕ) (a : ℕ). put_at o a (four_of u p)) g.painted lz
            ∙ put_put out₀ 0 (pixels u f x) (four_of u p) (omega arith)
            ∙ ap (λ (s : Option Colour). put_at out₀ 0 (pixels u f x ++ four_of u s)) e
            ∙ ap (λ (n : ℕ). put_at out₀ 0 (pixels u f n)) (sym z);
      }

  pub painting_end : (out : List ℕ) (x : ℕ) → Painting u out₀ f width out x → width ≤ x → out ≡ put_at out₀ 0 (pixels u f width)
  painting_end out x g h = let w = g.within in let z : x ≡ width = omega arith in g.painted ∙ ap (λ (n : ℕ). put_at out₀ 0 (pixels u f n)) z

pub ruleset fours = (rules, four_seen, four_unseen)

pub ruleset painting = (rules, painting_none, painting_room, painting_more, painting_end)
