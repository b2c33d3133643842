-- The parts of a row: of which nothing is known, or which are painted piece by piece.
-- Assumes nothing.
use Prim.Native.Nat.{ℕ, ◌+◌, ◌≤◌, ◌<◌}
use native.Mathlib.Omega.{arith}
use mathlib.Core.Path.{◌≡◌, sym, ap, subst, ◌∙◌}
use mathlib.Core.Logic.{⊎_elim}
use mathlib.Core.List.{List}
use Rattle.laws.proofs.Says.{says_lt, says_else}
use Rattle.sheet_rules.specs.declared.Colour.{Colour}
use Rattle.std.specs.Prelude.{None}
use Rattle.picture_rules.specs.Line.{four_of}
use Rattle.paint_coat.specs.Coat.{Coated, over, flat}
use Rattle.paint_coat.proofs.Coats.{coated_none, coated_chain, coated_as}
use Rattle.paint_image.specs.Image.{Within}
use Rattle.paint_dark.specs.Dark.{Lost}
use Rattle.paint_layers.specs.Layers.{decided}

module _ (u : Colour) (s d ns : List ℕ) (pairs a b : ℕ) where
  pub part_dark : (un l e : List ℕ) → un ≡ four_of u None → Lost s d ns pairs a b → Coated (over (flat un)) l a b e → Coated (decided u s d ns pairs) l a b e
  unfolding over flat decided
  part_dark un l e eu g c = coated_as (over (flat un)) (decided u s d ns pairs) l e a b (λ x o p q. eu ∙ ap (four_of u) (sym (g.lost x p q))) c

  pub record Piecing (l out : List ℕ) (x : ℕ) : Type 0 where
    pub past : a ≤ x
    pub upto : x ≤ b
    pub done : Coated (decided u s d ns pairs) l a x out

  pub piecing_begun : (l : List ℕ) → a ≤ b → Piecing l l a
  piecing_begun l h = record { past = omega arith; upto = h; done = coated_none (decided u s d ns pairs) l a a (omega arith) }

  pub piecing_more : (l out new : List ℕ) (x e n : ℕ) → Piecing l out x → Within n x b e → Coated (decided u s d ns pairs) out x e new → Piecing l new e
  piecing_more l out new x e n c w g =
      let p = c.past in
      let q = w.low in
      record { past = omega arith; upto = w.high; done = coated_chain (decided u s d ns pairs) l out new a x e p q c.done g }

  pub piecing_end : (l out : List ℕ) (x : ℕ) → Piecing l out x → b ≤ x → Coated (decided u s d ns pairs) l a b out
  piecing_end l out x c h = let p = c.upto in let z : x ≡ b = omega arith in subst (λ (i : ℕ). Coated (decided u s d ns pairs) l a i out) z c.done

-- ---- a piece has one pixel at least, and n at most

pub part_some : (x w n r : ℕ) → 0 < n → Within (x + n) x w r → x < w → x < r
part_some x w n r k g h =
    ⊎_elim (λ (z : x < r). z) (λ (z : x < r → ⊥). let l = g.low in let p = g.behind x (omega arith) h in absurd (omega arith)) (says_else (says_lt x r))

pub part_most : (x w n r : ℕ) → Within (x + n) x w r → r ≤ x + n
part_most x w n r g =
    ⊎_elim (λ (z : x + n < r). let p = g.before (x + n) (omega arith) z in absurd (omega arith)) (λ (z : x + n < r → ⊥). omega arith) (says_else (says_lt (x + n) r))
