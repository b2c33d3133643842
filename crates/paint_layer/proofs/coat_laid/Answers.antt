use Rattle.std.proofs.Common.{rules, ◌≡◌, ℕ, ◌+◌, subst}
use native.Mathlib.Omega.{arith}
use Rattle.paint_coat.specs.Coat.{Coated}
use Rattle.paint_coat.proofs.Coats.{coated_chain}
use Rattle.paint_layer.proofs.Parts.{up_to, laid_ruled}
use Rattle.paint_layer.proofs.coat_laid.Goals as goal

pub loop-p-preserved : goal.loop-p-preserved
loop-p-preserved g c = (
  omega arith,
  omega arith,
  λ f h.
      let t = laid_ruled f _ (λ i w v k. goal.F-post g c.args.rule.now i w v k) _ _ h c.loop-p.p (c.loop-p.p + c.min.result) _ _ (omega arith) (omega arith) c.lay_image.ensures in
      coated_chain f _ _ _ _ c.loop-p.p _ (omega arith) (omega arith) (c.loop-p.invariant.2 f h)
      (up_to _ _ _ _ (omega arith) f (c.coat_by.ensures f (λ i w k b q. search (rules, t)))),
)

pub returns : goal.returns
returns g c =
    λ f h.
    let z : c.loop-p.p ≡ c.args.y = omega arith in subst (λ (i : ℕ). Coated f c.args.out.now c.args.x i c.loop-p.out) z (c.loop-p.invariant.2 f h)
