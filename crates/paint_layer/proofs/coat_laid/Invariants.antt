use Rattle.std.proofs.Common.{ℕ, ◌-◌, ◌≤◌, List}
use Rattle.paint_words.specs.Words.{octets_of}
use Rattle.paint_coat.specs.Coat.{Coated}
use Rattle.paint_image.specs.Image.{image_from}
use Rattle.paint_layer.specs.Layer.{Ruled}
use Rattle.paint_layer.proofs.coat_laid.Given as goal

abbrev pub invariant-loop-p : goal.invariant-loop-p
invariant-loop-p g l =
    (l.x ≤ l.p) × (l.p ≤ l.y)
    × ((f : ℕ → List ℕ → List ℕ)
    → Ruled f (image_from (octets_of l.u) l.s l.d l.r) (λ i w v k. goal.F-post g l.rule i w v k) l.x l.y
    → Coated f l.initial.out l.x l.p l.out)

abbrev pub decreases-loop-p : goal.decreases-loop-p
decreases-loop-p g l = l.y - l.p
