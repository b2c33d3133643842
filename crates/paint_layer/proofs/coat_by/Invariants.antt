use Rattle.std.proofs.Common.{◌≡◌, ℕ, ◌+◌, ◌<◌, List}
use Rattle.paint_words.specs.Words.{octets_of}
use Rattle.paint_coat.specs.Coat.{Coated}
use Rattle.paint_layer.proofs.coat_by.Given as goal

abbrev pub invariant-loop-x : goal.invariant-loop-x
invariant-loop-x g l =
    (f : ℕ → List ℕ → List ℕ) → ((x w r : ℕ) → x < l.n → goal.F-post g l.rule x w r → octets_of r ≡ f (l.a + x) (octets_of w))
    → Coated f l.initial.out l.a (l.a + l.x) l.out
