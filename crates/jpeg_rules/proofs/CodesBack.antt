-- The sentence of a code's class: the other way round of `coded_class`. Apart from CodesBy.antt, so that an edit of `codes_by` there is refused by itself.
-- Assumes nothing.
use Prim.Native.Nat.{ℕ, ◌<◌}
use native.Mathlib.Omega.{arith}
use mathlib.Core.Path.{◌≡◌, sym, subst}
use Rattle.jpeg_rules.specs.declared.Class.{Class}
use Rattle.jpeg_rules.specs.declared.Class.TheVariants.{Segment}
use Rattle.jpeg_rules.specs.Marker.{class_of}
use Rattle.jpeg_rules.proofs.Codes.{Coded}
use Rattle.jpeg_rules.proofs.CodesBy.{codes_by}

-- that the code is an octet is wanted for the class of all that lies in no row
pub class_coded : (c : ℕ) (k : Class) → (k ≡ Segment → c < 256) → class_of c ≡ k → Coded k c
unfolding class_of
class_coded c k o =
    codes_by c (λ x. x ≡ k → Coded k c) (λ x s e. subst (λ (y : Class). Coded y c) e s) (λ h e. let l = o (sym e) in absurd (omega arith))
