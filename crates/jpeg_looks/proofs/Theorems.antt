-- What is proved of how far the JPEG walk looked. The statements are for the reader; how each is shown stands in the files beside this one.
-- Assumes nothing.
use Prim.Native.Nat.{ℕ, ◌+◌, ◌≤◌, ◌<◌}
use mathlib.Core.Path.{◌≡◌, subst}
use mathlib.Core.List.{List}
use Rattle.laws.proofs.Cases.{clash}
use Rattle.octets.specs.Octets.{Octets}
use Rattle.octets.proofs.Agree.{Agree}
use Rattle.jpeg_rules.specs.declared.Said.{Said}
use Rattle.jpeg_rules.specs.declared.Fault.{Fault}
use Rattle.jpeg_rules.specs.declared.Fault.TheVariants.{Short}
use Rattle.std.specs.Prelude.{Ok, Err}
use Rattle.jpeg_rules.specs.Walk.{walk_of}
use Rattle.jpeg_rules.proofs.Within.{place_of}
use Rattle.jpeg_looks.proofs.Look.{walk_look, walk_beyond}
use Rattle.jpeg_looks.proofs.Hangs.{NearWalk, walk_hangs}

-- ---- a walk that is not Short is decided by the octets up to where it looked: every list that agrees so far is walked alike

pub walk_decided : (s : List ℕ) → Octets s → (start main : ℕ) → ((p : ℕ) → walk_of s start main ≡ Err (Short p) → ⊥) → (t : List ℕ)
    → Agree (walk_look s start main) s t → walk_of t start main ≡ walk_of s start main
walk_decided s o start main u = (walk_hangs s o start main u).hangs.same

-- where it ended, that is its end; where it was refused, past the place and not far beyond, fill apart
pub look_end : (s : List ℕ) → Octets s → (start main e : ℕ) (said : Said) → walk_of s start main ≡ Ok (e, said) → walk_look s start main ≡ e
unfolding NearWalk
look_end s o start main e said q = subst (NearWalk s (walk_look s start main)) q (walk_hangs s o start main (λ p z. clash cc)).near

pub look_near : (s : List ℕ) → Octets s → (start main : ℕ) (f : Fault) → walk_of s start main ≡ Err f → ((p : ℕ) → f ≡ Short p → ⊥)
    → (place_of f < walk_look s start main) × (walk_look s start main ≤ place_of f + walk_beyond s f)
unfolding NearWalk
look_near s o start main f q u = subst (NearWalk s (walk_look s start main)) q (walk_hangs s o start main (λ p z. u p cc)).near
