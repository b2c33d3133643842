-- A walk that ends is compared with its record; the octets that are walked are the record's own.
-- Assumes nothing.
use Prim.Native.Nat.{ℕ, ◌+◌, ◌-◌}
use native.Mathlib.Omega.{arith}
use mathlib.Core.Path.{◌≡◌, refl, ap, ◌∙◌}
use mathlib.Core.Bool.{Bool, ◌&&◌}
use mathlib.Core.List.{List}
use lib.ListN.{take, drop}
use lib.Dec.{eqb}
use Rattle.jpeg_rules.specs.declared.Said.{Said}
use Rattle.jpeg_rules.specs.declared.Fault.{Fault}
use Rattle.std.specs.Prelude.{Result, Ok}
use Rattle.jpeg_rules.specs.Walk.{walk_of}
use Rattle.jpeg_rules.specs.Said.{record_said}
use Rattle.sheet_rules.specs.declared.Record.{Record}
use Rattle.write_rules.specs.Layer.{ends_as, agrees}

pub ends_compared : (w : Result (ℕ × Said) Fault) (r : Record) (next n : ℕ) (said : Said) → w ≡ Ok (next, said) → n ≡ (record_said r).components
    → eqb next r.len && eqb said.width r.width && eqb said.height r.height && eqb said.res r.res && eqb said.components n ≡ ends_as w r
ends_compared w r next n said e f = rw (e, f) refl

pub data_walked : (d : List ℕ) (main : ℕ) (r : Record) {w : Result (ℕ × Said) Fault} {b : Bool} (to : ℕ) → to ≡ r.start + r.len
    → w ≡ walk_of (take (to - r.start) (drop r.start d)) 0 main → b ≡ ends_as w r → b ≡ agrees d main r
unfolding agrees
data_walked d main r to e f g =
    let n : to - r.start ≡ r.len = omega arith in
    g ∙ ap (λ (x : Result (ℕ × Said) Fault). ends_as x r) (f ∙ ap (λ (k : ℕ). walk_of (take k (drop r.start d)) 0 main) n)
