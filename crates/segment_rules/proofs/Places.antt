-- Where the ident of a segment stands, four octets before its end. Apart from Begin.antt, so that an edit of it is refused by itself.
-- Assumes nothing.
use Prim.Native.Nat.{ℕ, ◌+◌, ◌-◌}
use native.Mathlib.Omega.{arith}
use mathlib.Core.Path.{◌≡◌}

pub at_ident : (at : ℕ) → at + 2 + 2 + 4 - 4 ≡ at + 4
at_ident at = omega arith
