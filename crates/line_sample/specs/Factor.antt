-- Dividing by multiplying: a processor takes as long for one division as for all else of a pixel.
--
--   factor_of k     2^48 / k, rounded up: so many of these are a quotient by k
--   Steps k f o p  f is the factor of k, and the sample of the place p is near enough that it serves
use Rattle.std.specs.Prelude.{ℕ, ◌+◌, ◌/◌, ◌≤◌, ◌<◌, ◌≡◌}
use Rattle.pixel_rules.specs.declared.MainPos.{MainPos}
use Rattle.pixel_rules.specs.Place.{scale}

unfoldable pub factor_of : ℕ → ℕ
factor_of k = (281474976710655 + k) / k

pub record Steps (k f : ℕ) (o p : MainPos) : Type 0 where
  pub some : 0 < k
  pub small : k < 65536
  pub factor : f ≡ factor_of k
  pub past : o.0 ≤ p.0
  pub near : (scale k o p).0 < 65536
