-- What a whole segment gives to the reader of its body.
use Rattle.std.specs.Prelude.{ℕ, ◌+◌, ◌≤◌, List, ◌≡◌, length}
use Rattle.octets.specs.Octets.{be16_at}

-- the segment whose length stands at n ends where that says, has at least so many octets from there, and ends within the list
pub record Room (s : List ℕ) (n least next : ℕ) : Type 0 where
  pub ends : next ≡ n + be16_at s n
  pub enough : n + least ≤ next
  pub fits : next ≤ length s
