-- What the start of page says, from the octets at their places.
use Rattle.std.specs.Prelude.{ℕ, ◌%◌, List, get_or}
use Rattle.octets.specs.Octets.{be16_at, be32_at}
use Rattle.segment_rules.specs.Rules.{mode1}
use Rattle.start_rules.specs.declared.Head.{Head}

-- the width is judged before: it is below 65,536
abbrev pub head_at : List ℕ → Head
head_at s = record { rules = mode1; mask = get_or s 12 0; image = get_or s 13 0; main = be16_at s 14; width = be32_at s 16 % 65536 }
