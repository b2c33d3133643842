-- The part of a stripe's head behind its ident, as it is put.
use Rattle.std.specs.Prelude.{ℕ, List, ◌∷◌, ◌++◌}
use Rattle.octets.specs.Octets.{octets32}
use Rattle.sheet_rules.specs.declared.Record.{Record}
use Rattle.sheet_rules.specs.Judge.{coded}
use Rattle.write_rules.specs.Mode1.{type_by}

abbrev pub stripe_fields : Record → Record → Record → List ℕ
stripe_fields a b c =
    type_by (coded a) (coded b) (coded c) ∷ a.base0 ∷ a.base1 ∷ a.base2 ∷ c.base0 ∷ c.base1 ∷ c.base2
    ∷ octets32 a.x ++ (octets32 a.y ++ (octets32 c.x ++ (octets32 c.y ++ (octets32 b.height ++ octets32 b.len))))
