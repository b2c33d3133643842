-- A sheet's records cut into stripes (01, "The sheet": stripes run 0, 1, 2 with no gap, and each has layers 1 to N).
--
--   opens q        the records q begin with layer 1
--   joining r qs   the stripes qs with one record more in front
--   stripes_of rs   the records, stripe by stripe
--   together qs    the records of stripes, one stripe after the other
--   Opened q       the records q are those of a stripe: the first is layer 1, and no other is
use Rattle.std.specs.Prelude.{◌≡◌, ◌≢◌, Bool, cond, List, [], ◌∷◌, ◌++◌, eqb}
use Rattle.sheet_rules.specs.declared.Record.{Record}
use Rattle.sheet_rules.specs.Record.{nth}
use Rattle.sheet_rules.specs.Sentences.{Among}

abbrev pub opens : List Record → Bool
opens q = eqb (nth q 0).layer 1

-- a record joins the stripe behind it, unless that one begins with layer 1
unfoldable pub joining : Record → List (List Record) → List (List Record)
joining r [] = (r ∷ []) ∷ []
joining r (q ∷ qs) = cond (opens q) ((r ∷ []) ∷ q ∷ qs) ((r ∷ q) ∷ qs)

unfoldable pub stripes_of : List Record → List (List Record)
unfolding joining
stripes_of [] = []
stripes_of (r ∷ rs) = joining r (stripes_of rs)

unfoldable pub together : List (List Record) → List Record
together [] = []
together (q ∷ qs) = q ++ together qs

pub record Opened (q : List Record) : Type 0 where
  pub first : Record
  pub others : List Record
  pub is : q ≡ first ∷ others
  pub opening : first.layer ≡ 1
  pub once : (r : Record) → Among r others → r.layer ≢ 1
