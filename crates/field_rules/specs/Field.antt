-- A segment of the page as a table of its fields in order, read at a place. The table is the paper's; reading, and what the octets are, come from it.
--
--   Res A            a value and the place after it, or a refusal
--   Width            one, two or four octets
--   numbers ws s at  the numbers of these widths from a place on, most significant octet first
--   Field            a field: `mark`, octets that must stand there; `val`, numbers under a rule that may look at those before; or `again`, a
--                    rule on numbers read before, refused so many octets back
--   fields table before s at   the numbers read, with those before in front; or the refusal of the first field at fault
--   is good, any     a rule on a field of one number, and a field without a rule
--
-- A field that does not fit whole is Short, whatever its octets say.
use Rattle.std.specs.Prelude.{ℕ, ◌+◌, ◌-◌, ◌<◌, Bool, true, cond, List, [], ◌∷◌, ◌++◌, length, get_or, ltb}
use Rattle.answers.specs.declared.Refusal.{Refusal}
use Rattle.answers.specs.declared.Refusal.TheVariants.{Short}
use Rattle.octets.specs.Octets.{be16_at, be32_at, octets16, octets32, stands_at}

pub data Res (A : Type 0) : Type 0 where
  ok : A → ℕ → Res A
  no : Refusal → Res A

unfoldable pub bind : {A B : Type 0} → Res A → (A → ℕ → Res B) → Res B
bind (ok a n) go = go a n
bind (no r) go = no r

pub data Width : Type 0 where
  one : Width
  two : Width
  four : Width

abbrev pub octet_count : Width → ℕ
octet_count one = 1
octet_count two = 2
octet_count four = 4

-- how many octets the widths are in all
unfoldable pub widths : List Width → ℕ
widths [] = 0
widths (w ∷ ws) = octet_count w + widths ws

abbrev pub number_at : Width → List ℕ → ℕ → ℕ
number_at one s at = get_or s at 0
number_at two s at = be16_at s at
number_at four s at = be32_at s at

unfoldable pub numbers : List Width → List ℕ → ℕ → List ℕ
numbers [] s at = []
numbers (w ∷ ws) s at = number_at w s at ∷ numbers ws s (at + octet_count w)

pub data Field : Type 0 where
  mark : List ℕ → (ℕ → Refusal) → Field
  val : List Width → (List ℕ → List ℕ → Bool) → (ℕ → Refusal) → Field
  again : ℕ → (List ℕ → Bool) → (ℕ → Refusal) → Field

-- a rule on a field of one number
abbrev pub is : (ℕ → Bool) → List ℕ → List ℕ → Bool
is good before vs = good (get_or vs 0 0)

abbrev pub any : List ℕ → List ℕ → Bool
any before vs = true

unfoldable pub fields : List Field → List ℕ → List ℕ → ℕ → Res (List ℕ)
unfolding widths numbers
fields [] before s at = ok before at
fields (mark m refusal ∷ table) before s at =
    cond (ltb (length s) (at + length m)) (no (Short at))
    (cond (stands_at s at m) (fields table before s (at + length m)) (no (refusal at)))
fields (val ws good refusal ∷ table) before s at =
    cond (ltb (length s) (at + widths ws)) (no (Short at))
    (cond (good before (numbers ws s at)) (fields table (before ++ numbers ws s at) s (at + widths ws)) (no (refusal at)))
fields (again back good refusal ∷ table) before s at = cond (good before) (fields table before s at) (no (refusal (at - back)))

-- ---- what the octets are

-- a number in octets, and the bound under which it is one
abbrev pub octets_of : Width → ℕ → List ℕ
octets_of one v = v ∷ []
octets_of two v = octets16 v
octets_of four v = octets32 v

abbrev pub bound : Width → ℕ
bound one = 256
bound two = 65536
bound four = 4294967296

unfoldable pub put : List Width → List ℕ → List ℕ
put [] vs = []
put (w ∷ ws) [] = []
put (w ∷ ws) (v ∷ vs) = octets_of w v ++ put ws vs

-- a number for each width, each within its bound
unfoldable pub Sized : List Width → List ℕ → Type 0
Sized [] [] = Unit {0}
Sized [] (v ∷ vs) = ⊥
Sized (w ∷ ws) [] = ⊥
Sized (w ∷ ws) (v ∷ vs) = (v < bound w) × Sized ws vs
