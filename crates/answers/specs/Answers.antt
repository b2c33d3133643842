-- The answers of a call, as the three numbers that the viewer is given. One more refusal is a line in `refused_as`, in `refusals` and in `refused` of
-- proofs/Table.antt.
--
--   Told         number, place and count
--   refusal      those of a refusal, which counts nothing
--   refused_as r  the paper's table "Numbers that a call returns", line by line
--   refusal_number r, refusal_place r   its number there; the octet, record or list entry at fault, 0 where the paper gives none
--   Answer       work done, and how much; or a refusal
--   told_of a     the same table with the work done
--   number_of a   its number there
--   place_of a    its place, 0 for work done
--   count_of a    the records or octets of the work done; 0 for a refusal
--   refusals p   the names of the refusals in the table's order, with a place
--   table n p    the names of the table in its order, with a count and a place
-- Assumes nothing.
use Rattle.std.specs.Prelude.{List, [], ◌∷◌, ℕ, map, Result, Ok, Err}
use Rattle.answers.specs.declared.Refusal.{Refusal}
use Rattle.answers.specs.declared.Refusal.TheVariants.{Short, BadMark, BadLength, BadVersion, BadMode, BadCoder, BadRes, BadWidth, BadType, BadStripe, BadLayer, Trailing, NoRoom, BadSheet, BadPlane, Mismatch, BadLine, TooLong}

pub record Told : Type 0 where
  pub number : ℕ
  pub place : ℕ
  pub count : ℕ

abbrev refusal : ℕ → ℕ → Told
refusal number place = record { number = number; place = place; count = 0 }

unfoldable pub refused_as : Refusal → Told
refused_as (Short p) = refusal 1 p
refused_as (BadMark p) = refusal 2 p
refused_as (BadLength p) = refusal 3 p
refused_as (BadVersion p) = refusal 4 p
refused_as (BadMode p) = refusal 5 p
refused_as (BadCoder p) = refusal 6 p
refused_as (BadRes p) = refusal 7 p
refused_as (BadWidth p) = refusal 8 p
refused_as (BadType p) = refusal 9 p
refused_as (BadStripe p) = refusal 10 p
refused_as (BadLayer p) = refusal 11 p
refused_as (Trailing p) = refusal 12 p
refused_as NoRoom = refusal 13 0
refused_as (BadSheet p) = refusal 14 p
refused_as (BadPlane p) = refusal 15 p
refused_as (Mismatch p) = refusal 16 p
refused_as BadLine = refusal 17 0
refused_as TooLong = refusal 18 0

unfoldable pub refusal_number : Refusal → ℕ
unfolding refused_as
refusal_number r = (refused_as r).number

unfoldable pub refusal_place : Refusal → ℕ
unfolding refused_as
refusal_place r = (refused_as r).place

abbrev pub Answer : Type 0
Answer = Result ℕ Refusal

unfoldable pub told_of : Answer → Told
unfolding refused_as
told_of (Ok n) = record { number = 0; place = 0; count = n }
told_of (Err r) = refused_as r

unfoldable pub number_of : Answer → ℕ
unfolding told_of
number_of a = (told_of a).number

unfoldable pub place_of : Answer → ℕ
unfolding told_of
place_of a = (told_of a).place

unfoldable pub count_of : Answer → ℕ
unfolding told_of
count_of a = (told_of a).count

unfoldable pub refusals : ℕ → List Refusal
refusals p =
    Short p ∷ BadMark p ∷ BadLength p ∷ BadVersion p
    ∷ BadMode p ∷ BadCoder p ∷ BadRes p ∷ BadWidth p ∷ BadType p
    ∷ BadStripe p ∷ BadLayer p ∷ Trailing p ∷ NoRoom ∷ BadSheet p
    ∷ BadPlane p ∷ Mismatch p ∷ BadLine ∷ TooLong
    ∷ []

unfoldable pub table : ℕ → ℕ → List Answer
unfolding refusals
table n p = Ok n ∷ map Err (refusals p)
