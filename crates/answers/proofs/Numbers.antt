-- The paper's table "Numbers that a call returns" once more, each name beside its number. `numbers` (Table.antt) has the names in an order and
-- counts them, so that two names exchanged there and in `told_of` would agree.
-- Assumes nothing.
use Prim.Native.Nat.{ℕ}
use mathlib.Core.Path.{◌≡◌, refl}
use Rattle.std.specs.Prelude.{Ok, Err}
use Rattle.answers.specs.declared.Refusal.TheVariants.{Short, BadMark, BadLength, BadVersion, BadMode, BadCoder, BadRes, BadWidth, BadType, BadStripe, BadLayer, Trailing, NoRoom, BadSheet, BadPlane, Mismatch, BadLine, TooLong}
use Rattle.answers.specs.Answers.{Told, refused_as, told_of}

abbrev pub fault : ℕ → ℕ → Told
fault number place = record { number = number; place = place; count = 0 }

pub done_told : (n : ℕ) → told_of (Ok n) ≡ record { number = 0; place = 0; count = n }
unfolding told_of refused_as
done_told n = refl

-- what a page can be refused with
pub page_told : (p : ℕ) → (told_of (Err (Short p)) ≡ fault 1 p) × (told_of (Err (BadMark p)) ≡ fault 2 p) × (told_of (Err (BadLength p)) ≡ fault 3 p)
    × (told_of (Err (BadVersion p)) ≡ fault 4 p) × (told_of (Err (BadMode p)) ≡ fault 5 p) × (told_of (Err (BadCoder p)) ≡ fault 6 p)
    × (told_of (Err (BadRes p)) ≡ fault 7 p) × (told_of (Err (BadWidth p)) ≡ fault 8 p) × (told_of (Err (BadType p)) ≡ fault 9 p)
    × (told_of (Err (BadStripe p)) ≡ fault 10 p) × (told_of (Err (BadLayer p)) ≡ fault 11 p) × (told_of (Err (Trailing p)) ≡ fault 12 p)
unfolding told_of refused_as
page_told p = (refl, refl, refl, refl, refl, refl, refl, refl, refl, refl, refl, refl)

-- and the others, three of them without a place
pub others_told : (p : ℕ) → (told_of (Err NoRoom) ≡ fault 13 0) × (told_of (Err (BadSheet p)) ≡ fault 14 p) × (told_of (Err (BadPlane p)) ≡ fault 15 p)
    × (told_of (Err (Mismatch p)) ≡ fault 16 p) × (told_of (Err BadLine) ≡ fault 17 0) × (told_of (Err TooLong) ≡ fault 18 0)
unfolding told_of refused_as
others_told p = (refl, refl, refl, refl, refl, refl)
