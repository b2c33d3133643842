-- The theorems about the table of answers: each answer is the one that stands at its number, no two look the same, and what a refusal and what work done carry.
-- Assumes nothing.
use Rattle.std.specs.Prelude.{◌≡◌, refl, [], ◌∷◌, map, ◌⊎◌, ℕ, ◌≤◌, ◌<◌, get_or, Ok, Err}
use Rattle.std.proofs.Common.{inl, inr, ⊎_elim, arith}
use Rattle.answers.specs.declared.Refusal.{Refusal}
use Rattle.answers.specs.declared.Refusal.TheVariants.{Short, BadMark, BadLength, BadVersion, BadMode, BadCoder, BadRes, BadWidth, BadType, BadStripe, BadLayer, Trailing, NoRoom, BadSheet, BadPlane, Mismatch, BadLine, TooLong}
use Rattle.answers.specs.Answers.{Answer, refused_as, refusal_number, refusal_place, told_of, number_of, place_of, count_of, refusals, table}

-- the names in the table's order have the numbers 0 to 18
pub numbers : (n p : ℕ) → map number_of (table n p) ≡ 0 ∷ 1 ∷ 2 ∷ 3 ∷ 4 ∷ 5 ∷ 6 ∷ 7 ∷ 8 ∷ 9 ∷ 10 ∷ 11 ∷ 12 ∷ 13 ∷ 14 ∷ 15 ∷ 16 ∷ 17 ∷ 18 ∷ []
unfolding number_of told_of refused_as refusals table
numbers n p = refl

record Refused (r : Refusal) : Type 0 where
  pub back : (n : ℕ) → get_or (table n (refusal_place r)) (refusal_number r) (Err TooLong) ≡ Err r
  pub least : 0 < refusal_number r
  pub most : refusal_number r ≤ 18
  pub uncounted : count_of (Err r) ≡ 0

refused : (r : Refusal) → Refused r
unfolding refusal_number refusal_place refused_as count_of told_of refusals table
refused (Short p) = record { back = λ n. refl; least = omega arith; most = omega arith; uncounted = refl }
refused (BadMark p) = record { back = λ n. refl; least = omega arith; most = omega arith; uncounted = refl }
refused (BadLength p) = record { back = λ n. refl; least = omega arith; most = omega arith; uncounted = refl }
refused (BadVersion p) = record { back = λ n. refl; least = omega arith; most = omega arith; uncounted = refl }
refused (BadMode p) = record { back = λ n. refl; least = omega arith; most = omega arith; uncounted = refl }
refused (BadCoder p) = record { back = λ n. refl; least = omega arith; most = omega arith; uncounted = refl }
refused (BadRes p) = record { back = λ n. refl; least = omega arith; most = omega arith; uncounted = refl }
refused (BadWidth p) = record { back = λ n. refl; least = omega arith; most = omega arith; uncounted = refl }
refused (BadType p) = record { back = λ n. refl; least = omega arith; most = omega arith; uncounted = refl }
refused (BadStripe p) = record { back = λ n. refl; least = omega arith; most = omega arith; uncounted = refl }
refused (BadLayer p) = record { back = λ n. refl; least = omega arith; most = omega arith; uncounted = refl }
refused (Trailing p) = record { back = λ n. refl; least = omega arith; most = omega arith; uncounted = refl }
refused NoRoom = record { back = λ n. refl; least = omega arith; most = omega arith; uncounted = refl }
refused (BadSheet p) = record { back = λ n. refl; least = omega arith; most = omega arith; uncounted = refl }
refused (BadPlane p) = record { back = λ n. refl; least = omega arith; most = omega arith; uncounted = refl }
refused (Mismatch p) = record { back = λ n. refl; least = omega arith; most = omega arith; uncounted = refl }
refused BadLine = record { back = λ n. refl; least = omega arith; most = omega arith; uncounted = refl }
refused TooLong = record { back = λ n. refl; least = omega arith; most = omega arith; uncounted = refl }

-- a refusal has a number from 1 to 18
pub refusal_kind : (r : Refusal) → (0 < refusal_number r) × (refusal_number r ≤ 18)
refusal_kind r = ((refused r).least, (refused r).most)

record Every (a : Answer) : Type 0 where
  pub back : get_or (table (count_of a) (place_of a)) (number_of a) (Err TooLong) ≡ a
  pub kind : ((number_of a ≡ 0) × (place_of a ≡ 0)) ⊎ ((0 < number_of a) × (number_of a ≤ 18) × (count_of a ≡ 0))

-- what the viewer is told of a refusal
pub refused_number : (r : Refusal) → (number_of (Err r) ≡ refusal_number r) × (place_of (Err r) ≡ refusal_place r)
unfolding number_of place_of told_of refusal_number refusal_place refused_as
refused_number r = (refl, refl)

every : (a : Answer) → Every a
unfolding number_of place_of count_of told_of refusal_number refusal_place table
every (Ok n) = record { back = refl; kind = inl (omega arith) }
every (Err r) = let f = refused r in record { back = f.back (count_of (Err r)); kind = inr (f.least, f.most, f.uncounted) }

-- an answer is the one that stands in the table at its number, with its count and its place
pub answer_back : (a : Answer) → get_or (table (count_of a) (place_of a)) (number_of a) (Err TooLong) ≡ a
answer_back a = (every a).back

-- no two answers look the same to the viewer
pub answer_by_values : (a b : Answer) → number_of a ≡ number_of b → place_of a ≡ place_of b → count_of a ≡ count_of b → a ≡ b
answer_by_values a b n p c = cc (answer_back a, answer_back b)

-- an answer is of work done and has no place, or a refusal, of number 1 to 18, and has no count
pub answer_kind : (a : Answer) → ((number_of a ≡ 0) × (place_of a ≡ 0)) ⊎ ((0 < number_of a) × (number_of a ≤ 18) × (count_of a ≡ 0))
answer_kind a = (every a).kind

pub number_most : (a : Answer) → number_of a ≤ 18
number_most a = ⊎_elim (λ d. omega arith) (λ r. omega arith) (answer_kind a)

pub done_place : (a : Answer) → number_of a ≡ 0 → place_of a ≡ 0
done_place a z = ⊎_elim (λ d. d.1) (λ r. absurd (omega arith)) (answer_kind a)

pub refusal_count : (a : Answer) → (number_of a ≡ 0 → ⊥) → count_of a ≡ 0
refusal_count a nz = ⊎_elim (λ d. absurd (nz d.0)) (λ r. r.2) (answer_kind a)

pub count_done : (a : Answer) → (count_of a ≡ 0 → ⊥) → number_of a ≡ 0
count_done a nz = ⊎_elim (λ d. d.0) (λ r. absurd (nz r.2)) (answer_kind a)
