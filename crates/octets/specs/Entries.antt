-- Entries of a fixed size, one after the other: the records of a sheet, the entries of a plane list.
--
--   entries_from at n i    so many entries from number i on, `at` giving the entry of a number
--   whole_entries          all whole entries of a list of octets; a part at the end is none
--   joined enc es         the octets of entries, one after the other
--   Entry                 an entry of so many octets: it depends on its own alone, and those that it is put as are read as it
use Rattle.std.specs.Prelude.{ℕ, zero, suc, ◌+◌, ◌*◌, ◌/◌, ◌<◌, ◌≡◌, List, [], ◌∷◌, ◌++◌, length, get_or}

unfoldable pub entries_from : {A : Type 0} → (ℕ → A) → ℕ → ℕ → List A
entries_from at zero i = []
entries_from at (suc n) i = at i ∷ entries_from at n (i + 1)

abbrev pub whole_entries : {A : Type 0} → ℕ → (List ℕ → ℕ → A) → List ℕ → List A
whole_entries size at s = entries_from (at s) (length s / size) 0

unfoldable pub joined : {A : Type 0} → (A → List ℕ) → List A → List ℕ
joined enc [] = []
joined enc (e ∷ es) = enc e ++ joined enc es

pub record Entry {A : Type 0} (size : ℕ) (at : List ℕ → ℕ → A) (enc : A → List ℕ) : Type 0 where
  pub some : 0 < size
  pub own : (s t : List ℕ) (i j : ℕ) → ((m : ℕ) → m < size → get_or s (i * size + m) 0 ≡ get_or t (j * size + m) 0) → at s i ≡ at t j
  pub long : (e : A) → length (enc e) ≡ size
  pub back : (e : A) (s : List ℕ) → at (enc e ++ s) 0 ≡ e
