-- When a table of fields is refused, without the steps of its reading: the fields before the one at fault stand there, and it is cut short, or is
-- there and breaks its rule.
use Rattle.std.specs.Prelude.{ℕ, ◌+◌, ◌-◌, ◌<◌, ◌≡◌, ◌≢◌, Bool, false, List, ◌∷◌, ◌++◌, length, get_or}
use Rattle.answers.specs.declared.Refusal.{Refusal}
use Rattle.answers.specs.declared.Refusal.TheVariants.{Short}
use Rattle.field_rules.specs.Field.{Width, widths, Field, mark, val, again, put, Sized}
use Rattle.field_rules.specs.Stands.{Stands}

-- how many octets a field needs
abbrev pub size_of : Field → ℕ
size_of (mark m refusal) = length m
size_of (val ws good refusal) = widths ws
size_of (again back good refusal) = 0

-- the field at a place p, where these octets stand, with so many numbers known
pub data Broken : Field → List ℕ → ℕ → List ℕ → Refusal → Type 0 where
  cut : {row : Field} {known l : List ℕ} {p : ℕ} → length l < size_of row → Broken row known p l (Short p)
  other : {m known : List ℕ} {refusal : ℕ → Refusal} {p : ℕ} (x rest : List ℕ) → length x ≡ length m → x ≢ m
      → Broken (mark m refusal) known p (x ++ rest) (refusal p)
  wrong : {ws : List Width} {good : List ℕ → List ℕ → Bool} {refusal : ℕ → Refusal} {known : List ℕ} {p : ℕ} (vs rest : List ℕ) → Sized ws vs
      → good known vs ≡ false → Broken (val ws good refusal) known p (put ws vs ++ rest) (refusal p)
  late : {back : ℕ} {good : List ℕ → Bool} {refusal : ℕ → Refusal} {known l : List ℕ} {p : ℕ} → good known ≡ false
      → Broken (again back good refusal) known p l (refusal (p - back))

pub record Faulted (rows : List Field) (before : List ℕ) (at : ℕ) (l : List ℕ) (x : Refusal) : Type 0 where
  pub early : List Field
  pub row : Field
  pub later : List Field
  pub table : rows ≡ early ++ (row ∷ later)
  pub known : List ℕ
  pub octets : List ℕ
  pub rest : List ℕ
  pub split : l ≡ octets ++ rest
  pub stands : Stands early before known octets
  pub broken : Broken row known (at + length octets) rest x

-- ---- one field alone, in words: it is cut short, or it is there and is not as it must be

pub data BadMarked (m : List ℕ) (refusal : ℕ → Refusal) (p : ℕ) : List ℕ → Refusal → Type 0 where
  mark_cut : {l : List ℕ} → length l < length m → BadMarked m refusal p l (Short p)
  mark_other : (x rest : List ℕ) → length x ≡ length m → x ≢ m → BadMarked m refusal p (x ++ rest) (refusal p)

pub data BadNumbers (ws : List Width) (Good : List ℕ → Type 0) (refusal : ℕ → Refusal) (p : ℕ) : List ℕ → Refusal → Type 0 where
  numbers_cut : {l : List ℕ} → length l < widths ws → BadNumbers ws Good refusal p l (Short p)
  numbers_wrong : (vs rest : List ℕ) → Sized ws vs → (Good vs → ⊥) → BadNumbers ws Good refusal p (put ws vs ++ rest) (refusal p)

-- the rule of a field of one number
abbrev pub the : (ℕ → Type 0) → List ℕ → Type 0
the Good vs = Good (get_or vs 0 0)
