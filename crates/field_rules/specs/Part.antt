-- A part of a page, three times: its reading at a place, its grammar (`Is`: these octets are the part, with this value) and its refusals
-- (`Bad`: from here on stand octets that get this answer). `Exact` says that the three agree at a place. Sequences are said once.
--
--   Stood Is s at a n   the part stands in s from `at` to `n`, with the value a
--   Exact r Is Bad s at   what is read at the place is r: a value exactly if the part stands there, an answer exactly if the rest is refused so
--   Both                a part and then a part that may depend on its value: octets by concatenation
--   BadThen             the first is refused, or the first stands there and the second is refused behind it
--   Apart m l           l has octets enough for the mark m, and others
--   Due, BadDue         behind a mark one part, else another: where there are too few octets for the mark, Short
use Rattle.std.specs.Prelude.{ℕ, ◌+◌, ◌≤◌, ◌<◌, ◌≡◌, ◌≢◌, Bool, true, false, cond, List, ◌++◌, length, drop, ltb}
use Rattle.answers.specs.declared.Refusal.{Refusal}
use Rattle.answers.specs.declared.Refusal.TheVariants.{Short}
use Rattle.octets.specs.Octets.{Octets}
use Rattle.field_rules.specs.Field.{Res, ok, no}

pub record Stood {A : Type 0} (Is : List ℕ → A → Type 0) (s : List ℕ) (at : ℕ) (a : A) (n : ℕ) : Type 0 where
  pub octets : List ℕ
  pub is : Is octets a
  pub split : drop at s ≡ octets ++ drop n s
  pub ends : n ≡ at + length octets
  pub inside : n ≤ length s

pub record Exact {A : Type 0} (r : Res A) (Is : List ℕ → A → Type 0) (Bad : List ℕ → Refusal → Type 0) (s : List ℕ) (at : ℕ) : Type 0 where
  pub there : (l rest : List ℕ) (a : A) → drop at s ≡ l ++ rest → Is l a → r ≡ ok a (at + length l)
  pub back : Octets s → (a : A) (n : ℕ) → r ≡ ok a n → Stood Is s at a n
  pub refuses : (x : Refusal) → Bad (drop at s) x → r ≡ no x
  pub refused : Octets s → (x : Refusal) → r ≡ no x → Bad (drop at s) x

-- ---- one part behind another

pub record Both {A B : Type 0} (First : List ℕ → A → Type 0) (Second : A → ℕ → List ℕ → B → Type 0) (at : ℕ) (l : List ℕ) (b : B) : Type 0 where
  pub front : List ℕ
  pub rest : List ℕ
  pub value : A
  pub octets : l ≡ front ++ rest
  pub first : First front value
  pub second : Second value (at + length front) rest b

pub data BadThen {A : Type 0} (First : List ℕ → A → Type 0) (Bad : List ℕ → Refusal → Type 0) (Worse : A → ℕ → List ℕ → Refusal → Type 0) (at : ℕ)
    : List ℕ → Refusal → Type 0 where
  bad_first : {l : List ℕ} {x : Refusal} → Bad l x → BadThen First Bad Worse at l x
  bad_later : {x : Refusal} (front rest : List ℕ) (a : A) → First front a → Worse a (at + length front) rest x → BadThen First Bad Worse at (front ++ rest) x

-- ---- a mark that chooses

pub record Apart (m l : List ℕ) : Type 0 where
  pub others : List ℕ
  pub rest : List ℕ
  pub split : l ≡ others ++ rest
  pub size : length others ≡ length m
  pub differ : others ≢ m

pub data Due {A : Type 0} (m : List ℕ) (Behind Else : List ℕ → A → Type 0) : List ℕ → A → Type 0 where
  due_mark : {a : A} (l : List ℕ) → Behind l a → Due m Behind Else (m ++ l) a
  due_else : {l : List ℕ} {a : A} → Else l a → Due m Behind Else l a

pub data BadDue (m : List ℕ) (at : ℕ) (Behind Else : List ℕ → Refusal → Type 0) : List ℕ → Refusal → Type 0 where
  bad_cut : {l : List ℕ} → length l < length m → BadDue m at Behind Else l (Short at)
  bad_mark : {x : Refusal} (l : List ℕ) → Behind l x → BadDue m at Behind Else (m ++ l) x
  bad_else : {l : List ℕ} {x : Refusal} → Apart m l → Else l x → BadDue m at Behind Else l x

-- ---- so many octets, whatever they are

unfoldable pub span_of : List ℕ → ℕ → ℕ → Res ℕ
span_of s at n = cond (ltb (length s) (at + n)) (no (Short at)) (ok n (at + n))

pub data Span (n : ℕ) : List ℕ → ℕ → Type 0 where
  span : {l : List ℕ} → length l ≡ n → Span n l n

pub data BadSpan (n at : ℕ) : List ℕ → Refusal → Type 0 where
  cut_span : {l : List ℕ} → length l < n → BadSpan n at l (Short at)

-- ---- another value, and a test of what is known before

pub data Mapped {A B : Type 0} (f : A → B) (Is : List ℕ → A → Type 0) : List ℕ → B → Type 0 where
  mapped : {l : List ℕ} (a : A) → Is l a → Mapped f Is l (f a)

pub data Passed {A : Type 0} (b : Bool) (Is : List ℕ → A → Type 0) : List ℕ → A → Type 0 where
  passed : {l : List ℕ} {a : A} → b ≡ true → Is l a → Passed b Is l a

pub data Failed (b : Bool) (y : Refusal) (Bad : List ℕ → Refusal → Type 0) : List ℕ → Refusal → Type 0 where
  failed : {l : List ℕ} → b ≡ false → Failed b y Bad l y
  bad_passed : {l : List ℕ} {x : Refusal} → b ≡ true → Bad l x → Failed b y Bad l x

-- ---- that so many octets are there, which the part says anyway: Short comes before the part's own refusals
pub data BadRoom (n at : ℕ) (Bad : List ℕ → Refusal → Type 0) : List ℕ → Refusal → Type 0 where
  cut_room : {l : List ℕ} → length l < n → BadRoom n at Bad l (Short at)
  in_room : {l : List ℕ} {x : Refusal} → n ≤ length l → Bad l x → BadRoom n at Bad l x
