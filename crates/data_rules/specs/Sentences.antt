-- Coded data handed out, as sentences: when each answer is given (01, "Numbers that a call returns": BadSheet, BadLine, Short), which octets the part is
-- and where it stands. The steps, in Data.antt, come last.
--
--   LayerAt rs k l i         the record i is that of layer l of stripe k
--   Fits page pencil l r     start plus length is within what holds the data: the page for layers 1 to 3, the pencil file for higher ones
--   Passes page pencil l r   it is not
--   Gives .. a               the call answers a
--   HandsOut .. n            there is such a layer, and its data, of n octets, fits
--   Handed .. p x n          the part p is the layer's, and stands in x from n on
--   Nothing p x n            the part p is empty, and where it stands
use Rattle.std.specs.Prelude.{ℕ, ◌+◌, ◌≤◌, ◌<◌, ◌≡◌, ◌⊎◌, List, [], length, take, drop, Ok, Err}
use Rattle.answers.specs.Answers.{Answer}
use Rattle.answers.specs.declared.Refusal.TheVariants.{Short, BadSheet, BadLine}
use Rattle.sheet_rules.specs.declared.Record.{Record}
use Rattle.sheet_rules.specs.Record.{records, nth}
use Rattle.sheet_rules.specs.Sentences.{Coded, Uncoded, Accepted, BadSheetAt}
use Rattle.data_rules.specs.declared.Source.{Source}
use Rattle.data_rules.specs.declared.Source.TheVariants.{Page, Pencil}

pub record LayerAt (rs : List Record) (k l i : ℕ) : Type 0 where
  pub within : i < length rs
  pub stripe : (nth rs i).stripe ≡ k
  pub layer : (nth rs i).layer ≡ l

pub record Fits (page pencil : List ℕ) (l : ℕ) (r : Record) : Type 0 where
  pub low : l ≤ 3 → r.start + r.len ≤ length page
  pub high : 3 < l → r.start + r.len ≤ length pencil

abbrev pub Passes : List ℕ → List ℕ → ℕ → Record → Type 0
Passes page pencil l r = ((l ≤ 3) × (length page < r.start + r.len)) ⊎ ((3 < l) × (length pencil < r.start + r.len))

-- ---- the answers, in the paper's order

-- the record of the layer, whose data fits: so many octets, none where the layer is not coded
pub record HandsOut (s page pencil : List ℕ) (k l n : ℕ) : Type 0 where
  pub place : ℕ
  pub layer : LayerAt (records s) k l place
  pub fits : Fits page pencil l (nth (records s) place)
  pub count : n ≡ (nth (records s) place).len

-- one line for each answer that the call gives; it gives no other
pub data Gives (s page pencil : List ℕ) (k l : ℕ) : Answer → Type 0 where
  no_sheet : {i : ℕ} → BadSheetAt s i → Gives s page pencil k l (Err (BadSheet i))
  no_layer : Accepted s → ((i : ℕ) → LayerAt (records s) k l i → ⊥) → Gives s page pencil k l (Err BadLine)
  passing : {i : ℕ} → Accepted s → LayerAt (records s) k l i → Passes page pencil l (nth (records s) i) → Gives s page pencil k l (Err (Short i))
  handed : {n : ℕ} → Accepted s → HandsOut s page pencil k l n → Gives s page pencil k l (Ok n)

-- ---- the part, and where it stands

-- a part of no octets stands in the page, at 0
pub record Nothing (p : List ℕ) (x : Source) (n : ℕ) : Type 0 where
  pub octets : p ≡ []
  pub source : x ≡ Page
  pub start : n ≡ 0

-- the octets that the layer's record names, of the page for layers 1 to 3 and of the pencil file for higher ones; they stand there, from the record's
-- start on, and of an uncoded layer there are none
pub record Handed (s page pencil : List ℕ) (k l : ℕ) (p : List ℕ) (x : Source) (n : ℕ) : Type 0 where
  pub place : ℕ
  pub layer : LayerAt (records s) k l place
  pub low : l ≤ 3 → p ≡ take (nth (records s) place).len (drop (nth (records s) place).start page)
  pub high : 3 < l → p ≡ take (nth (records s) place).len (drop (nth (records s) place).start pencil)
  pub source : Coded (nth (records s) place) → (l ≤ 3 → x ≡ Page) × (3 < l → x ≡ Pencil)
  pub start : Coded (nth (records s) place) → n ≡ (nth (records s) place).start
  pub uncoded : Uncoded (nth (records s) place) → Nothing p x n
