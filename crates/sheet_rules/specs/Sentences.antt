-- The rules of the sheet as sentences over the list of its records, in the order of the paper's paragraph ("The sheet"), without a state.
--
--   Among r rs    r is one of the records rs
--   Coded r       its length is not 0
--   Grey r        its octet 17 is 1, where it may be
--   Unbroken rs   no rule is broken by the records rs, of which more may follow
--   Complete rs   the last stripe may stop there
--   Sheet rs      a whole sheet: both
--   Breaks rs i   the record i is the first that, with those before it, breaks a rule
--   StopsBadly    no record breaks a rule, and the record i was due and is not there whole
--   FaultAt rs part i   one or the other: the record at fault
--   Accepted s        the octets s are a sheet; GoodSheet s n m: of n records in m stripes
--   BadSheetAt s i    they are at fault at the record i
--   Judges s a        the judge answers a
--
-- Two exceptions that the paper names come about by themselves, since a sentence speaks only of records that are there: layer 1's
-- resolution is matched at layer 2, and the choice of coded layers 1 to 3 at layer 3.
use Rattle.std.specs.Prelude.{ℕ, ◌+◌, ◌-◌, ◌%◌, ◌≤◌, ◌<◌, ◌≡◌, ◌⊎◌, ◌≢◌, length, take, Ok, Err}
use Rattle.std.specs.Int.{◌∣◌}
use mathlib.Core.List.{List, Memᴰ}
use Rattle.answers.specs.Answers.{Answer}
use Rattle.answers.specs.declared.Refusal.TheVariants.{BadSheet}
use Rattle.sheet_rules.specs.declared.Record.{Record}
use Rattle.sheet_rules.specs.Record.{nth, records, rest, sum_of, height_in}

abbrev pub Among : Record → List Record → Type 0
Among r rs = Memᴰ r rs

abbrev pub Coded : Record → Type 0
Coded r = r.len ≢ 0

abbrev pub Uncoded : Record → Type 0
Uncoded r = r.len ≡ 0

-- octet 17 is 1, and the record is one that it may be 1 in: of a coded image layer of coder 1
abbrev pub Grey : Record → Type 0
Grey r = (r.octet17 ≡ 1) × Coded r × (r.layer % 2 ≡ 1) × (r.coder ≡ 1)

-- q is the layer above r in the same stripe
abbrev pub Above : Record → Record → Type 0
Above r q = (q.stripe ≡ r.stripe) × (q.layer ≡ r.layer + 1)

-- a stripe may stop at r: N is odd and at least 3
abbrev pub Closing : Record → Type 0
Closing r = (r.layer % 2 ≡ 1) × (3 ≤ r.layer)

-- q begins the stripe after that of r, which may stop there
abbrev pub Opening : Record → Record → Type 0
Opening r q = (q.stripe ≡ r.stripe + 1) × (q.layer ≡ 1) × Closing r

-- 1, 2, 4 or 8 for even layers, 1 for odd
abbrev pub CoderOf : ℕ → ℕ → Type 0
CoderOf layer coder = (coder ≡ 1) ⊎ ((layer % 2 ≡ 0) × ((coder ≡ 2) ⊎ (coder ≡ 4) ⊎ (coder ≡ 8)))

abbrev pub Listed : ℕ → Type 0
Listed res = (res ≡ 100) ⊎ (res ≡ 200) ⊎ (res ≡ 300) ⊎ (res ≡ 400) ⊎ (res ≡ 600) ⊎ (res ≡ 1200)

-- q is layer 2 of the stripe of r
abbrev pub Main : Record → Record → Type 0
Main r q = (r.stripe ≡ q.stripe) × (q.layer ≡ 2)

-- the heights of all layers 2, added up
unfoldable pub heights : List Record → ℕ
unfolding sum_of
heights rs = sum_of height_in rs

pub record Unbroken (rs : List Record) : Type 0 where
  -- octets 26 and 27 are 0
  pub zeros : (r : Record) → Among r rs → r.octets26 ≡ 0
  -- octet 17 is 0, or the layer is a grey one
  pub grey : (r : Record) → Among r rs → (r.octet17 ≡ 0) ⊎ Grey r
  -- stripes run 0, 1, 2 with no gap, at most 64; each has layers 1 to N, every number once, N odd, 3 to 15
  pub first : 0 < length rs → ((nth rs 0).stripe ≡ 0) × ((nth rs 0).layer ≡ 1)
  pub next : (i : ℕ) → i + 1 < length rs → Above (nth rs i) (nth rs (i + 1)) ⊎ Opening (nth rs i) (nth rs (i + 1))
  pub few : (r : Record) → Among r rs → (r.stripe < 64) × (r.layer ≤ 15)
  -- coded: the coder, width and height not 0, start plus length below 2^32
  pub coder : (r : Record) → Among r rs → Coded r → CoderOf r.layer r.coder
  pub size : (r : Record) → Among r rs → Coded r → (r.width ≢ 0) × (r.height ≢ 0)
  pub ending : (r : Record) → Among r rs → Coded r → r.start + r.len < 4294967296
  -- not coded: coder, start, offsets, width and height are 0 (but for layer 2) and resolution is the main one
  pub uncoded : (r : Record) → Among r rs → Uncoded r → (r.coder ≡ 0) × (r.start ≡ 0)
  pub empty : (r : Record) → Among r rs → Uncoded r → r.layer ≢ 2 → (r.x ≡ 0) × (r.y ≡ 0) × (r.width ≡ 0) × (r.height ≡ 0)
  pub plain : (r q : Record) → Among r rs → Among q rs → Main r q → Uncoded r → r.res ≡ q.res
  -- layer 2: no offset, width and height within the page's bounds, coded or not
  pub corner : (r : Record) → Among r rs → r.layer ≡ 2 → (r.x ≡ 0) × (r.y ≡ 0)
  pub wide : (r : Record) → Among r rs → r.layer ≡ 2 → (1 ≤ r.width) × (r.width ≤ 32768)
  pub high : (r : Record) → Among r rs → r.layer ≡ 2 → 1 ≤ r.height
  pub tall : heights rs ≤ 65535
  -- layer 2's width and resolution are the same in all stripes
  pub same : (r q : Record) → Among r rs → Among q rs → r.layer ≡ 2 → q.layer ≡ 2 → (r.width ≡ q.width) × (r.res ≡ q.res)
  -- every resolution is listed and divides layer 2's
  pub listed : (r : Record) → Among r rs → Listed r.res
  pub divides : (r q : Record) → Among r rs → Among q rs → Main r q → r.res ∣ q.res
  -- even layers have base colour 0 0 0
  pub base : (r : Record) → Among r rs → r.layer % 2 ≡ 0 → (r.base0 ≡ 0) × (r.base1 ≡ 0) × (r.base2 ≡ 0)
  -- in each stripe at least one of layers 1 to 3 is coded, and 1 and 3 are not both coded without 2
  pub some : (a b c : Record) → Among a rs → Among b rs → Among c rs → a.layer ≡ 1 → Main a b → c.layer ≡ 3 → Main c b
      → Coded a ⊎ Coded b ⊎ Coded c
  pub mask : (a b c : Record) → Among a rs → Among b rs → Among c rs → a.layer ≡ 1 → Main a b → c.layer ≡ 3 → Main c b
      → Coded a → Coded c → Coded b

-- a sheet of no octets is refused, and one that stops inside a stripe
pub record Complete (rs : List Record) : Type 0 where
  pub count : 0 < length rs
  pub closing : (i : ℕ) → i + 1 ≡ length rs → Closing (nth rs i)

pub record Sheet (rs : List Record) : Type 0 where
  pub unbroken : Unbroken rs
  pub complete : Complete rs

-- how many stripes the records make: one more than the last one's number
abbrev pub stripe_count : List Record → ℕ
stripe_count rs = (nth rs (length rs - 1)).stripe + 1

pub record Breaks (rs : List Record) (i : ℕ) : Type 0 where
  pub within : i < length rs
  pub before : Unbroken (take i rs)
  pub broken : Unbroken (take (i + 1) rs) → ⊥

-- with so many octets of a part record left
pub record StopsBadly (rs : List Record) (part i : ℕ) : Type 0 where
  pub due : i ≡ length rs
  pub before : Unbroken rs
  pub broken : Complete rs × (part ≡ 0) → ⊥

abbrev pub FaultAt : List Record → ℕ → ℕ → Type 0
FaultAt rs part i = Breaks rs i ⊎ StopsBadly rs part i

-- octets that are a sheet
abbrev pub Accepted : List ℕ → Type 0
Accepted s = Sheet (records s) × (rest s ≡ 0)

-- octets that are a sheet of n records and m stripes, and octets at fault at a record
pub record GoodSheet (s : List ℕ) (n m : ℕ) : Type 0 where
  pub sheet : Sheet (records s)
  pub whole : rest s ≡ 0
  pub count : n ≡ length (records s)
  pub stripes : m ≡ stripe_count (records s)

abbrev pub BadSheetAt : List ℕ → ℕ → Type 0
BadSheetAt s i = FaultAt (records s) (rest s) i

-- one line for each answer that the judge gives; it gives no other
pub data Judges (s : List ℕ) : Answer → Type 0 where
  good : {n : ℕ} → Accepted s → n ≡ length (records s) → Judges s (Ok n)
  no_sheet : {i : ℕ} → BadSheetAt s i → Judges s (Err (BadSheet i))
