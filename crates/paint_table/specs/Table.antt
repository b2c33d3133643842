-- The table of a part of a row, the pixels a up to b: where each floor's samples are. All of them have as many octets: each.
--
--   place_of             where the row's sample at the part's pixel j is
--   Ready               the layer has such a sample at each pixel of the part, k pixels each, and three octets more behind the last one's first
--   Lined               the table's column c has the places of row r
--   Placed              that column was put, and no other changed
--   FirstReady          the floor c is ready, and its ratio divides twelve, if it is one
--   row_for              the row whose places a floor's column has: its own if it is lit, and else the first one's
--   Column              column c was put, and no other floor's
--   Tabled              the columns of all floors from f on, and of the dark, have places of rows that are ready
use Rattle.std.specs.Prelude.{ℕ, ◌+◌, ◌-◌, ◌*◌, ◌/◌, ◌%◌, ◌≤◌, ◌<◌, ◌≡◌, ◌≢◌, cond, List, length, get_or, eqb}
use Rattle.line_fetch.specs.declared.Row.{Row}
use Rattle.line_fetch.specs.Rows.{row_at, Turns}
use Rattle.paint_rules.specs.Floor.{dark}
use Rattle.paint_gather.specs.Gather.{entry}

unfoldable pub place_of : ℕ → Row → ℕ → ℕ → ℕ
place_of each r a j = r.at + (a + j - r.from.0) / r.ratio * each

pub record Ready (each : ℕ) (d : List ℕ) (r : Row) (k a b : ℕ) : Type 0 where
  pub turns : Turns r
  pub read : r.read ≡ each
  pub ratio : r.ratio ≡ k
  pub from : r.from.0 ≤ a
  pub to : b ≤ r.to.0
  pub wide : r.at + (b - 1 - r.from.0) / r.ratio * each + 4 ≤ length d

pub record Lined (each : ℕ) (t : List ℕ) (c : ℕ) (r : Row) (a : ℕ) : Type 0 where
  pub there : (j : ℕ) → j < 12 → entry t j c ≡ place_of each r a j

pub record Placed (each : ℕ) (l : List ℕ) (c : ℕ) (r : Row) (a : ℕ) (t : List ℕ) : Type 0 where
  pub long : length t ≡ length l
  pub here : Lined each t c r a
  pub kept : (j m : ℕ) → j < 12 → m < 16 → m ≢ c → entry t j m ≡ entry l j m

pub record FirstReady (each : ℕ) (d ns : List ℕ) (pairs f a b c : ℕ) : Type 0 where
  pub from : f ≤ c
  pub ready : c ≤ pairs → Ready each d (row_at ns (c * 2 + 1)) (row_at ns (c * 2 + 1)).ratio a b
  pub divides : c ≤ pairs → 12 % (row_at ns (c * 2 + 1)).ratio ≡ 0

unfoldable pub row_for : List ℕ → List ℕ → Row → ℕ → Row
row_for lit ns first c = cond (eqb (get_or lit c 0) 1) (row_at ns (c * 2 + 1)) first

pub record Column (each : ℕ) (d ns : List ℕ) (first : Row) (c a b : ℕ) (l lit₀ t lit : List ℕ) : Type 0 where
  pub long : length t ≡ length l
  pub lits : length lit ≡ length lit₀
  pub here : Lined each t c (row_for lit ns first c) a
  pub ready : Ready each d (row_for lit ns first c) first.ratio a b
  pub kept : (j m : ℕ) → j < 12 → m < 16 → m ≢ c → entry t j m ≡ entry l j m
  pub same : (m : ℕ) → m ≢ c → get_or lit m 0 ≡ get_or lit₀ m 0

pub record Tabled (each : ℕ) (d ns t lit : List ℕ) (pairs f a b step : ℕ) : Type 0 where
  pub first : Row
  pub long : 192 ≤ length t
  pub lits : 16 ≤ length lit
  pub divides : 12 % first.ratio ≡ 0
  pub some : 1 ≤ each
  pub most : each ≤ 3
  pub steps : step ≡ 12 / first.ratio * each
  pub ready : Ready each d first first.ratio a b
  pub dark : Lined each t dark first a
  pub lined : (c : ℕ) → f ≤ c → c ≤ pairs → Lined each t c (row_for lit ns first c) a
  pub fit : (c : ℕ) → f ≤ c → c ≤ pairs → Ready each d (row_for lit ns first c) first.ratio a b
