-- What is handed to the viewer: the part itself.
--
--   spot d n                         where octet n of the slice d lies in memory
--   PartAt d start n r               r is n octets of the slice d from a start on, where they lie
--   lent_from page pencil x          the slice that holds the part
--   HandsPart s page pencil k l r    r is the part that is handed out: a part of the page or of the pencil file that was lent, and no copy
use Rattle.std.specs.Prelude.{ℕ, ◌+◌, ◌≡◌, List, take, drop}
use Rattle.std.specs.Borrow.{Bor}
use Rattle.data_rules.specs.declared.Source.{Source}
use Rattle.data_rules.specs.declared.Source.TheVariants.{Page, Pencil}
use Rattle.data_rules.specs.Data.{part_of, part_source, part_start}

-- a slice is where it begins, a block of memory and an octet of it (ref_ptr), and its octets (now)
abbrev pub spot : Bor (List ℕ) → ℕ → ℕ × ℕ
spot d n = (d.ref_ptr.0, n + d.ref_ptr.1)

pub record PartAt (d : Bor (List ℕ)) (start n : ℕ) (r : Bor (List ℕ)) : Type 0 where
  pub octets : r.now ≡ take n (drop start d.now)
  pub place : r.ref_ptr ≡ spot d start

unfoldable pub lent_from : Bor (List ℕ) → Bor (List ℕ) → Source → Bor (List ℕ)
lent_from page pencil Page = page
lent_from page pencil Pencil = pencil

pub record HandsPart (s : List ℕ) (page pencil : Bor (List ℕ)) (k l : ℕ) (r : Bor (List ℕ)) : Type 0 where
  pub octets : r.now ≡ part_of s page.now pencil.now k l
  pub place : r.ref_ptr ≡ spot (lent_from page pencil (part_source s page.now pencil.now k l)) (part_start s page.now pencil.now k l)
