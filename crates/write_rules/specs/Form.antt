-- What is said of the pages that are written.
--
--   start_at r p    the record with another start
--   bare r         the record without the start of its coded data: all but octets 18 to 21 of a coded record
--   ButForStart r q    the same in every field, but for the start, and in the start too where the record is not coded
--   Lands rs d l   the octets l are a page whose sheet is that of the records rs, but for octets 18 to 21 of coded records; and the data of each
--                  is the data that the buffer d has for it
--   Trim ..        each stripe of a page has the writer's form
--   UsedMask, UsedImage   some mask, or some image layer, among the records is coded
--   Formed p rs    the octets p are a page with the records rs, in the writer's form
use Rattle.std.specs.Prelude.{ℕ, ◌+◌, ◌≡◌, ◌≢◌, cond, List, [], map, length}
use Rattle.sheet_rules.specs.declared.Record.{Record}
use Rattle.sheet_rules.specs.Judge.{coded}
use Rattle.sheet_rules.specs.Sentences.{Among, Coded, Uncoded}
use Rattle.start_rules.specs.declared.Head.{Head}
use Rattle.page_rules.specs.Grammar.{Stripes, Page}
use Rattle.body_rules.specs.Body.{last, next}
use Rattle.write_rules.specs.Layer.{layer_octets}
use Rattle.write_rules.specs.Modes.{TrimIn}

abbrev pub start_at : Record → ℕ → Record
start_at r start =
    record {
      stripe = r.stripe;
      layer = r.layer;
      coder = r.coder;
      x = r.x;
      y = r.y;
      width = r.width;
      height = r.height;
      res = r.res;
      base0 = r.base0;
      base1 = r.base1;
      base2 = r.base2;
      octet17 = r.octet17;
      start = start;
      len = r.len;
      octets26 = r.octets26;
    }

unfoldable pub bare : Record → Record
bare r = start_at r (cond (coded r) 0 r.start)

pub record ButForStart (r q : Record) : Type 0 where
  pub stripe : r.stripe ≡ q.stripe
  pub layer : r.layer ≡ q.layer
  pub coder : r.coder ≡ q.coder
  pub x : r.x ≡ q.x
  pub y : r.y ≡ q.y
  pub width : r.width ≡ q.width
  pub height : r.height ≡ q.height
  pub res : r.res ≡ q.res
  pub base0 : r.base0 ≡ q.base0
  pub base1 : r.base1 ≡ q.base1
  pub base2 : r.base2 ≡ q.base2
  pub octet17 : r.octet17 ≡ q.octet17
  pub start : Uncoded r → r.start ≡ q.start
  pub len : r.len ≡ q.len
  pub octets26 : r.octets26 ≡ q.octets26

-- ---- what is written from records and a buffer

pub record Lands (rs : List Record) (d l : List ℕ) : Type 0 where
  pub records : List Record
  pub page : Page l records
  pub same : map bare records ≡ map bare rs
  pub layers : map (layer_octets l) records ≡ map (layer_octets d) rs

-- ---- the writer's form, of a page

unfoldable pub Trim : {hd : Head} {k left at : ℕ} {l : List ℕ} {rs : List Record} → Stripes hd k left at l rs → Type 0
Trim (last some) = Unit {0}
Trim {hd} {k} {left} {at} (next {l = l} {rs = rs} height few z rest) =
    TrimIn hd.rules.mode hd k left (at + length z.begin) z.rest height rs z.behind × Trim rest

-- a coded layer among the records: a mask, or an image layer
pub record UsedMask (rs : List Record) : Type 0 where
  pub it : Record
  pub among : Among it rs
  pub mask : it.layer ≡ 2
  pub coded : Coded it

pub record UsedImage (rs : List Record) : Type 0 where
  pub it : Record
  pub among : Among it rs
  pub image : it.layer ≢ 2
  pub coded : Coded it

pub record Formed (p : List ℕ) (rs : List Record) : Type 0 where
  pub page : Page p rs
  -- each coder octet is the coder used, or 0 (a page's coded layers have the coder that its octet names)
  pub mask : page.head.mask ≢ 0 → UsedMask rs
  pub image : page.head.image ≢ 0 → UsedImage rs
  pub offsets : Trim page.striped
  pub optionals : page.optionals ≡ []
  pub padding : page.zeros ≡ 0
