-- A page of 64 stripes, and of any number from 1 to 64.
-- Assumes nothing.
use Prim.Native.Nat.{ℕ, zero, suc, ◌+◌, ◌-◌, ◌*◌, ◌≤◌, ◌<◌}
use native.Mathlib.Omega.{arith}
use mathlib.Core.Path.{◌≡◌, refl, sym}
use mathlib.Core.Logic.{inl, inr, ⊎_elim}
use mathlib.Core.Bool.{true, false, false≢true}
use mathlib.Core.List.{List, [], ◌∷◌, ◌++◌}
use lib.ListN.{length, replicate}
use lib.Dec.{lit<, lit≤}
use Rattle.sheet_rules.specs.declared.Record.{Record}
use Rattle.segment_rules.specs.Segment.{begin_of, short}
use Rattle.start_rules.specs.Grammar.{start_of, GoodHead}
use Rattle.body_rules.specs.Body.{no_more, last, next}
use Rattle.std.specs.Prelude.{None}
use Rattle.mode1_rules.specs.Kinds.{stripe_body}
use Rattle.mode1_rules.specs.Grammar as M1
use Rattle.mode1_rules.specs.Grammar.{fields_of, absent, records_of}
use Rattle.page_rules.specs.Grammar.{Stripe, Stripes, Page}
use Rattle.page_rules.proofs.Samples.{head, stripe, coded_mask}

-- its segment, and its body with its coded layers
abbrev pub begins : List ℕ
begins = begin_of 0x01 (stripe_body + 6)

abbrev pub behind : List ℕ
behind = fields_of stripe ++ (coded_mask ++ ([] ++ []))

abbrev octets : List ℕ
octets = begins ++ behind

good_head : GoodHead head
good_head = record { mask = inr (inr (inr (inl refl))); image = inl refl; main = inr (inl refl); width = (lit≤ tt, lit≤ tt) }

abbrev records_at : ℕ → ℕ → List Record
records_at k at = records_of head k stripe (at + length begins + stripe_body) None None

rest_of : (k left at : ℕ) → 2 ≤ left → M1.Stripe head k left at behind 2 (records_of head k stripe (at + stripe_body) None None)
rest_of k left at h =
    record {
      fields = stripe;
      mask = coded_mask;
      back = [];
      fore = [];
      back_is = None;
      fore_is = None;
      octets = refl;
      widths =
          record {
            kind = lit< tt;
            back = (lit< tt, lit< tt, lit< tt);
            fore = (lit< tt, lit< tt, lit< tt);
            offsets = (lit< tt, lit< tt, lit< tt, lit< tt);
            mask_length = lit< tt;
          };
      good =
          record {
            kind = inr (inl refl);
            mask_coder = λ e z. omega arith;
            image_coder = λ e. ⊎_elim (λ (x : false ≡ true). absurd (false≢true x)) (λ (x : false ≡ true). absurd (false≢true x)) e;
            back = λ e. absurd (false≢true e);
            fore = λ e. absurd (false≢true e);
            height = (lit≤ tt, h);
            mask = (λ e z. omega arith, λ e. absurd (false≢true (sym e)));
          };
      size = refl;
      back_there = absent;
      fore_there = absent;
      tall = refl;
      records = refl;
    }

one : (k left at : ℕ) → 2 ≤ left → Stripe head k left at octets 2 (records_at k at)
one k left at h = record { begin = begins; rest = behind; octets = refl; opens = short (lit< tt); behind = rest_of k left (at + length begins) h }

pub record Many (k left at n : ℕ) : Type 0 where
  pub stripes : List ℕ
  pub records : List Record
  pub striped : Stripes head k left at stripes records
  pub count : length records ≡ n * 3

many : (n k left at : ℕ) → 0 < k + n → k + n ≤ 64 → n * 2 ≤ left → Many k left at n
many zero k left at p m h = let q : 0 < k = omega arith in record { stripes = []; records = []; striped = last q; count = refl }
many (suc n) k left at p m h =
    let y = many n (suc k) (left - 2) (at + length octets) (omega arith) (omega arith) (omega arith) in
    let c = y.count in
    let few : k < 64 = omega arith in
    record {
      stripes = octets ++ y.stripes;
      records = records_at k at ++ y.records;
      striped = next 2 few (one k left at (omega arith)) y.striped;
      count = omega arith;
    }

-- a page of n stripes
pub record Striped (n : ℕ) : Type 0 where
  pub page : List ℕ
  pub records : List Record
  pub is_page : Page page records
  pub count : length records ≡ n * 3

pub page_of_lem : (n : ℕ) → 1 ≤ n → n ≤ 64 → Striped n
page_of_lem n lo hi =
    let y = many n 0 65535 (length (start_of head) + 0) (omega arith) (omega arith) (omega arith) in
    record {
      page = start_of head ++ ([] ++ (y.stripes ++ (0xFF ∷ 0xD9 ∷ 0xFF ∷ 0xD9 ∷ replicate 0 0)));
      records = y.records;
      is_page =
          record { head = head; optionals = []; stripes = y.stripes; zeros = 0; octets = refl; good = good_head; optional = no_more; striped = y.striped };
      count = y.count;
    }

pub sixty_four : Striped 64
sixty_four = page_of_lem 64 (lit≤ tt) (lit≤ tt)
