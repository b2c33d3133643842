-- What is proved of a page that is written from its own sheet and itself. The statements are for the reader; how each is shown stands in the files
-- beside this one.
-- Assumes nothing.
use Rattle.std.specs.Prelude.{Ok}
use Prim.Native.Nat.{ℕ, ◌+◌, ◌≤◌}
use native.Mathlib.Omega.{arith}
use mathlib.Core.Path.{◌≡◌, sym, ap, subst, ◌∙◌}
use mathlib.Core.List.{List, map}
use lib.ListN.{length, take}
use Rattle.octets.specs.Octets.{Octets, put_at}
use Rattle.segment_rules.specs.Rules.{longest_page}
use Rattle.field_rules.specs.Field.{ok}
use Rattle.segment_rules.specs.declared.Mode.TheVariants.{One}
use Rattle.segment_rules.specs.Rules.{mode1}
use Rattle.sheet_rules.specs.declared.Record.{Record}
use Rattle.sheet_rules.specs.Record.{records, sheet_of}
use Rattle.sheet_rules.specs.Sentences.{Sheet}
use Rattle.sheet_rules.proofs.Cut.{sheet_back, sheet_whole}
use Rattle.page_rules.specs.Grammar.{Page}
use Rattle.page_rules.specs.Reading.{page_of}
use Rattle.page_rules.proofs.Exactly.{page_there}
use Rattle.page_rules.proofs.Exactly.{page_back}
use Rattle.write_rules.specs.Writing.{begun, page_by, write_of, write_into}
use Rattle.write_rules.specs.Layer.{layer_octets}
use Rattle.write_rules.specs.Form.{bare, Formed}
use Rattle.write_rules.specs.Sentences.{Fine, Low, start_size, page_end, size_of, Sound, written, sheet_main}
use Rattle.write_rules.proofs.Theorems.{write_exactly, write_octets, write_formed}
use Rattle.write_rules.proofs.Passed.{Passed}
use Rattle.write_rules.proofs.Written.{records_sized}
use Rattle.write_rules.proofs.Into.{done_into, into_size, into_lands}
use Rattle.write_again.proofs.Again.{page_again}
use Rattle.write_again.proofs.Trips.{length_page, trip_sheet, trip_low, trip_fine, sheet_sized, trip_size}

-- ---- a page of at most 16,777,215 octets can be written from its sheet and itself, into a buffer as long as it is

lent_done : (p : List ℕ) → Octets p → (rs : List Record) (y : Page p rs) → length p ≤ longest_page → (room : ℕ) → length p ≤ room
    → write_of (sheet_of rs) p room ≡ Ok (start_size + length page_end + length y.stripes)
lent_done p o rs y short room fits =
    let l = length_page p rs y in
    let e = sheet_back rs in
    let k : Sound (sheet_of rs) p =
    record {
      sheet = subst Sheet (sym e) (trip_sheet p rs y short);
      whole = sheet_whole rs;
      low = subst (Low One) (sym e) (trip_low p rs y short);
      fine = subst (λ (x : List Record). Fine (sheet_main x) p x) (sym e) (trip_fine p rs y short);
    } in
    (write_exactly (sheet_of rs) p o room (Ok (start_size + length page_end + length y.stripes))).1 (written k (trip_size p rs y short ∙ ap (size_of One) (sym e)) (omega arith) (omega arith))

-- a page in the writer's form comes back octet for octet

pub formed_again : (p : List ℕ) → Octets p → (rs : List Record) → Formed p rs → length p ≤ longest_page → (out : List ℕ) → length p ≤ length out
    → (write_of (sheet_of rs) p (length out) ≡ Ok (length p)) × (write_into (sheet_of rs) p out ≡ put_at out 0 p)
formed_again p o rs f short out fits =
    let l = length_page p rs f.page in
    let lo : length f.page.optionals ≡ 0 = ap length f.optionals in
    let lz = f.padding in
    let z : start_size + length page_end + length f.page.stripes ≡ length p = omega arith in
    let q : write_of (sheet_of rs) p (length out) ≡ Ok (length p) = lent_done p o rs f.page short (length out) fits ∙ ap Ok z in
    let k = done_into (sheet_of rs) p out o (length p) q in
    let e : page_by mode1 p (records (sheet_of rs)) k.u ≡ p =
    ap (λ (x : List Record). page_by mode1 p x k.u) (sheet_back rs)
    ∙ page_again p rs f k.u (subst (λ (x : List Record). Passed One p (sheet_main x) begun k.u x) (sheet_back rs) k.accepted.passed) in
    (q, k.into ∙ ap (put_at out 0) e)

-- so that a page that was written, written again from the sheet that reading gives of it, is the same page

pub write_again : (s d p : List ℕ) → Octets s → Octets d → (n : ℕ) → write_of s d (length p) ≡ Ok n → (rs : List Record) → Page (take n (write_into s d p)) rs
    → (t : List ℕ) → n ≤ length t
    → (write_of (sheet_of rs) (take n (write_into s d p)) (length t) ≡ Ok n) × (write_into (sheet_of rs) (take n (write_into s d p)) t ≡ put_at t 0 (take n (write_into s d p)))
write_again s d p os o n q rs y t h =
    let i = done_into s d p o n q in
    let l = into_size s d p o (records_sized s os) n i in
    let short = i.short in
    let a = formed_again (take n (write_into s d p)) (write_octets s d p os o n q) rs (write_formed s d p os o n q rs y) (omega arith) t (omega arith) in
    (a.0 ∙ ap Ok l, a.1)

-- for every page that is read: writing its sheet from the page itself and reading again gives the same sheet, but for octets 18 to 21 of coded
-- records, and the same layers

pub record Again (p : List ℕ) (rs : List Record) (out : List ℕ) : Type 0 where
  pub count : ℕ
  pub done : write_of (sheet_of rs) p (length out) ≡ Ok count
  pub most : count ≤ length p
  pub records : List Record
  pub read : page_of (take count (write_into (sheet_of rs) p out)) ≡ ok records count
  pub same : map bare records ≡ map bare rs
  pub layers : map (layer_octets (take count (write_into (sheet_of rs) p out))) records ≡ map (layer_octets p) rs

pub read_write_read : (p : List ℕ) → Octets p → (rs : List Record) (n : ℕ) → page_of p ≡ ok rs n → length p ≤ longest_page → (out : List ℕ) → length p ≤ length out → Again p rs out
read_write_read p o rs n e short out fits =
    let y = (page_back p o rs n e).0 in
    let l = length_page p rs y in
    let c : ℕ = start_size + length page_end + length y.stripes in
    let q = lent_done p o rs y short (length out) fits in
    let i = done_into (sheet_of rs) p out o (start_size + length page_end + length y.stripes) q in
    let k = into_lands (sheet_of rs) p out o (sheet_sized p rs y short) (start_size + length page_end + length y.stripes) i in
    let m = into_size (sheet_of rs) p out o (sheet_sized p rs y short) (start_size + length page_end + length y.stripes) i in
    record {
      count = start_size + length page_end + length y.stripes;
      done = q;
      most = omega arith;
      records = k.records;
      read = page_there (take (start_size + length page_end + length y.stripes) (write_into (sheet_of rs) p out)) k.records k.page ∙ ap (ok k.records) m;
      same = k.same ∙ ap (map bare) (sheet_back rs);
      layers = k.layers ∙ ap (map (layer_octets p)) (sheet_back rs);
    }
