-- What is proved of exported calls one after the other, of their promises alone. The statements are for the reader.
-- Assumes nothing.
use Rattle.std.specs.Prelude.{Ok}
use Prim.Native.Nat.{ℕ, ◌+◌, ◌*◌, ◌/◌, ◌≤◌, ◌<◌}
use native.Mathlib.Omega.{arith}
use mathlib.Core.Path.{◌≡◌, sym, ap, ap₂, subst, ◌∙◌}
use mathlib.Core.List.{List, ◌++◌, map}
use lib.ListN.{length, take, drop, take-append-drop, length-take}
use Rattle.octets.specs.Octets.{Octets, be32_at, put_at}
use Rattle.octets.proofs.Laws.{put_back, put_rest}
use Rattle.octets.proofs.Entries.{joined_length}
use Rattle.answers.specs.Answers.{Answer, number_of, place_of, count_of}
use Rattle.answers_report.specs.declared.Report.{Report}
use Rattle.answers_report.specs.Report.{report_of}
use Rattle.field_rules.specs.Field.{ok}
use Rattle.segment_rules.specs.Rules.{longest_page}
use Rattle.sheet_rules.specs.declared.Record.{Record}
use Rattle.sheet_rules.specs.Record.{record_size, record_at, sheet_of, records}
use Rattle.sheet_rules.proofs.Cut.{record_entry, sheet_octets}
use Rattle.page_rules.specs.Reading.{page_of, read_of}
use Rattle.page_rules.proofs.Exactly.{page_there}
use Rattle.page_rules.proofs.Theorems.{page_once, read_done}
use Rattle.page_rules.proofs.Into.{Front, page_into}
use Rattle.write_rules.specs.Layer.{layer_octets}
use Rattle.write_rules.specs.Writing.{write_of, write_into}
use Rattle.write_rules.specs.Form.{bare, Formed}
use Rattle.write_rules.proofs.Into.{done_into}
use Rattle.write_again.proofs.Theorems.{formed_again, Again, read_write_read}
use Rattle.call_rules.specs.Calls.{ReadCall, WriteCall}
use Rattle.call_rules.proofs.Reports.{report_done}
use Rattle.call_rules.proofs.Reading.{read_front}
use Rattle.call_rules.proofs.Writing.{written_front}
use Rattle.trip_rules.specs.Trips.{SameButStarts, SameLayers, Returned, Restored}
use Rattle.trip_rules.proofs.Sheets.{same_count, sheets_same, layers_same}

abbrev done : ℕ → Report
done n = record { number = 0; place = 0; count = n }

reports_done : (a : Answer) (r : Report) (n : ℕ) → r ≡ report_of a → a ≡ Ok n → r ≡ done n
unfolding report_of number_of place_of count_of
reports_done a r n e d = e ∙ ap report_of d

-- a page whose records are those of a sheet but for their starts, with the same layers, is read
returned : (s d p : List ℕ) (rs qs : List Record) (n : ℕ) → sheet_of rs ≡ s → page_of p ≡ ok qs n → length p ≤ longest_page → map bare qs ≡ map bare rs
    → map (layer_octets p) qs ≡ map (layer_octets d) rs → (buf : List ℕ) (q : Report) (buf' : List ℕ) → ReadCall p buf q buf' → length s ≤ length buf
    → Returned s d p q (take (length s) buf')
returned s d p rs qs n is read short same layers buf q buf' c room =
    let k = same_count rs qs same in
    let a = joined_length record_entry rs in
    let b = joined_length record_entry qs in
    let l : length (sheet_of rs) ≡ length s = ap length is in
    let m : length s ≡ length (sheet_of qs) = omega arith in
    let i = page_into p buf qs n read short (omega arith) in
    let e : length qs ≡ length s / record_size = omega arith in
    let f : take (length s) buf' ≡ sheet_of qs =
    ap₂ (λ (j : ℕ) (x : List ℕ). take j x) m (c.holds ∙ i.1) ∙ put_back buf 0 (sheet_of qs) (omega arith) in
    record {
      report = reports_done (read_of p (length buf)) q (length s / record_size) c.reports (i.0 ∙ ap Ok e);
      same = subst (SameButStarts s) (sym f) (subst (λ (x : List ℕ). SameButStarts x (sheet_of qs)) is (sheets_same rs qs same));
      layers =
          subst (λ (t : List ℕ). SameLayers s d t p) (sym f)
          (subst (λ (x : List ℕ). SameLayers x d (sheet_of qs) p) is (layers_same rs qs same d p layers));
    }

-- ---- what was written and is read back is the sheet that was lent, octet for octet but for octets 18 to 21 of coded records, with the same layers

pub written_read : (s d out : List ℕ) (r : Report) (out' : List ℕ) → WriteCall s d out r out' → Octets s → Octets d → r.number ≡ 0
    → (buf : List ℕ) (q : Report) (buf' : List ℕ) → ReadCall (take r.count out') buf q buf' → length s ≤ length buf
    → Returned s d (take r.count out') q (take (length s) buf')
written_read s d out r out' w os od z buf q buf' c room =
    let i = done_into s d out od r.count (report_done (write_of s d (length out)) r w.reports z) in
    let k = written_front s d out r out' w os od z in
    let l = length-take r.count out' in
    let h = i.short in
    returned s d (take r.count out') (records s) k.records (length (take r.count out')) (sheet_octets s os i.accepted.whole)
    (page_there (take r.count out') k.records k.page) (omega arith) k.same k.layers buf q buf' c room

-- ---- a page that was read, and its sheet and itself lent to the writer

module _ (p buf : List ℕ) (r : Report) (buf' : List ℕ) (c : ReadCall p buf r buf') (o : Octets p) (z : r.number ≡ 0) where
  answered : read_of p (length buf) ≡ Ok r.count
  answered = report_done (read_of p (length buf)) r c.reports z

  front : Front p r.count (take (r.count * record_size) buf')
  front = read_front p buf r buf' c z o

  short : length p ≤ longest_page
  short = ((read_done p o (length buf) r.count).0 answered).short

  module _ (out : List ℕ) (w : Report) (out' : List ℕ) (k : WriteCall (take (r.count * record_size) buf') p out w out')
      (fits : length p ≤ length out) where
    reported : (rs : List Record) → take (r.count * record_size) buf' ≡ sheet_of rs → (n : ℕ) → write_of (sheet_of rs) p (length out) ≡ Ok n → w ≡ done n
    reported rs e n d =
        reports_done (write_of (take (r.count * record_size) buf') p (length out)) w n k.reports
        (ap (λ (s : List ℕ). write_of s p (length out)) e ∙ d)

    held : (rs : List Record) → take (r.count * record_size) buf' ≡ sheet_of rs → out' ≡ write_into (sheet_of rs) p out
    held rs e = k.holds ∙ ap (λ (s : List ℕ). write_into s p out) e

    -- in the writer's form it comes back octet for octet
    pub formed_restored : (rs : List Record) → Formed p rs → Restored p w out out'
    formed_restored rs f =
        let e = front.octets ∙ ap sheet_of (page_once p front.list rs front.page f.page) in
        let a = formed_again p o rs f short out fits in
        let g : out' ≡ put_at out 0 p = held rs e ∙ a.1 in
        let n : 0 + length p ≡ length p = omega arith in
        record {
          report = reported rs e (length p) a.0;
          page = ap (take (length p)) g ∙ put_back out 0 p (omega arith);
          behind = ap₂ (λ (j : ℕ) (x : List ℕ). drop j x) (sym n) g ∙ put_rest out 0 p (omega arith) ∙ ap (λ (j : ℕ). drop j out) n;
        }

    again : Again p front.list out
    again = read_write_read p o front.list (length p) (page_there p front.list front.page) short out fits

    reported_again : w ≡ done again.count
    reported_again = reported front.list front.octets again.count again.done

    count_again : w.count ≡ again.count
    count_again = ap (λ (x : Report). x.count) reported_again

    -- in any form it is written, in no more octets
    pub read_written : (w ≡ record { number = 0; place = 0; count = w.count }) × (w.count ≤ length p)
    read_written = let n = count_again in let m = again.most in (reported_again ∙ ap done (sym n), omega arith)

    -- and read again it gives the same report and the same sheet, octet for octet but for octets 18 to 21 of coded records, with the same layers
    pub read_again : (lent : List ℕ) (q : Report) (lent' : List ℕ) → ReadCall (take w.count out') lent q lent' → r.count * record_size ≤ length lent
        → (q ≡ r) × Returned (take (r.count * record_size) buf') p (take w.count out') q (take (r.count * record_size) lent')
    read_again lent q lent' y room =
        let g : take w.count out' ≡ take again.count (write_into (sheet_of front.list) p out) =
        ap₂ (λ (j : ℕ) (x : List ℕ). take j x) count_again (held front.list front.octets) in
        let a = ap length front.octets in
        let b = joined_length record_entry front.list in
        let i = front.good.count ∙ ap length front.cut in
        let l : length (take (r.count * record_size) buf') ≡ r.count * record_size = omega arith in
        let t = length-take w.count out' in
        let v = read_written.1 in
        let m = short in
        let back =
        returned (take (r.count * record_size) buf') p (take w.count out') front.list again.records again.count (sym front.octets)
        (ap page_of g ∙ again.read) (omega arith) again.same (ap (λ (x : List ℕ). map (layer_octets x) again.records) g ∙ again.layers)
        lent q lent' y (omega arith) in
        let h : length (take (r.count * record_size) buf') / record_size ≡ r.count = omega arith in (
          back.report ∙ ap done h ∙ sym (reports_done (read_of p (length buf)) r r.count c.reports answered),
          subst (λ (j : ℕ). Returned (take (r.count * record_size) buf') p (take w.count out') q (take j lent')) l back,
        )

-- ---- what is said of a page that comes back leaves nothing open: the report, and each octet of the buffer

pub restored_once : (p out : List ℕ) (q r : Report) (a b : List ℕ) → Restored p q out a → Restored p r out b → (q ≡ r) × (a ≡ b)
restored_once p out q r a b x y = (
  x.report ∙ sym y.report,
  let front : take (length p) a ≡ take (length p) b = x.page ∙ sym y.page in
      let behind : drop (length p) a ≡ drop (length p) b = x.behind ∙ sym y.behind in
      sym (take-append-drop (length p) a) ∙ ap₂ (λ (f e : List ℕ). f ++ e) front behind ∙ take-append-drop (length p) b,
)

-- and of a sheet that comes back: by octets 18 to 25 of each record, the last too, the data that it names
pub returned_octets : (s d p : List ℕ) (q : Report) (t : List ℕ) → Returned s d p q t → (i : ℕ) → i < length s / 28
    → take (be32_at t (i * 28 + 22)) (drop (be32_at t (i * 28 + 18)) p) ≡ take (be32_at s (i * 28 + 22)) (drop (be32_at s (i * 28 + 18)) d)
unfolding record_at
returned_octets s d p q t x i h = x.layers i h
