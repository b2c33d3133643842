-- What is proved of reading a page. The statements are for the reader; how each is shown stands in the files beside this one.
-- Assumes nothing.
use Rattle.std.specs.Prelude.{Ok, Err}
use Prim.Native.Nat.{ℕ, ◌*◌, ◌≤◌}
use mathlib.Core.Path.{◌≡◌, refl, sym, ap, subst, ◌∙◌}
use mathlib.Core.Logic.{◌↔◌, ◌⊎◌, inl, inr}
use mathlib.Core.List.{List}
use lib.ListN.{length}
use lib.Dec.{ltb}
use borrow.Author.Tests.{le-ltb, lt-ltb, ltb-false, ltb-true}
use Rattle.octets.specs.Octets.{Octets}
use Rattle.segment_rules.specs.Rules.{longest_page}
use Rattle.laws.proofs.Cases.{cond_with, clash}
use Rattle.answers.specs.declared.Refusal.{Refusal}
use Rattle.answers.specs.Answers.{Answer}
use Rattle.answers.specs.declared.Refusal.TheVariants.{NoRoom, TooLong}
use Rattle.field_rules.specs.Field.{Res, ok, no}
use Rattle.sheet_rules.specs.declared.Record.{Record}
use Rattle.sheet_rules.specs.Record.{record_size}
use Rattle.page_rules.specs.Grammar.{Page}
use Rattle.page_rules.specs.Reading.{page_of, room_of, read_of}
use Rattle.page_rules.specs.Faults.{BadPage, Answers, too_long, refused, no_room, done}
use Rattle.page_rules.proofs.Exactly.{page_there, page_back, page_bad, page_blamed}
use Rattle.field_rules.proofs.Named.{PageRefusal}
use Rattle.page_rules.proofs.Refused.{page_refused}

-- ---- a page is read with these records exactly if it is a page of the grammar with that sheet

pub page_exactly : (s : List ℕ) → Octets s → (rs : List Record) → page_of s ≡ ok rs (length s) ↔ Page s rs
page_exactly s o rs = (λ q. (page_back s o rs (length s) q).0, λ p. page_there s rs p)

-- ---- the sheet is determined by the page

pub page_once : (s : List ℕ) (rs sr : List Record) → Page s rs → Page s sr → rs ≡ sr
page_once s rs sr p q = let a = page_there s rs p in let b = page_there s sr q in cc

-- ---- and it is refused with an answer exactly if its octets are bad so: the number and the place

pub page_refused_exactly : (s : List ℕ) → Octets s → (x : Refusal) → page_of s ≡ no x ↔ BadPage s x
page_refused_exactly s o x = (page_blamed s o x, page_bad s x)

-- a page is refused with one answer only, and no page of the grammar is
pub refused_once : (s : List ℕ) (x y : Refusal) → BadPage s x → BadPage s y → x ≡ y
refused_once s x y a b = let p = page_bad s x a in let q = page_bad s y b in let z : ◌≡◌ {A = Res (List Record)} (no x) (no y) = sym p ∙ q in cc

pub page_not_bad : (s : List ℕ) (rs : List Record) (x : Refusal) → Page s rs → BadPage s x → ⊥
page_not_bad s rs x p b = let q = page_there s rs p in let z : ◌≡◌ {A = Res (List Record)} (ok rs (length s)) (no x) = sym q ∙ page_bad s x b in clash cc

-- ---- what the call answers, in one sentence without a step: the number, the place and the count for every page and every buffer

answers : (s : List ℕ) (room : ℕ) (x : Answer) → Answers s room x → read_of s room ≡ x
unfolding read_of room_of
answers s room (Err TooLong) (too_long h) = simp (lt-ltb longest_page (length s) h)
answers s room (Err x) (refused h b) = simp (le-ltb longest_page (length s) h, page_bad s x b)
answers s room (Err NoRoom) (no_room rs h p r) = simp (le-ltb longest_page (length s) h, page_there s rs p, lt-ltb room (length rs * record_size) r)
answers s room x (done rs h p r) = simp (le-ltb longest_page (length s) h, page_there s rs p, le-ltb room (length rs * record_size) r)

answered : (s : List ℕ) (room : ℕ) → Octets s → Answers s room (read_of s room)
unfolding read_of room_of
answered s room o =
    cond_with (Answers s room) (ltb longest_page (length s)) (λ t. too_long (ltb-true longest_page (length s) t)) λ t. by (ltb-false longest_page (length s) t) (page_of s) refl
  where
    by : length s ≤ longest_page → (r : Res (List Record)) → page_of s ≡ r → Answers s room (room_of room r)
    by h (ok rs n) e =
        let p = (page_back s o rs n e).0 in
        cond_with (Answers s room) (ltb room (length rs * record_size)) (λ t. no_room rs h p (ltb-true room (length rs * record_size) t)) (λ t. done rs h p (ltb-false room (length rs * record_size) t))
    by h (no x) e = refused h (page_blamed s o x e)

pub answers_exactly : (s : List ℕ) → Octets s → (room : ℕ) (x : Answer) → read_of s room ≡ x ↔ Answers s room x
answers_exactly s o room x = (λ e. subst (Answers s room) e (answered s room o), answers s room x)

-- ---- the call answers Done with n records exactly if the octets are a page of that many records, at most 16,777,215 octets long, and the
-- buffer holds 28 octets a record

pub record Readable (s : List ℕ) (room n : ℕ) : Type 0 where
  pub records : List Record
  pub page : Page s records
  pub count : n ≡ length records
  pub short : length s ≤ longest_page
  pub holds : length records * record_size ≤ room

room_done : (s : List ℕ) → Octets s → (room n : ℕ) → length s ≤ longest_page → (r : Res (List Record)) → page_of s ≡ r → room_of room r ≡ Ok n → Readable s room n
unfolding room_of
room_done s o room n h (ok rs m) e =
    cond_with (λ x. x ≡ Ok n → Readable s room n) (ltb room (length rs * record_size)) (λ t q. clash cc)
    (λ t q.
    let z : length rs ≡ n = cc in
    record { records = rs; page = (page_back s o rs m e).0; count = sym z; short = h; holds = ltb-false room (length rs * record_size) t })
room_done s o room n h (no a) e = λ q. clash cc

pub read_done : (s : List ℕ) → Octets s → (room n : ℕ) → read_of s room ≡ Ok n ↔ Readable s room n
unfolding read_of
read_done s o room n = (
  cond_with (λ x. x ≡ Ok n → Readable s room n) (ltb longest_page (length s)) (λ t q. clash cc)
      (λ t q. room_done s o room n (ltb-false longest_page (length s) t) (page_of s) refl q),
  λ k. simp (le-ltb longest_page (length s) k.short, page_there s k.records k.page, le-ltb room (length k.records * record_size) k.holds) (ap Ok (sym k.count)),
)

-- ---- any other answer is one of the refusals that the paper's order for reading names, at a place of the page

pub ReadRefusal : ℕ → Refusal → Type 0
ReadRefusal n a = PageRefusal n a ⊎ ((a ≡ NoRoom) ⊎ (a ≡ TooLong))

pub read_refused : (s : List ℕ) → Octets s → (room : ℕ) (x : Refusal) → read_of s room ≡ Err x → ReadRefusal (length s) x
unfolding read_of room_of ReadRefusal
read_refused s o room x =
    cond_with (λ y. y ≡ Err x → ReadRefusal (length s) x) (ltb longest_page (length s)) (λ t e. inr (inr cc)) λ t. go (page_of s) refl
  where
    go : (r : Res (List Record)) → page_of s ≡ r → room_of room r ≡ Err x → ReadRefusal (length s) x
    go (ok rs n) e =
        cond_with (λ y. y ≡ Err x → ReadRefusal (length s) x) (ltb room (length rs * record_size)) (λ t d. inr (inl cc)) (λ t d. clash cc)
    go (no a) e = λ d. let z : a ≡ x = cc in inl (page_refused s x o (e ∙ ap no z))
