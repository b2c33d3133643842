-- What is proved of writing a page. The statements are for the reader; how each is shown stands in the files beside this one.
-- Assumes nothing.
use Rattle.std.specs.Prelude.{Ok, Err}
use Prim.Native.Nat.{ℕ, ◌*◌, ◌≤◌}
use native.Mathlib.Omega.{arith}
use mathlib.Core.Path.{◌≡◌, refl, sym, ap, subst, ◌∙◌}
use mathlib.Core.Logic.{◌↔◌, ◌⊎◌, inl, inr}
use mathlib.Core.List.{List}
use lib.ListN.{length, take, drop, length-map}
use lib.Dec.{ltb}
use Rattle.octets.specs.Octets.{Octets, put_at}
use Rattle.segment_rules.specs.Rules.{longest_page}
use Rattle.laws.proofs.Cases.{cond_both}
use Rattle.answers.specs.declared.Refusal.{Refusal}
use Rattle.answers.specs.Answers.{Answer, refusal_place}
use Rattle.answers.specs.declared.Refusal.TheVariants.{Short, BadMode, NoRoom, BadSheet, Mismatch, TooLong}
use Rattle.field_rules.specs.Field.{Res, ok, no}
use Rattle.segment_rules.specs.Rules.{mode1}
use Rattle.sheet_rules.specs.declared.Record.{Record}
use Rattle.sheet_rules.specs.Record.{record_size, records, sheet_of}
use Rattle.sheet_rules.proofs.Cut.{records_count}
use Rattle.sheet_rules.proofs.Theorems.{sheet_refused, refused_few}
use Rattle.page_rules.specs.Grammar.{Page}
use Rattle.page_rules.specs.Reading.{read_of, read_into}
use Rattle.page_rules.proofs.Exactly.{page_there}
use Rattle.page_rules.proofs.Into.{page_into}
use Rattle.write_rules.specs.declared.Tally.{Tally}
use Rattle.write_rules.specs.Writing.{verdict_of, size_answer, answer_by, write_of, into_by, write_into}
use Rattle.write_rules.specs.Form.{bare, Lands, Formed}
use Rattle.write_rules.specs.Sentences.{Gives, no_sheet, above, passing, differing, too_long, no_room}
use Rattle.write_rules.proofs.Exactly.{write_gives, gives_write}
use Rattle.write_rules.proofs.Written.{records_sized}
use Rattle.write_rules.proofs.Into.{done_into, into_size, into_octets, into_kept, into_lands, into_formed}

-- ---- each answer is given exactly when the sentences have it

pub write_exactly : (s d : List ℕ) → Octets d → (room : ℕ) (a : Answer) → write_of s d room ≡ a ↔ Gives s d room a
write_exactly s d o room a = (λ e. subst (Gives s d room) e (write_gives s d o room), gives_write s d o room a)

-- ---- an answer other than Done is one of the refusals that the paper's order for writing names: BadSheet, BadMode, Short and Mismatch at a record's
-- number, at most the number of records; or TooLong or NoRoom, which have no place

pub record WriteRefusal (n : ℕ) (a : Refusal) : Type 0 where
  pub kind : (a ≡ BadSheet (refusal_place a)) ⊎ (a ≡ BadMode (refusal_place a)) ⊎ (a ≡ Short (refusal_place a)) ⊎ (a ≡ Mismatch (refusal_place a)) ⊎ (a ≡ TooLong) ⊎ (a ≡ NoRoom)
  pub place : refusal_place a ≤ n

gives_refusal : (s d : List ℕ) (room : ℕ) (a : Refusal) → Gives s d room (Err a) → WriteRefusal (length (records s)) a
unfolding refusal_place
gives_refusal s d room (BadSheet i) (no_sheet k) =
    let f = (refused_few s i ((sheet_refused s i).1 k)).1 in
    let l = records_count s in
    record { kind = inl refl; place = omega arith }
gives_refusal s d room (BadMode i) (above a k) = let w = k.within in record { kind = inr (inl refl); place = omega arith }
gives_refusal s d room (Short i) (passing a low k) = let w = k.within in record { kind = inr (inr (inl refl)); place = omega arith }
gives_refusal s d room (Mismatch i) (differing a low k) = let w = k.within in record { kind = inr (inr (inr (inl refl))); place = omega arith }
gives_refusal s d room TooLong (too_long k long) = record { kind = inr (inr (inr (inr (inl refl)))); place = omega arith }
gives_refusal s d room NoRoom (no_room k short less) = record { kind = inr (inr (inr (inr (inr refl)))); place = omega arith }
gives_refusal s d room (Rattle.answers.specs.declared.Refusal.TheVariants.BadMark _) x3 = elim x3 [ ]
gives_refusal s d room (Rattle.answers.specs.declared.Refusal.TheVariants.BadLength _) x4 = elim x4 [ ]
gives_refusal s d room (Rattle.answers.specs.declared.Refusal.TheVariants.BadVersion _) x5 = elim x5 [ ]
gives_refusal s d room (Rattle.answers.specs.declared.Refusal.TheVariants.BadCoder _) x6 = elim x6 [ ]
gives_refusal s d room (Rattle.answers.specs.declared.Refusal.TheVariants.BadRes _) x7 = elim x7 [ ]
gives_refusal s d room (Rattle.answers.specs.declared.Refusal.TheVariants.BadWidth _) x8 = elim x8 [ ]
gives_refusal s d room (Rattle.answers.specs.declared.Refusal.TheVariants.BadType _) x9 = elim x9 [ ]
gives_refusal s d room (Rattle.answers.specs.declared.Refusal.TheVariants.BadStripe _) x10 = elim x10 [ ]
gives_refusal s d room (Rattle.answers.specs.declared.Refusal.TheVariants.BadLayer _) x11 = elim x11 [ ]
gives_refusal s d room (Rattle.answers.specs.declared.Refusal.TheVariants.Trailing _) x12 = elim x12 [ ]
gives_refusal s d room (Rattle.answers.specs.declared.Refusal.TheVariants.BadPlane _) x13 = elim x13 [ ]
gives_refusal s d room Rattle.answers.specs.declared.Refusal.TheVariants.BadLine x13 = elim x13 [ ]

pub write_refused : (s d : List ℕ) → Octets d → (room : ℕ) (a : Refusal) → write_of s d room ≡ Err a → WriteRefusal (length (records s)) a
write_refused s d o room a e = gives_refusal s d room a (subst (Gives s d room) e (write_gives s d o room))

-- ---- what is written: n octets in front, and the octets past them as they were; a refusal changes nothing

pub write_kept : (s d p : List ℕ) → Octets s → Octets d → (n : ℕ) → write_of s d (length p) ≡ Ok n → (drop n (write_into s d p) ≡ drop n p) × (length (write_into s d p) ≡ length p)
write_kept s d p os o n q = into_kept s d p o (records_sized s os) n (done_into s d p o n q)

pub refused_kept : (s d p : List ℕ) → ((n : ℕ) → write_of s d (length p) ≡ Ok n → ⊥) → write_into s d p ≡ p
unfolding write_of answer_by size_answer write_into into_by
refused_kept s d p = by (verdict_of mode1 s d)
  where
    by : (r : Res Tally) → ((n : ℕ) → answer_by (length p) r ≡ Ok n → ⊥) → into_by mode1 p d (records s) r ≡ p
    by (ok u m) =
        cond_both (λ x y. ((n : ℕ) → x ≡ Ok n → ⊥) → y ≡ p) (ltb longest_page u.size) (λ t h. refl) λ t.
        cond_both (λ x y. ((n : ℕ) → x ≡ Ok n → ⊥) → y ≡ p) (ltb (length p) u.size) (λ v h. refl) (λ v h. absurd (h u.size refl))
    by (no a) = λ h. refl

pub write_octets : (s d p : List ℕ) → Octets s → Octets d → (n : ℕ) → write_of s d (length p) ≡ Ok n → Octets (take n (write_into s d p))
write_octets s d p os o n q = into_octets s d p o (records_sized s os) n (done_into s d p o n q)

-- ---- it is a page of the grammar, with the sheet that was lent but for octets 18 to 21 of coded records; and each coded layer's octets at its new
-- start are those at its old start

pub write_page : (s d p : List ℕ) → Octets s → Octets d → (n : ℕ) → write_of s d (length p) ≡ Ok n → Lands (records s) d (take n (write_into s d p))
write_page s d p os o n q = into_lands s d p o (records_sized s os) n (done_into s d p o n q)

-- so that reading it answers Done with that sheet

pub write_read : (s d p : List ℕ) → Octets s → Octets d → (n : ℕ) → write_of s d (length p) ≡ Ok n → (k : Lands (records s) d (take n (write_into s d p))) (t : List ℕ)
    → length (records s) * record_size ≤ length t
    → (read_of (take n (write_into s d p)) (length t) ≡ Ok (length (records s))) × (read_into (take n (write_into s d p)) t ≡ put_at t 0 (sheet_of k.records))
write_read s d p os o n q k t h =
    let i = done_into s d p o n q in
    let ln = into_size s d p o (records_sized s os) n i in
    let sh = i.short in
    let same : length k.records ≡ length (records s) = sym (length-map k.records bare) ∙ ap length k.same ∙ length-map (records s) bare in
    let r =
    page_into (take n (write_into s d p)) t k.records (length (take n (write_into s d p))) (page_there (take n (write_into s d p)) k.records k.page)
    (omega arith) (subst (λ (j : ℕ). j * record_size ≤ length t) (sym same) h) in
    (r.0 ∙ ap Ok same, r.1)

-- ---- every page that is written has the writer's form

pub write_formed : (s d p : List ℕ) → Octets s → Octets d → (n : ℕ) → write_of s d (length p) ≡ Ok n → (rs : List Record) → Page (take n (write_into s d p)) rs
    → Formed (take n (write_into s d p)) rs
write_formed s d p os o n q = into_formed s d p o (records_sized s os) n (done_into s d p o n q)
