-- The whole page in code: its start, its body, its end, the room and the sheet.
-- Assumes nothing.
use Prim.Native.Nat.{ℕ, ◌*◌, ◌≤◌, ◌<◌}
use native.Mathlib.Omega.{arith}
use mathlib.Core.Path.{◌≡◌, refl, sym, ap, ap₂, subst, ◌∙◌}
use mathlib.Core.Bool.{cond}
use mathlib.Core.List.{List, []}
use lib.ListN.{length, take, drop}
use lib.Dec.{ltb}
use borrow.Author.Rules.{rules}
use borrow.Author.Tests.{lt-ltb, le-ltb}
use Rattle.laws.proofs.Cases.{clash}
use Rattle.laws.proofs.Asked.{asked_with}
use Rattle.octets.specs.Octets.{put_at}
use Rattle.octets.proofs.Laws.{put_back, put_length}
use Rattle.octets.proofs.Entries.{joined_length}
use Rattle.answers.specs.Answers.{Answer}
use Rattle.answers.specs.declared.Refusal.TheVariants.{NoRoom, TooLong}
use Rattle.field_rules.specs.Field.{Res, ok, no, bind, fields}
use Rattle.sheet_rules.proofs.Cut.{record_entry}
use Rattle.sheet_rules.specs.declared.Record.{Record}
use Rattle.sheet_rules.specs.Record.{record_size, sheet_of}
use Rattle.segment_rules.specs.Rules.{longest_page}
use Rattle.start_rules.specs.declared.Head.{Head}
use Rattle.start_rules.specs.Reading.{start_table, start_read}
use Rattle.page_rules.specs.Reading.{zeros_of, end_table, page_of, room_of, read_of, into_of, read_into, Reads}
use Rattle.std.specs.Prelude.{Result, Ok, Err, ⊤, IsErr, IsErrAnd}
use Rattle.answers.specs.declared.Refusal.{Refusal}
use Rattle.read_field.specs.Judged.{judged_of}
use Rattle.read_field.proofs.Views.{judged_no, judged_ok}
use Rattle.read_end.specs.Ends.{close_of}
use Rattle.read_start.specs.Start.{head_at}
use Rattle.read_start.proofs.Kept.{start_end, head_kept}
use Rattle.read_body.specs.declared.Body.{Body}
use Rattle.read_body.specs.Steps.{Opened, BodyRead, Bodied}
use Rattle.read_page.specs.Steps.{Lent, Begun, rest_of, PageRead, Judges, Emits}

-- a refusal that is handed on
pub judged_stop : (x : Res (List Record)) (out out' : List ℕ) (r : Result ℕ Refusal) {a : Refusal} → IsErr r × IsErrAnd r (λ (e : Refusal). e ≡ a) → x ≡ no a → Judges x out r out'
judged_stop x out out' r p q = asked_with (λ (y : Result ℕ Refusal). Judges x out y out') r p q

-- ---- judge_rest

-- what the end comes to does not depend on the records that stand before it
module _ {A : Type 0} (s : List ℕ) (m : ℕ) (rs : A) where
  abbrev ended : Res A
  ended = bind (fields end_table [] s m) (λ (es : List ℕ) (e : ℕ). bind (zeros_of (drop e s) e) (λ (z end : ℕ). ok rs end))

  zeros_no : (x : Res ℕ) (a : Refusal) → judged_of x ≡ Err a → bind x (λ (z end : ℕ). ok rs end) ≡ no a
  unfolding bind
  zeros_no x a e = ap (λ (y : Res ℕ). bind y (λ (z end : ℕ). ok rs end)) (judged_no x a e)

  end_no : (x : Res (List ℕ)) (a : Refusal) → judged_of (bind x (λ (es : List ℕ) (e : ℕ). zeros_of (drop e s) e)) ≡ Err a
      → bind x (λ (es : List ℕ) (e : ℕ). bind (zeros_of (drop e s) e) (λ (z end : ℕ). ok rs end)) ≡ no a
  unfolding bind judged_of
  end_no (ok v n) a e = zeros_no (zeros_of (drop n s) n) a e
  end_no (no b) a e = let p : b ≡ a = cc in ap no p

  end_refused : (a : Refusal) → close_of s m ≡ Err a → ended ≡ no a
  unfolding close_of
  end_refused a q = end_no (fields end_table [] s m) a q

  end_ok : (P : Type 0) (x : Res (List ℕ)) → judged_of (bind x (λ (es : List ℕ) (e : ℕ). zeros_of (drop e s) e)) ≡ Ok tt
      → ((n : ℕ) → bind x (λ (es : List ℕ) (e : ℕ). bind (zeros_of (drop e s) e) (λ (z end : ℕ). ok rs end)) ≡ ok rs n → P) → P
  unfolding bind judged_of
  end_ok P (ok v n) e k = judged_ok P (zeros_of (drop n s) n) e (λ z end q. k end (ap (λ (y : Res ℕ). bind y (λ (z end : ℕ). ok rs end)) q))
  end_ok P (no b) e k = clash cc

  end_fine : (P : Type 0) → close_of s m ≡ Ok tt → ((n : ℕ) → ended ≡ ok rs n → P) → P
  unfolding close_of
  end_fine P q k = end_ok P (fields end_table [] s m) q k

pub rest_opened : (out s : List ℕ) (hd : Head) → Begun out s → hd ≡ head_at s → Opened hd out s 22
rest_opened out s hd b h =
    let r = b.lent.room in subst (λ (x : Head). Opened x out s 22) (sym h) (record { begun = omega arith; inside = b.long; small = b.lent.small; room = omega arith })

module _ (hd : Head) (s out out' : List ℕ) (h : hd ≡ head_at s) (b : Result Body Refusal) (t : Bodied hd s 22 out b out') where
  pub rest_stopped : (a : Refusal) → b ≡ Err a → rest_of (head_at s) s ≡ no a
  unfolding rest_of bind
  rest_stopped a e = let q = rw e at t in subst (λ (x : Head). rest_of x s ≡ no a) h (simp q)

  module _ (body : Body) (e : b ≡ Ok body) (j : Result ⊤ Refusal) (y : j ≡ close_of s body.next) where
    read : BodyRead hd s 22 out body.records body.next out'
    read = rw e at t

    pub rest_refused : (a : Refusal) → j ≡ Err a → rest_of (head_at s) s ≡ no a
    unfolding rest_of bind
    rest_refused a z = subst (λ (x : Head). rest_of x s ≡ no a) h (simp read.same (end_refused s body.next read.records a (sym y ∙ z)))

    pub rest_fine : j ≡ Ok tt → PageRead (rest_of (head_at s) s) out body.records out'
    unfolding rest_of bind
    rest_fine z =
        end_fine s body.next read.records (PageRead (rest_of (head_at s) s) out body.records out') (sym y ∙ z) λ n q.
        subst (λ (x : Head). PageRead (rest_of x s) out body.records out') h
        (record { records = read.records; end = n; same = simp read.same q; laid = read.laid; counted = read.counted; fits = read.fits })

pub ruleset resting = (rules, judged_stop, rest_opened, rest_stopped, rest_refused, rest_fine)

-- ---- judge_page

module _ (s : List ℕ) {j : Result ⊤ Refusal} (e : j ≡ judged_of (fields start_table [] s 0)) where
  pub page_refused : (a : Refusal) → j ≡ Err a → page_of s ≡ no a
  unfolding page_of start_read bind
  page_refused a z = simp (judged_no (fields start_table [] s 0) a (sym e ∙ z))

  pub page_begun : (out : List ℕ) → Lent out s → j ≡ Ok tt → Begun out s
  page_begun out l z = judged_ok (Begun out s) (fields start_table [] s 0) (sym e ∙ z) λ vs n q. record { long = (start_end s vs n q).1; lent = l }

  page_rest : j ≡ Ok tt → page_of s ≡ rest_of (head_at s) s
  unfolding page_of start_read rest_of bind
  page_rest z =
      judged_ok (page_of s ≡ rest_of (head_at s) s) (fields start_table [] s 0) (sym e ∙ z) λ vs n q.
      let p = (start_end s vs n q).0 in
      simp q (rw (p, head_kept s vs n q) refl)

  pub page_whole : (out out' : List ℕ) (r : Result ℕ Refusal) → j ≡ Ok tt → Judges (rest_of (head_at s) s) out r out' → Judges (page_of s) out r out'
  page_whole out out' r z t = subst (λ (x : Res (List Record)). Judges x out r out') (sym (page_rest z)) t

pub ruleset opening = (rules, judged_stop, page_refused, page_begun, page_whole)

-- ---- emit
module _ (laid : List ℕ) (count : ℕ) (d : List ℕ) (size : ℕ) (e : size ≡ count * record_size) where
  pub emit_none : length d < size → Emits laid count d (Err NoRoom) d
  emit_none l = record { answers = simp (lt-ltb (length d) (count * record_size) (omega arith)); holds = simp (lt-ltb (length d) (count * record_size) (omega arith)) }

  pub emit_all : size ≤ length d → (d' : List ℕ) → d' ≡ put_at d 0 (take size (drop 0 laid)) → Emits laid count d (Ok count) d'
  emit_all l d' h =
      record {
        answers = simp (le-ltb (length d) (count * record_size) (omega arith));
        holds = h ∙ rw e (simp (le-ltb (length d) (count * record_size) (omega arith)));
      }

pub ruleset emitting = (rules, emit_none, emit_all)

-- ---- read_page
module _ (s d : List ℕ) where
  pub read_long : longest_page < length s → Reads s d (Err TooLong) d
  unfolding read_of read_into
  read_long l = record { answers = simp (lt-ltb longest_page (length s) l); holds = simp (lt-ltb longest_page (length s) l) }

  module _ (l : length s ≤ longest_page) (out out' : List ℕ) (v : Result ℕ Refusal) (t : Judges (page_of s) out v out') where
    pub read_bad : (a : Refusal) (r : Answer) → v ≡ Err a → IsErr r × IsErrAnd r (λ (e : Refusal). e ≡ a) → Reads s d r d
    unfolding read_of read_into room_of into_of
    read_bad a r e p = asked_with (λ (x : Answer). Reads s d x d) r p (let q = rw e at t in record { answers = simp (le-ltb longest_page (length s) l, q); holds = simp (le-ltb longest_page (length s) l, q) })

    module _ (count : ℕ) (e : v ≡ Ok count) where
      j : PageRead (page_of s) out count out'
      j = rw e at t

      octets_are : length (sheet_of j.records) ≡ count * record_size
      octets_are = joined_length record_entry j.records ∙ ap (λ (n : ℕ). n * record_size) (sym j.counted)

      laid_is : take (count * record_size) out' ≡ sheet_of j.records
      laid_is =
          ap (take (count * record_size)) j.laid ∙ ap (λ (k : ℕ). take k (put_at out 0 (sheet_of j.records))) (sym octets_are)
          ∙ put_back out 0 (sheet_of j.records) (omega arith)

      pub read_laid : count * record_size ≤ length out'
      read_laid =
          let f = j.fits in
          let o = octets_are in
          let n = ap length j.laid ∙ put_length out 0 (sheet_of j.records) (omega arith) in
          omega arith

      pub read_emits : (a : Answer) (d' : List ℕ) → Emits out' count d a d' → Reads s d a d'
      unfolding read_of read_into room_of into_of
      read_emits a d' m =
          record {
            answers =
                m.answers
                ∙ sym (simp (le-ltb longest_page (length s) l, j.same) (ap (λ (n : ℕ). cond (ltb (length d) (n * record_size)) (Err NoRoom) (Ok n)) (sym j.counted)));
            holds =
                m.holds
                ∙ sym
                (simp (le-ltb longest_page (length s) l, j.same)
                (ap₂ (λ (n : ℕ) (o : List ℕ). cond (ltb (length d) (n * record_size)) d (put_at d 0 o)) (sym j.counted) (sym laid_is)));
          }

pub ruleset reading = (rules, read_long, read_bad, read_laid, read_emits)
