-- The whole page written in code: its head, its stripes, its end, and the answer.
-- Assumes nothing.
use Prim.Native.Nat.{ℕ, ◌+◌, ◌*◌, ◌/◌, ◌≤◌, ◌<◌}
use native.Mathlib.Omega.{arith}
use mathlib.Core.Path.{◌≡◌, refl, sym, ap, subst, ◌∙◌}
use mathlib.Core.List.{List, [], ◌∷◌, ◌++◌, append_assoc}
use lib.ListN.{length, length-append}
use borrow.Author.Rules.{rules}
use borrow.Author.Tests.{lt-ltb, le-ltb}
use Rattle.laws.proofs.Cases.{clash}
use Rattle.octets.specs.Octets.{Octets, put_at}
use Rattle.octets.proofs.Laws.{put_length}
use Rattle.segment_rules.specs.Rules.{longest_page}
use Rattle.answers.specs.declared.Refusal.TheVariants.{NoRoom, TooLong}
use Rattle.field_rules.specs.Field.{Res, ok, no}
use Rattle.segment_rules.specs.declared.Rules.{Rules}
use Rattle.segment_rules.specs.Rules.{mode1}
use Rattle.sheet_rules.specs.declared.Record.{Record}
use Rattle.sheet_rules.specs.Record.{record_size, record_at, records, blank, nth}
use Rattle.sheet_rules.proofs.Cut.{records_count, record_nth, second_blank, second_read}
use Rattle.sheet_rules.proofs.Among.{nth_among}
use Rattle.start_rules.specs.declared.Head.{Head}
use Rattle.start_rules.specs.Grammar.{start_of}
use Rattle.start_rules.proofs.Start.{length_start}
use Rattle.write_rules.specs.declared.Tally.{Tally}
use Rattle.segment_rules.specs.Rules.{most_layers}
use Rattle.write_rules.specs.Sentences.{start_size, page_end}
use Rattle.write_rules.specs.Writing.{head_by, verdict_of, stripes_by, page_by, size_answer, answer_by, write_of, into_by, write_into, Writes}
use Rattle.write_rules.proofs.Cut.{sheet_cut, lots_layers}
use Rattle.write_rules.proofs.Answered.{Tallied, verdict_back}
use Rattle.write_rules.proofs.Written.{records_sized, length_written}
use Rattle.std.specs.Prelude.{Result, Ok, Err}
use Rattle.answers.specs.declared.Refusal.{Refusal}
use Rattle.write_verdict.specs.Pass.{pass_of}
use Rattle.write_start.proofs.Laws.{put_more}
use Rattle.write_page.specs.Steps.{Lined, Sound, Fitting}

-- ---- head_of: what the start says hangs on the second record alone
module _ (rules : Rules) (s : List ℕ) (t : Tally) where
  abbrev head_with : Record → Head
  head_with r = head_by rules (blank ∷ r ∷ []) t

  pub head_none : length s < 2 * record_size → head_with blank ≡ head_by rules (records s) t
  head_none l = ap head_with (second_blank s l)

  pub head_read : {r : Record} → 2 * record_size ≤ length s → r ≡ record_at s 1 → head_with r ≡ head_by rules (records s) t
  head_read l e = ap head_with (second_read s l e)

pub ruleset heading = (rules, head_none, head_read)

-- ---- put_end
pub end_put : (d : List ℕ) (at : ℕ) {e f : List ℕ} → at + 4 ≤ length d → e ≡ put_at d at (0xFF ∷ 0xD9 ∷ []) → f ≡ put_at e (at + 2) (0xFF ∷ 0xD9 ∷ [])
    → f ≡ put_at d at page_end
end_put d at l a b = put_more d at (0xFF ∷ 0xD9 ∷ []) (at + 2) (0xFF ∷ 0xD9 ∷ []) (omega arith) a refl b

-- ---- emit_page
module _ (rules : Rules) (out s d : List ℕ) (t : Tally) (os : Octets s) (od : Octets d) (f : Fitting rules out s d t) where
  accepted : Tallied rules.mode s d t
  accepted = verdict_back rules s d od t f.sound.count f.sound.verdict

  whole_length : length (page_by rules d (records s) t) ≡ t.size
  whole_length = let a = accepted in length_written rules d od (records s) t a.sheet a.low (records_sized s os) a.passed

  parts_length : start_size + length (stripes_by rules.mode d (records s)) + 4 ≡ t.size
  unfolding page_by
  parts_length =
      let w = whole_length in
      let a = length_start (head_by rules (records s) t) in
      let b = length-append (start_of (head_by rules (records s) t)) (stripes_by rules.mode d (records s) ++ page_end) in
      let c = length-append (stripes_by rules.mode d (records s)) page_end in
      omega arith

  pub start_room : start_size ≤ length out
  start_room = let p = parts_length in let r = f.room in omega arith

  module _ {hd : Head} (h : hd ≡ head_by rules (records s) t) {o1 : List ℕ} (e1 : o1 ≡ put_at out 0 (start_of hd)) where
    long1 : length o1 ≡ length out
    long1 = let r = start_room in let a = length_start hd in ap length e1 ∙ put_length out 0 (start_of hd) (omega arith)

    pub page_lined : (n : ℕ) → n ≡ length s / record_size → Lined rules.mode o1 s d n
    page_lined n w =
        let a = accepted in
        let k = records_count s in
        let p = parts_length in
        let r = f.room in
        let l = long1 in
        record {
          whole = w;
          layers = lots_layers (records s) (most_layers rules.mode) a.low (sheet_cut (records s) a.sheet);
          there = λ x y.
              subst (λ (v : Record). v.start + v.len ≤ length d) (record_nth s x (omega arith)) (a.passed.inside (nth (records s) x) (nth_among (records s) x (omega arith)));
          room = omega arith;
        }

    module _ {o2 : List ℕ} (e2 : o2 ≡ put_at o1 start_size (stripes_by rules.mode d (records s))) (at : ℕ) (e3 : at ≡ start_size + length (stripes_by rules.mode d (records s))) where
      long2 : length o2 ≡ length out
      long2 = let p = parts_length in let r = f.room in let l = long1 in ap length e2 ∙ put_length o1 start_size (stripes_by rules.mode d (records s)) (omega arith) ∙ l

      pub end_room : at + 4 ≤ length o2
      end_room = let p = parts_length in let r = f.room in let l = long2 in omega arith

      pub page_put : {o3 : List ℕ} → o3 ≡ put_at o2 at page_end → o3 ≡ put_at out 0 (page_by rules d (records s) t)
      unfolding page_by
      page_put e4 =
          let a = length_start hd in
          let b = length-append (start_of hd) (stripes_by rules.mode d (records s)) in
          put_more out 0 (start_of hd ++ stripes_by rules.mode d (records s)) at page_end (omega arith)
          (put_more out 0 (start_of hd) start_size (stripes_by rules.mode d (records s)) (omega arith) e1 (omega arith) e2) (omega arith) e4
          ∙ ap (put_at out 0)
          (append_assoc (start_of hd) (stripes_by rules.mode d (records s)) page_end
          ∙ ap (λ (x : Head). start_of x ++ (stripes_by rules.mode d (records s) ++ page_end)) h)

-- ---- write_sound and write_page
module _ (s d p : List ℕ) (t : Tally) (v : Sound mode1 s d t) where
  pub write_long : longest_page < t.size → Writes s d p (Err TooLong) p
  unfolding write_of answer_by size_answer write_into into_by
  write_long l = record { answers = simp (v.verdict, lt-ltb longest_page t.size l); holds = simp (v.verdict, lt-ltb longest_page t.size l) }

  module _ (l : t.size ≤ longest_page) where
    pub write_none : length p < t.size → Writes s d p (Err NoRoom) p
    unfolding write_of answer_by size_answer write_into into_by
    write_none r =
        record {
          answers = simp (v.verdict, le-ltb longest_page t.size l, lt-ltb (length p) t.size r);
          holds = simp (v.verdict, le-ltb longest_page t.size l, lt-ltb (length p) t.size r);
        }

    pub write_done : t.size ≤ length p → {rules : Rules} → rules ≡ mode1 → (p' : List ℕ) → p' ≡ put_at p 0 (page_by rules d (records s) t) → Writes s d p (Ok t.size) p'
    unfolding write_of answer_by size_answer write_into into_by
    write_done r k p' e =
        record {
          answers = simp (v.verdict, le-ltb longest_page t.size l, le-ltb (length p) t.size r);
          holds = e ∙ ap (λ (x : Rules). put_at p 0 (page_by x d (records s) t)) k ∙ simp (v.verdict, le-ltb longest_page t.size l, le-ltb (length p) t.size r);
        }

pub write_fits : (s d p : List ℕ) (t : Tally) {rules : Rules} → Sound mode1 s d t → t.size ≤ length p → rules ≡ mode1 → Fitting rules p s d t
write_fits s d p t v r k = record { sound = subst (λ (x : Rules). Sound x s d t) (sym k) v; room = r }

module _ (s d : List ℕ) {rules : Rules} {x : Result Tally Refusal} (k : rules ≡ mode1) (e : x ≡ pass_of (verdict_of rules s d)) where
  told : x ≡ pass_of (verdict_of mode1 s d)
  told = e ∙ ap (λ (y : Rules). pass_of (verdict_of y s d)) k

  by_next : (y : Res Tally) → verdict_of mode1 s d ≡ y → (t : Tally) → pass_of y ≡ Ok t → Sound mode1 s d t
  unfolding pass_of
  by_next (ok u n) q t z = let w : u ≡ t = cc in record { count = n; verdict = q ∙ ap (λ (v : Tally). ok v n) w }
  by_next (no a) q t z = clash cc

  pub write_sound : (t : Tally) → x ≡ Ok t → Sound mode1 s d t
  write_sound t z = by_next (verdict_of mode1 s d) refl t (sym told ∙ z)

  by_wrong : (y : Res Tally) → verdict_of mode1 s d ≡ y → (a : Refusal) → pass_of y ≡ Err a → verdict_of mode1 s d ≡ no a
  unfolding pass_of
  by_wrong (ok u n) q a z = clash cc
  by_wrong (no b) q a z = let w : b ≡ a = cc in q ∙ ap no w

  pub write_wrong : (p : List ℕ) (a : Refusal) → x ≡ Err a → Writes s d p (Err a) p
  unfolding write_of answer_by write_into into_by
  write_wrong p a z = let q = by_wrong (verdict_of mode1 s d) refl a (sym told ∙ z) in record { answers = simp q; holds = simp q }

pub ruleset writing = (rules, write_long, write_none, write_done, write_fits, write_sound, write_wrong)
