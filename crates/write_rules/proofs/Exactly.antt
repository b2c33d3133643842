-- The answer is the one that the sentences give, and no other.
-- Assumes nothing.
use Rattle.std.specs.Prelude.{Ok, Err}
use Prim.Native.Nat.{ℕ}
use mathlib.Core.Path.{◌≡◌, refl, sym, ap, subst, ◌∙◌}
use mathlib.Core.List.{List}
use lib.ListN.{length}
use lib.Dec.{ltb}
use borrow.Author.Tests.{le-ltb, lt-ltb, ltb-true, ltb-false}
use Rattle.octets.specs.Octets.{Octets}
use Rattle.segment_rules.specs.Rules.{longest_page}
use Rattle.laws.proofs.Cases.{cond_with}
use Rattle.answers.specs.Answers.{Answer}
use Rattle.answers.specs.declared.Refusal.TheVariants.{Short, BadMode, NoRoom, BadSheet, Mismatch, TooLong}
use Rattle.field_rules.specs.Field.{Res, ok, no}
use Rattle.segment_rules.specs.declared.Mode.TheVariants.{One}
use Rattle.segment_rules.specs.Rules.{mode1}
use Rattle.sheet_rules.specs.Record.{records}
use Rattle.write_rules.specs.declared.Tally.{Tally}
use Rattle.write_rules.specs.Writing.{verdict_of, size_answer, answer_by, write_of}
use Rattle.write_rules.specs.Sentences.{size_of, Sound, Gives, no_sheet, above, passing, differing, too_long, no_room, written, sheet_main}
use Rattle.write_rules.proofs.Answered.{verdict_back, accepted_sound, sheet_plain, verdict_sheet, verdict_mode, verdict_passes, verdict_there, short_there, mismatch_there, verdict_refused}
use Rattle.write_rules.proofs.Into.{tally_size}

-- after the verdict: the size
size_gives : (s d : List ℕ) (room : ℕ) → Sound s d → Gives s d room (size_answer room (size_of One (records s)))
unfolding size_answer
size_gives s d room k =
    cond_with (Gives s d room) (ltb longest_page (size_of One (records s))) (λ t. too_long k (ltb-true longest_page (size_of One (records s)) t)) λ t.
    cond_with (Gives s d room) (ltb room (size_of One (records s)))
    (λ u. no_room k (ltb-false longest_page (size_of One (records s)) t) (ltb-true room (size_of One (records s)) u))
    (λ u. written k refl (ltb-false longest_page (size_of One (records s)) t) (ltb-false room (size_of One (records s)) u))

pub write_gives : (s d : List ℕ) → Octets d → (room : ℕ) → Gives s d room (write_of s d room)
unfolding write_of answer_by
write_gives s d o room = by (verdict_of mode1 s d) refl
  where
    by : (r : Res Tally) → verdict_of mode1 s d ≡ r → Gives s d room (answer_by room r)
    by (ok u n) e =
        let k = verdict_back mode1 s d o u n e in
        subst (λ (j : ℕ). Gives s d room (size_answer room j)) (sym (tally_size s d u k)) (size_gives s d room (accepted_sound s d u k))
    by (no a) e = verdict_refused s d o room a e

-- a sound sheet is answered by its size
sound_size : (s d : List ℕ) → Octets d → (room : ℕ) → Sound s d → write_of s d room ≡ size_answer room (size_of One (records s))
unfolding write_of answer_by
sound_size s d o room k =
    let y = verdict_there s d o k in
    ap (answer_by room) y.1 ∙ ap (size_answer room) (tally_size s d y.0 (verdict_back mode1 s d o y.0 (length (records s)) y.1))

pub gives_write : (s d : List ℕ) → Octets d → (room : ℕ) (a : Answer) → Gives s d room a → write_of s d room ≡ a
unfolding write_of answer_by size_answer
gives_write s d o room (Err (BadSheet i)) (no_sheet k) = ap (answer_by room) (verdict_sheet mode1 s d i k)
gives_write s d o room (Err (BadMode i)) (above a k) = ap (answer_by room) (verdict_mode mode1 s d a.0 a.1 i k)
gives_write s d o room (Err (Short i)) (passing a low k) =
    ap (answer_by room)
    (verdict_passes mode1 s d a.0 a.1 low ∙ short_there One d o (sheet_main (records s)) (records s) (sheet_plain One (records s) a.0 low) i k)
gives_write s d o room (Err (Mismatch i)) (differing a low k) =
    ap (answer_by room)
    (verdict_passes mode1 s d a.0 a.1 low ∙ mismatch_there One d o (sheet_main (records s)) (records s) (sheet_plain One (records s) a.0 low) i k)
gives_write s d o room (Err TooLong) (too_long k long) = sound_size s d o room k ∙ simp (lt-ltb longest_page (size_of One (records s)) long)
gives_write s d o room (Err NoRoom) (no_room k short less) = sound_size s d o room k ∙ simp (le-ltb longest_page (size_of One (records s)) short, lt-ltb room (size_of One (records s)) less)
gives_write s d o room (Ok n) (written k e short fits) =
    sound_size s d o room k ∙ ap (size_answer room) (sym e) ∙ simp (le-ltb longest_page n short, le-ltb room n fits)
gives_write s d o room (Err (Rattle.answers.specs.declared.Refusal.TheVariants.BadMark _)) x'' = elim x'' [ ]
gives_write s d o room (Err (Rattle.answers.specs.declared.Refusal.TheVariants.BadLength _)) x3 = elim x3 [ ]
gives_write s d o room (Err (Rattle.answers.specs.declared.Refusal.TheVariants.BadVersion _)) x4 = elim x4 [ ]
gives_write s d o room (Err (Rattle.answers.specs.declared.Refusal.TheVariants.BadCoder _)) x5 = elim x5 [ ]
gives_write s d o room (Err (Rattle.answers.specs.declared.Refusal.TheVariants.BadRes _)) x6 = elim x6 [ ]
gives_write s d o room (Err (Rattle.answers.specs.declared.Refusal.TheVariants.BadWidth _)) x7 = elim x7 [ ]
gives_write s d o room (Err (Rattle.answers.specs.declared.Refusal.TheVariants.BadType _)) x8 = elim x8 [ ]
gives_write s d o room (Err (Rattle.answers.specs.declared.Refusal.TheVariants.BadStripe _)) x9 = elim x9 [ ]
gives_write s d o room (Err (Rattle.answers.specs.declared.Refusal.TheVariants.BadLayer _)) x10 = elim x10 [ ]
gives_write s d o room (Err (Rattle.answers.specs.declared.Refusal.TheVariants.Trailing _)) x11 = elim x11 [ ]
gives_write s d o room (Err (Rattle.answers.specs.declared.Refusal.TheVariants.BadPlane _)) x12 = elim x12 [ ]
gives_write s d o room (Err Rattle.answers.specs.declared.Refusal.TheVariants.BadLine) x12 = elim x12 [ ]
