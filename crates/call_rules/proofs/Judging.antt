-- What a viewer may rely on after judging, of the exported call's promise alone.
-- Assumes nothing.
use Rattle.std.specs.Prelude.{Ok, Err}
use Prim.Native.Nat.{ℕ}
use native.Mathlib.Omega.{arith}
use mathlib.Core.Path.{◌≡◌, refl, sym, ap, subst, ◌∙◌}
use mathlib.Core.Logic.{◌↔◌}
use mathlib.Core.List.{List}
use lib.ListN.{length}
use Rattle.answers.specs.Answers.{Answer, number_of, place_of, count_of}
use Rattle.answers.specs.declared.Refusal.TheVariants.{BadSheet}
use Rattle.answers_report.specs.declared.Report.{Report}
use Rattle.answers_report.specs.Report.{report_of}
use Rattle.answers_report.proofs.Apart.{report_by_values}
use Rattle.sheet_rules.specs.Record.{records}
use Rattle.sheet_rules.specs.Judge.{sheet_answer}
use Rattle.sheet_rules.specs.Sentences.{Accepted, BadSheetAt, Judges, good, no_sheet}
use Rattle.sheet_rules.proofs.Theorems.{sheet_exactly}
use Rattle.call_rules.specs.Calls.{JudgeCall}

module _ (sheet : List ℕ) (r : Report) (c : JudgeCall sheet r) where
  told : (a : Answer) → r ≡ report_of a ↔ Judges sheet a
  told a = (
    λ e. (sheet_exactly sheet a).0 (report_by_values (sheet_answer sheet) a (sym c.reports ∙ e)),
    λ j. c.reports ∙ ap report_of ((sheet_exactly sheet a).1 j),
  )

  -- the report is that of n records exactly if the octets are a sheet of n records
  pub judged_good : (n : ℕ) → r ≡ record { number = 0; place = 0; count = n } ↔ Accepted sheet × (n ≡ length (records sheet))
  unfolding report_of number_of place_of count_of
  judged_good n = (λ e. is (Ok n) ((told (Ok n)).0 e) refl, λ k. (told (Ok n)).1 (good k.0 k.1))
    where
      is : (a : Answer) → Judges sheet a → a ≡ Ok n → Accepted sheet × (n ≡ length (records sheet))
      is (Ok m) (good k e) q = let z : m ≡ n = cc in (k, sym z ∙ e)
      is (Err (BadSheet i)) (no_sheet f) q = absurd (let z : ◌≡◌ {A = ℕ} 0 1 = cc in omega arith)
      is (Err (Rattle.answers.specs.declared.Refusal.TheVariants.Short _)) x3 q = elim x3 [ ]
      is (Err (Rattle.answers.specs.declared.Refusal.TheVariants.BadMark _)) x4 q = elim x4 [ ]
      is (Err (Rattle.answers.specs.declared.Refusal.TheVariants.BadLength _)) x5 q = elim x5 [ ]
      is (Err (Rattle.answers.specs.declared.Refusal.TheVariants.BadVersion _)) x6 q = elim x6 [ ]
      is (Err (Rattle.answers.specs.declared.Refusal.TheVariants.BadMode _)) x7 q = elim x7 [ ]
      is (Err (Rattle.answers.specs.declared.Refusal.TheVariants.BadCoder _)) x8 q = elim x8 [ ]
      is (Err (Rattle.answers.specs.declared.Refusal.TheVariants.BadRes _)) x9 q = elim x9 [ ]
      is (Err (Rattle.answers.specs.declared.Refusal.TheVariants.BadWidth _)) x10 q = elim x10 [ ]
      is (Err (Rattle.answers.specs.declared.Refusal.TheVariants.BadType _)) x11 q = elim x11 [ ]
      is (Err (Rattle.answers.specs.declared.Refusal.TheVariants.BadStripe _)) x12 q = elim x12 [ ]
      is (Err (Rattle.answers.specs.declared.Refusal.TheVariants.BadLayer _)) x13 q = elim x13 [ ]
      is (Err (Rattle.answers.specs.declared.Refusal.TheVariants.Trailing _)) x14 q = elim x14 [ ]
      is (Err Rattle.answers.specs.declared.Refusal.TheVariants.NoRoom) x14 q = elim x14 [ ]
      is (Err (Rattle.answers.specs.declared.Refusal.TheVariants.BadPlane _)) x16 q = elim x16 [ ]
      is (Err (Rattle.answers.specs.declared.Refusal.TheVariants.Mismatch _)) x17 q = elim x17 [ ]
      is (Err Rattle.answers.specs.declared.Refusal.TheVariants.BadLine) x17 q = elim x17 [ ]
      is (Err Rattle.answers.specs.declared.Refusal.TheVariants.TooLong) x18 q = elim x18 [ ]

  -- and BadSheet at record i exactly if the octets are at fault there
  pub judged_bad : (i : ℕ) → r ≡ record { number = 14; place = i; count = 0 } ↔ BadSheetAt sheet i
  unfolding report_of number_of place_of count_of
  judged_bad i = (λ e. is (Err (BadSheet i)) ((told (Err (BadSheet i))).0 e) refl, λ f. (told (Err (BadSheet i))).1 (no_sheet f))
    where
      is : (a : Answer) → Judges sheet a → a ≡ Err (BadSheet i) → BadSheetAt sheet i
      is (Ok m) (good k e) q = absurd (let z : ◌≡◌ {A = ℕ} 0 1 = cc in omega arith)
      is (Err (BadSheet j)) (no_sheet f) q = let z : j ≡ i = cc in subst (BadSheetAt sheet) z f
      is (Err (Rattle.answers.specs.declared.Refusal.TheVariants.Short _)) x3 q = elim x3 [ ]
      is (Err (Rattle.answers.specs.declared.Refusal.TheVariants.BadMark _)) x4 q = elim x4 [ ]
      is (Err (Rattle.answers.specs.declared.Refusal.TheVariants.BadLength _)) x5 q = elim x5 [ ]
      is (Err (Rattle.answers.specs.declared.Refusal.TheVariants.BadVersion _)) x6 q = elim x6 [ ]
      is (Err (Rattle.answers.specs.declared.Refusal.TheVariants.BadMode _)) x7 q = elim x7 [ ]
      is (Err (Rattle.answers.specs.declared.Refusal.TheVariants.BadCoder _)) x8 q = elim x8 [ ]
      is (Err (Rattle.answers.specs.declared.Refusal.TheVariants.BadRes _)) x9 q = elim x9 [ ]
      is (Err (Rattle.answers.specs.declared.Refusal.TheVariants.BadWidth _)) x10 q = elim x10 [ ]
      is (Err (Rattle.answers.specs.declared.Refusal.TheVariants.BadType _)) x11 q = elim x11 [ ]
      is (Err (Rattle.answers.specs.declared.Refusal.TheVariants.BadStripe _)) x12 q = elim x12 [ ]
      is (Err (Rattle.answers.specs.declared.Refusal.TheVariants.BadLayer _)) x13 q = elim x13 [ ]
      is (Err (Rattle.answers.specs.declared.Refusal.TheVariants.Trailing _)) x14 q = elim x14 [ ]
      is (Err Rattle.answers.specs.declared.Refusal.TheVariants.NoRoom) x14 q = elim x14 [ ]
      is (Err (Rattle.answers.specs.declared.Refusal.TheVariants.BadPlane _)) x16 q = elim x16 [ ]
      is (Err (Rattle.answers.specs.declared.Refusal.TheVariants.Mismatch _)) x17 q = elim x17 [ ]
      is (Err Rattle.answers.specs.declared.Refusal.TheVariants.BadLine) x17 q = elim x17 [ ]
      is (Err Rattle.answers.specs.declared.Refusal.TheVariants.TooLong) x18 q = elim x18 [ ]
