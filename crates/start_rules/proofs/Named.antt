-- The start of page is refused with a number that reading can give, at a place within the page.
-- Assumes nothing.
use Prim.Native.Nat.{ℕ}
use native.Mathlib.Omega.{arith}
use mathlib.Core.Path.{◌≡◌}
use mathlib.Core.List.{List, []}
use lib.ListN.{length}
use lib.Dec.{lit≤}
use Rattle.laws.proofs.Cases.{clash}
use Rattle.answers.specs.declared.Refusal.{Refusal}
use Rattle.answers.specs.Answers.{refusal_number, refusal_place}
use Rattle.field_rules.specs.Field.{no, fields}
use Rattle.field_rules.proofs.Refused.{Names}
use Rattle.field_rules.proofs.Named.{PageRefusal, bind_refused, table_refused}
use Rattle.start_rules.specs.Reading.{start_table, start_read}

module _ (s : List ℕ) (a : Refusal) where
  start_named : Names (λ b. PageRefusal (length s) b) (length s) start_table
  unfolding Names start_table refusal_number refusal_place
  start_named = (
    λ p h. record { least = lit≤ tt; most = lit≤ tt; place = h },
    (
      λ p h. record { least = lit≤ tt; most = lit≤ tt; place = h },
      (
        λ p h. record { least = lit≤ tt; most = lit≤ tt; place = h },
        (
          λ p h. record { least = lit≤ tt; most = lit≤ tt; place = h },
          (
            λ p h. record { least = lit≤ tt; most = lit≤ tt; place = h },
            (
              λ p h. record { least = lit≤ tt; most = lit≤ tt; place = h },
              (
                λ p h. record { least = lit≤ tt; most = lit≤ tt; place = h },
                (
                  λ p h. record { least = lit≤ tt; most = lit≤ tt; place = h },
                  (
                    λ p h. record { least = lit≤ tt; most = lit≤ tt; place = h },
                    (
                      λ p h. record { least = lit≤ tt; most = lit≤ tt; place = h },
                      (
                        λ p h. record { least = lit≤ tt; most = lit≤ tt; place = h },
                        (
                          λ p h. record { least = lit≤ tt; most = lit≤ tt; place = h },
                          tt,
                        ),
                      ),
                    ),
                  ),
                ),
              ),
            ),
          ),
        ),
      ),
    ),
  )

  pub start_refused : start_read s 0 ≡ no a → PageRefusal (length s) a
  unfolding start_read
  start_refused q =
      bind_refused (PageRefusal (length s) a) (fields start_table [] s 0) _ a q (λ e. table_refused s a start_table start_named 0 (omega arith) e) (λ vs n q1 q2. clash cc)
