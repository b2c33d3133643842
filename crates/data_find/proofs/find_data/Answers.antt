use native.Mathlib.Omega.{arith}
use borrow.Author.Rules.{rules}
use Rattle.sheet_table.proofs.Found.{fault_small}
use Rattle.data_find.proofs.Laws.{record_within}
use Rattle.data_find.proofs.find_data.Goals as goal

pub overflow_cast-result : goal.overflow_cast-result
overflow_cast-result c = search (rules, fault_small)

pub find_record-requires : goal.find_record-requires
find_record-requires c = record_within _ _ _ _ c.judge.ensures c.in_default.is c.find_stripe.ensures (grind arith) c.find_layer.ensures (grind arith)
