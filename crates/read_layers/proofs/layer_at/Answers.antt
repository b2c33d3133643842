use Rattle.read_layers.proofs.Laws.{layer_laws}
use Rattle.read_layers.proofs.layer_at.Goals as goal

pub overflow_sub-result : goal.overflow_sub-result
overflow_sub-result c = search layer_laws

pub overflow_cast-result-in-Ok : goal.overflow_cast-result-in-Ok
overflow_cast-result-in-Ok c = search layer_laws

pub overflow_cast-result-in-Ok-2 : goal.overflow_cast-result-in-Ok-2
overflow_cast-result-in-Ok-2 c = search layer_laws

pub fault_answer-requires : goal.fault_answer-requires
fault_answer-requires c = search layer_laws

pub returns-then-not-present : goal.returns-then-not-present
returns-then-not-present c = search layer_laws

pub returns-in-Ok : goal.returns-in-Ok
returns-in-Ok c = search layer_laws

pub returns-in-Err : goal.returns-in-Err
returns-in-Err c = search layer_laws
