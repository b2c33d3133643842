use Rattle.sheet_judge.proofs.Laws.{judging}
use Rattle.sheet_judge.proofs.sheet_answer.Goals as goal

pub overflow_cast-result : goal.overflow_cast-result
overflow_cast-result c = search judging

pub returns-in-Ok : goal.returns-in-Ok
returns-in-Ok c = search judging

pub returns-in-Err : goal.returns-in-Err
returns-in-Err c = search judging
