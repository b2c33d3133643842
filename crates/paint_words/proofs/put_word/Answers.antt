use Rattle.paint_words.proofs.Laws.{making}
use Rattle.paint_words.proofs.put_word.Goals as goal

pub returns : goal.returns
returns c = search making
