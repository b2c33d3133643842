use Rattle.sheet_rules.specs.Judge.{after2}
use Rattle.sheet_judge.proofs.after_second.Goals as goal

pub returns : goal.returns
unfolding after2
returns c = simp (c.saturating_sub.ensures, c.is_coded.ensures)
