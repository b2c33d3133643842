use Rattle.band_group.proofs.Lines.{Resting}
use Rattle.band_group.proofs.mix_rest.Given as goal

abbrev pub invariant-loop-t : goal.invariant-loop-t
invariant-loop-t l = Resting l.initial.out l.d l.at l.step l.first l.width l.c l.g l.out l.t
