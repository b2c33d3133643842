use Rattle.paint_show.proofs.Gathered.{lit_room, twelve_fits}
use Rattle.paint_show.proofs.all_gathered.Goals as goal

pub overflow_mul-each : goal.overflow_mul-each
overflow_mul-each c = twelve_fits _ _ c.requires.1 (λ z. c.if-step-eq0.false z)

pub bounds-lit-c : goal.bounds-lit-c
bounds-lit-c c = lit_room _ _ _ _ c.requires.2 (λ z. c.if-step-eq0.false z) c.loop-c-test.true c.requires.0
