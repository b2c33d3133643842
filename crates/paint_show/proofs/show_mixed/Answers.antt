use native.Mathlib.Omega.{arith}
use Rattle.paint_show.proofs.show_mixed.Goals as goal

pub mix_laid-requires : goal.mix_laid-requires
mix_laid-requires c = (c.requires.0, c.requires.1, c.requires.2, c.requires.3, c.requires.4, c.requires.5, c.requires.7, c.requires.8, c.requires.9, c.requires.10, c.requires.11, c.requires.12)

pub mix_gathered-requires : goal.mix_gathered-requires
mix_gathered-requires c = (c.requires.0, c.requires.1, c.requires.2, c.requires.3, c.requires.4, c.requires.5, c.requires.6, c.requires.7, c.requires.8, let h = c.requires.9 in omega arith, c.requires.10, c.requires.11, c.requires.12, c.requires.13 (λ z. c.if-step-eq0.false z))
