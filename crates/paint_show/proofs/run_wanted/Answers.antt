use Rattle.paint_show.proofs.run_wanted.Goals as goal

pub returns-else-whole : goal.returns-else-whole
returns-else-whole c = (c.ahead.ensures.3 c.requires, c.ahead.ensures.1)
