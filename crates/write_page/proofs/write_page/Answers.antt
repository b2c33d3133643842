use Rattle.std.proofs.lemmas.Result.{err_from_is_err_and}
use Rattle.write_page.proofs.Page.{writing, write_wrong}
use Rattle.write_page.proofs.write_page.Goals as goal

pub returns-in_err-tally : goal.returns-in_err-tally
returns-in_err-tally c =
    let p = err_from_is_err_and c.from_residual.result c.from_residual.ensures.1 in
    rw (p.1, p.2) (write_wrong c.args.s.now c.args.d.now c.in_mode_1.ensures c.judge_write.ensures c.args.page.now _ c.in_err-tally.was)

pub write_sound-requires : goal.write_sound-requires
write_sound-requires c = search writing
