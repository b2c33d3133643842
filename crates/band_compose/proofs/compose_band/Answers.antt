use borrow.Author.Rules.{rules}
use Rattle.band_compose.proofs.Laws.{composing, band_refused, band_composed}
use Rattle.band_compose.proofs.compose_band.Goals as goal

pub returns-in_err-extent : goal.returns-in_err-extent
returns-in_err-extent c = band_refused _ _ _ _ _ _ c.judge_line.ensures _ _ _ _ c.in_err-extent.was (search rules)

pub show_band-requires : goal.show_band-requires
show_band-requires c = search composing

pub returns : goal.returns
returns c = band_composed _ _ _ _ _ _ c.judge_line.ensures _ _ _ _ _ c.in_ok-extent.was c.show_band.ensures
