use Rattle.band_compose.proofs.Laws.{band_fits, showing}
use Rattle.band_compose.proofs.show_band.Goals as goal

pub record_at-second-requires : goal.record_at-second-requires
record_at-second-requires c = search showing

pub returns-then-out-size : goal.returns-then-out-size
returns-then-out-size c = search showing

pub put_lines-requires : goal.put_lines-requires
put_lines-requires c = band_fits _ _ _ _
    c.requires _ _ _
    c.record_at-second.ensures
    c.wide16-width.ensures.0
    c.band_size-size.ensures _
    c.if-out-size.false

pub returns : goal.returns
returns c = search showing
