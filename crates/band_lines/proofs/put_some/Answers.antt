use native.Mathlib.Omega.{arith}
use Rattle.band_lines.proofs.Laws.{rows_again, rows_fit}
use Rattle.band_lines.proofs.put_some.Goals as goal

pub put_from-requires : goal.put_from-requires
put_from-requires c = (rows_fit _ _ _ _ _ _ _ _ _ c.requires.0 (omega arith), rows_again _ _ _ c.lane_rows.ensures, c.requires.1, c.requires.2, c.requires.3, c.requires.4, c.requires.5)
