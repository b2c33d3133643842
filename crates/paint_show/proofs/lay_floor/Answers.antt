use Prim.Native.Nat.{◌+◌, ◌*◌}
use mathlib.Core.Path.{◌≡◌}
use Rattle.line_fetch.specs.Rows.{row_at}
use Rattle.paint_show.proofs.Laws.{flooring}
use Rattle.paint_show.proofs.lay_floor.Goals as goal

pub returns-then-c-eq-DARK : goal.returns-then-c-eq-DARK
returns-then-c-eq-DARK c = search flooring

pub row_at-r-requires : goal.row_at-r-requires
row_at-r-requires c = search flooring

pub lay_image-requires : goal.lay_image-requires
lay_image-requires c = search flooring

pub returns : goal.returns
returns c = let e : c.row_at-r.result ≡ row_at c.args.rows.now (c.args.c * 2 + 1) = cc in search flooring
