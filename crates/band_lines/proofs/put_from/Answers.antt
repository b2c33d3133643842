use mathlib.Core.Path.{refl}
use native.Mathlib.Omega.{arith}
use native.Mathlib.Nat.{one-mul}
use Rattle.band_lines.proofs.Laws.{some_three, some_few, some_pairs, some_lane, some_fits, some_plain, some_narrow, some_room, some_below, lines_room, lines_samples, one_line, many_lines}
use Rattle.band_lines.proofs.put_from.Goals as goal

pub overflow_mul-first : goal.overflow_mul-first
overflow_mul-first c = let b = some_below _ _ _ _ _ _ c.args.out.now c.args.rows.now c.requires.0 in let h = some_room _ _ _ _ _ _ c.args.out.now c.args.rows.now c.requires.0 1 (omega arith) in record { fits = omega arith }

pub worth-requires : goal.worth-requires
worth-requires c = ((let h = some_three _ _ _ _ _ _ c.args.out.now c.args.rows.now c.requires.0 in omega arith), (let h = some_few _ _ _ _ _ _ c.args.out.now c.args.rows.now c.requires.0 in omega arith), some_pairs _ _ _ _ _ _ c.args.out.now c.args.rows.now c.requires.0 _ c.requires.1)

pub lane_at-w-requires : goal.lane_at-w-requires
lane_at-w-requires c = (omega arith, some_lane _ _ _ _ _ _ c.args.out.now c.args.rows.now c.requires.0)

pub row_at-m-requires : goal.row_at-m-requires
row_at-m-requires c = (omega arith, let h = some_pairs _ _ _ _ _ _ c.args.out.now c.args.rows.now c.requires.0 _ c.requires.1 in let k = some_three _ _ _ _ _ _ c.args.out.now c.args.rows.now c.requires.0 in omega arith)

pub put_group-requires : goal.put_group-requires
put_group-requires c = (some_fits _ _ _ _ _ _ c.args.out.now c.args.rows.now c.requires.0 _ c.requires.1, some_plain _ _ _ _ _ _ c.args.out.now c.args.rows.now c.requires.0 _ c.requires.1, (let h = some_three _ _ _ _ _ _ c.args.out.now c.args.rows.now c.requires.0 in omega arith), some_few _ _ _ _ _ _ c.args.out.now c.args.rows.now c.requires.0, c.worth.ensures c.if-worth.true, some_narrow _ _ _ _ _ _ c.args.out.now c.args.rows.now c.requires.0, lines_samples _ _ _ _ _ _ c.args.out.now c.args.rows.now c.requires.0 _ c.requires.1 _ _ c.group_of-g.ensures refl _ c.lane_at-w.ensures _ c.steady.ensures c.if-steady.true _ c.row_at-m.ensures, lines_room _ _ _ _ _ _ c.args.out.now c.args.rows.now c.requires.0 _ c.requires.1 _ _ c.group_of-g.ensures refl _ c.lane_at-w.ensures _ c.steady.ensures c.if-steady.true _ c.row_at-m.ensures, c.requires.2, c.requires.3, c.requires.4, c.requires.5, c.requires.6)

pub returns-then-steady : goal.returns-then-steady
returns-then-steady c = many_lines _ _ _ _ _ _ c.args.out.now c.args.rows.now c.requires.0 _ c.requires.1 _ _ c.group_of-g.ensures refl _ c.lane_at-w.ensures _ c.steady.ensures c.if-steady.true _ c.row_at-m.ensures _ _ c.put_group.ensures

pub paint_at-requires : goal.paint_at-requires
paint_at-requires c = (some_fits _ _ _ _ _ _ c.args.out.now c.args.rows.now c.requires.0 _ c.requires.1, some_plain _ _ _ _ _ _ c.args.out.now c.args.rows.now c.requires.0 _ c.requires.1, some_few _ _ _ _ _ _ c.args.out.now c.args.rows.now c.requires.0, some_narrow _ _ _ _ _ _ c.args.out.now c.args.rows.now c.requires.0, (let b = some_below _ _ _ _ _ _ c.args.out.now c.args.rows.now c.requires.0 in let h = some_room _ _ _ _ _ _ c.args.out.now c.args.rows.now c.requires.0 1 (omega arith) in let o = one-mul c.args.width in omega arith), c.requires.2, c.requires.3, c.requires.4, c.requires.5, c.requires.6)

pub returns : goal.returns
returns c = one_line _ _ _ _ _ _ c.args.out.now c.args.rows.now c.requires.0 _ c.requires.1 _ _ c.paint_at.ensures
