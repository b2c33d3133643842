use Rattle.band_group.proofs.Lines.{next_sample, two_lines, part_long, lines_mixed}
use native.Mathlib.Omega.{arith}
use native.Mathlib.Nat.{zero-mul, one-mul}
use borrow.Author.Rules.{rules}
use Rattle.band_group.proofs.mix_lines.Goals as goal

pub copy_line-requires : goal.copy_line-requires
copy_line-requires c = (let t = two_lines _ c.args.width c.args.first c.requires.0 in let f = c.requires.4 in let k = c.requires.1 in omega arith, let t = two_lines _ c.args.width c.args.first c.requires.0 in let f = c.requires.4 in let k = c.requires.1 in let n = c.mix_rest.ensures.long in omega arith)

pub overflow_add-next : goal.overflow_add-next
overflow_add-next c = let a = next_sample _ _ _ _ 0 _ c.requires.3 (let g = c.requires.0 in omega arith) in let b = next_sample _ _ _ _ 1 _ c.requires.3 (let g = c.requires.0 in omega arith) in let z = zero-mul c.args.step in let o = one-mul c.args.step in let k = c.requires.1 in record { fits = omega arith }

pub slice_bounds-mix_two-count : goal.slice_bounds-mix_two-count
slice_bounds-mix_two-count c = let a = next_sample _ _ _ _ 0 _ c.requires.3 (let g = c.requires.0 in omega arith) in let b = next_sample _ _ _ _ 1 _ c.requires.3 (let g = c.requires.0 in omega arith) in let z = zero-mul c.args.step in let o = one-mul c.args.step in let k = c.requires.1 in omega arith

pub slice_bounds-mix_two-start : goal.slice_bounds-mix_two-start
slice_bounds-mix_two-start c = let a = next_sample _ _ _ _ 0 _ c.requires.3 (let g = c.requires.0 in omega arith) in let b = next_sample _ _ _ _ 1 _ c.requires.3 (let g = c.requires.0 in omega arith) in let z = zero-mul c.args.step in let o = one-mul c.args.step in let k = c.requires.1 in omega arith

pub slice_bounds-mix_two-count-2 : goal.slice_bounds-mix_two-count-2
slice_bounds-mix_two-count-2 c = let a = next_sample _ _ _ _ 0 _ c.requires.3 (let g = c.requires.0 in omega arith) in let b = next_sample _ _ _ _ 1 _ c.requires.3 (let g = c.requires.0 in omega arith) in let z = zero-mul c.args.step in let o = one-mul c.args.step in let k = c.requires.1 in omega arith

pub slice_bounds-mix_two-start-2 : goal.slice_bounds-mix_two-start-2
slice_bounds-mix_two-start-2 c = let a = next_sample _ _ _ _ 0 _ c.requires.3 (let g = c.requires.0 in omega arith) in let b = next_sample _ _ _ _ 1 _ c.requires.3 (let g = c.requires.0 in omega arith) in let z = zero-mul c.args.step in let o = one-mul c.args.step in let k = c.requires.1 in omega arith

pub mix_two-requires : goal.mix_two-requires
mix_two-requires c = (let t = two_lines _ c.args.width c.args.first c.requires.0 in let f = c.requires.4 in let k = c.requires.1 in omega arith, let t = two_lines _ c.args.width c.args.first c.requires.0 in let f = c.requires.4 in let k = c.requires.1 in let n = c.mix_rest.ensures.long in let m = c.copy_line.ensures.long in omega arith, let a = next_sample _ _ _ _ 0 _ c.requires.3 (let g = c.requires.0 in omega arith) in let b = next_sample _ _ _ _ 1 _ c.requires.3 (let g = c.requires.0 in omega arith) in let z = zero-mul c.args.step in let o = one-mul c.args.step in let k = c.requires.1 in search (rules, part_long), let a = next_sample _ _ _ _ 0 _ c.requires.3 (let g = c.requires.0 in omega arith) in let b = next_sample _ _ _ _ 1 _ c.requires.3 (let g = c.requires.0 in omega arith) in let z = zero-mul c.args.step in let o = one-mul c.args.step in let k = c.requires.1 in search (rules, part_long))

pub returns : goal.returns
returns c = lines_mixed _ _ _ _ _ _ _ _ c.requires.0 c.requires.1 c.requires.3 _ _ _ c.mix_rest.ensures c.copy_line.ensures c.mix_two.ensures
