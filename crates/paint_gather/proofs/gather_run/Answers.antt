use native.Mathlib.Omega.{arith}
use native.Mathlib.Nat.{add-mul, one-mul}
use mathlib.Core.Path.{◌≡◌, sym, ap, ◌∙◌}
use Prim.Native.Nat.{◌+◌, ◌*◌}
use Rattle.paint_gather.proofs.Laws.{turning_at, turning_next, part_low, twelve_at}
use Rattle.paint_gather.proofs.gather_run.Goals as goal

pub gather_twelve-requires : goal.gather_twelve-requires
gather_twelve-requires g c =
    (twelve_at _ _ _ _ _ _ _ _ _ c.requires.0 c.requires.1 _ _ _ c.loop-q.invariant (omega arith) _ (omega arith), let l = c.loop-q.invariant.long in let k = c.requires.3 in omega arith)

pub loop-q-preserved : goal.loop-q-preserved
loop-q-preserved g c =
    let z : (c.loop-q.q + 1) * c.args.step ≡ c.loop-q.q * c.args.step + c.args.step = add-mul _ 1 _ ∙ ap (λ m. c.loop-q.q * c.args.step + m) (one-mul _) in
    turning_next _ _ _ _ _ _ _ _ _ c.requires.0 c.requires.1 _ _ _ _ _ (omega arith) (sym z)
    (turning_at _ _ _ _ _ _ _ _ _ c.requires.0 c.requires.1 _ _ _ c.loop-q.invariant (omega arith) _ (omega arith) _ c.gather_twelve.ensures)

pub slice_bounds-gather_twelve-count : goal.slice_bounds-gather_twelve-count
slice_bounds-gather_twelve-count g c = part_low _ _ _ _ _ _ _ _ _ c.requires.0 c.requires.1 _ _ _ c.loop-q.invariant (omega arith)

pub slice_bounds-gather_twelve-start : goal.slice_bounds-gather_twelve-start
slice_bounds-gather_twelve-start g c = part_low _ _ _ _ _ _ _ _ _ c.requires.0 c.requires.1 _ _ _ c.loop-q.invariant (omega arith)
