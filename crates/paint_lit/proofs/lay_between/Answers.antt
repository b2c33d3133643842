use Rattle.paint_lit.proofs.Laws.{filling_begun, filling_lit, filling_dark, filling_end, starts_piece}
use native.Mathlib.Omega.{arith}
use Rattle.paint_lit.proofs.lay_between.Goals as goal

pub loop-i-init : goal.loop-i-init
loop-i-init c = filling_begun _ _ _ _ _ _ _ _ _ _

pub dark_told-e-requires : goal.dark_told-e-requires
dark_told-e-requires c = (let h = c.loop-i-test.true in omega arith, c.requires.4)

pub lay_flat-requires : goal.lay_flat-requires
lay_flat-requires c = (let h = c.dark_told-e.ensures.0.from in omega arith, let h = c.dark_told-e.ensures.0.upto in let k = c.loop-i.invariant.long in let p = c.requires.9 in let q = c.requires.7 in omega arith)

pub loop-i-smaller-then-e-i-ge-STRETCH : goal.loop-i-smaller-then-e-i-ge-STRETCH
loop-i-smaller-then-e-i-ge-STRETCH c = let h = c.dark_told-e.ensures.0.upto in let k = c.if-e-i-ge-STRETCH.true in omega arith

pub loop-i-preserved-then-e-i-ge-STRETCH : goal.loop-i-preserved-then-e-i-ge-STRETCH
loop-i-preserved-then-e-i-ge-STRETCH c = filling_dark _ _ _ _ _ _ _ _ _ _ _ _ _ _ c.loop-i.invariant _ _ _ _ _ c.requires.12 (c.requires.3 (c.dark_told-e.ensures.1 (let k = c.if-e-i-ge-STRETCH.true in omega arith))) c.dark_told-e.ensures.0 c.lay_flat.ensures

pub lit_told-q-requires : goal.lit_told-q-requires
lit_told-q-requires c = (c.loop-i-test.true, c.requires.4)

pub lay_layers-requires : goal.lay_layers-requires
lay_layers-requires c = (c.requires.0, c.requires.1, starts_piece _ _ _ _ _ _ _ _ _ c.requires.2 (omega arith) (let h = c.lit_told-q.ensures.1 in let q = c.requires.7 in omega arith), c.requires.5, c.requires.6, let h = c.lit_told-q.ensures.0 in omega arith, let h = c.lit_told-q.ensures.1 in let k = c.requires.8 in let q = c.requires.7 in omega arith, let h = c.lit_told-q.ensures.1 in let k = c.requires.9 in let q = c.requires.7 in let l = c.loop-i.invariant.long in omega arith, let h = c.lit_told-q.ensures.1 in let k = c.requires.10 in let q = c.requires.7 in let l = c.loop-i.invariant.room in omega arith, let k = c.requires.11 in let l = c.loop-i.invariant.wide in omega arith, c.requires.12)

pub loop-i-smaller : goal.loop-i-smaller
loop-i-smaller c = let h = c.lit_told-q.ensures.0 in let k = c.lit_told-q.ensures.1 in omega arith

pub loop-i-preserved : goal.loop-i-preserved
loop-i-preserved c = filling_lit _ _ _ _ _ _ _ _ _ _ _ _ _ _ c.loop-i.invariant _ _ _ _ c.lit_told-q.ensures c.lay_layers.ensures (omega arith) (omega arith)

pub returns : goal.returns
returns c = filling_end _ _ _ _ _ _ _ _ _ _ _ _ _ _ c.loop-i.invariant c.loop-i-test.false _ (let q = c.requires.7 in omega arith)
