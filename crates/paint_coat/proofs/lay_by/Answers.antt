use Prim.Native.Nat.{ℕ, ◌*◌}
use mathlib.Core.Path.{refl, ap}
use native.Mathlib.Omega.{arith}
use Rattle.paint_coat.proofs.Laws.{load_fits, samples_more, samples_all}
use Rattle.paint_coat.proofs.lay_by.Goals as goal

pub load-v-requires : goal.load-v-requires
load-v-requires g c =
    let f = load_fits c.args.i c.loop-q.q c.loads-m.result g.S.Sample.SIZE g.S.Sample.SIZE g.S.Sample.WIDE _ refl c.loop-q-test.true g.met.S.Sample.least c.loads-m.ensures.2 in
    let e = ap (λ (n : ℕ). c.loop-q.q * n) c.SIZE.ensures in
    omega (arith, f, e)

pub loop-q-preserved : goal.loop-q-preserved
loop-q-preserved g c =
    let e = ap (λ (n : ℕ). c.loop-q.q * n) c.SIZE.ensures in
    samples_more _ _ _ _ _ _ _ _ c.loop-q.invariant _ _ _ (omega (arith, e)) c.load-v.ensures c.lay_flat.ensures

pub returns-then-m-n : goal.returns-then-m-n
returns-then-m-n g c =
    let a = samples_all _ _ _ _ _ _ _ _ c.loop-q.invariant c.loads-m.result (omega arith) (omega arith) in
    let e = ap (λ (n : ℕ). c.loads-m.result * n) c.SIZE-then-m-n.ensures in
    let b = samples_more _ _ _ _ _ _ _ _ a _ _ _ (omega (arith, e)) c.fetch-v.ensures c.lay_flat-then-m-n.ensures in
    samples_all _ _ _ _ _ _ _ _ b c.args.n (omega arith) (omega arith)
