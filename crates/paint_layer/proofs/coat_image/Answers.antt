use Rattle.std.proofs.Common.{rules, ◌+◌, ◌-◌, ◌*◌}
use native.Mathlib.Omega.{arith}
use Rattle.paint_words.specs.Words.{octets_of}
use Rattle.paint_coat.specs.Coat.{flat, samples_by}
use Rattle.paint_layer.proofs.Laws.{flat_put, three_put}
use Rattle.paint_layer.proofs.Parts.{up_to, shown_ruled, dark_shows, base_shows, three_shows}
use Rattle.paint_layer.proofs.coat_image.Goals as goal

pub returns-then-spans_dark : goal.returns-then-spans_dark
returns-then-spans_dark g c =
    λ f h.
    let t = shown_ruled f _ (λ i w v k. goal.F-post g c.args.rule.now i w v k) _ _ h (flat (octets_of c.args.u)) (dark_shows _ _ _ _ _ _ (c.spans_dark.ensures c.if-spans_dark.true)) in
    up_to c.args.out.now c.coat_by.new.out c.args.x c.args.y (omega arith) f (c.coat_by.ensures f (λ i w k b q. search (rules, t, flat_put)))

pub returns-then-spans_base : goal.returns-then-spans_base
returns-then-spans_base g c =
    λ f h.
    let t = shown_ruled f _ (λ i w v k. goal.F-post g c.args.rule.now i w v k) _ _ h (flat (octets_of c.seen-w.result))
    (base_shows _ _ _ _ _ _ _ (c.spans_base.ensures c.if-spans_base.true) c.seen-w.ensures) in
    up_to c.args.out.now c.coat_by-then-spans_base.new.out c.args.x c.args.y (omega arith) f (c.coat_by-then-spans_base.ensures f (λ i w k b q. search (rules, t, flat_put)))

pub returns-then-spans_three : goal.returns-then-spans_three
returns-then-spans_three g c =
    λ f h.
    let t = shown_ruled f _ (λ i w v k. goal.F-post g c.args.rule.now i w v k) _ _ h (samples_by 3 1 c.args.d.now c.args.x (c.args.r.at + (c.args.x - c.args.r.from.0) * 3))
    (three_shows _ _ _ _ _ _ (c.spans_three.ensures c.if-spans_three.true)) in
    up_to c.args.out.now c.coat_by-then-spans_three.new.out c.args.x c.args.y (omega arith) f (c.coat_by-then-spans_three.ensures f (λ i w k b q. search (rules, t, three_put)))
