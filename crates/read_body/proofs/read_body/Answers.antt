use mathlib.Core.Path.{ap, ◌∙◌}
use Rattle.std.specs.Prelude.{Ok}
use Rattle.read_body.proofs.Loop.{loop_stop, loop_on, loop_less, loop_over, loop_wrong, looping}
use Rattle.read_body.proofs.read_body.Goals as goal

pub loop-q-init : goal.loop-q-init
loop-q-init c = search looping

pub body_turn-requires : goal.body_turn-requires
body_turn-requires c = search looping

pub returns-in_err-q : goal.returns-in_err-q
returns-in_err-q c = loop_stop _ _ _ _ _ _ c.from_residual.ensures (loop_wrong c.args.hd c.args.s.now c.args.from c.args.out.now c.requires c.loop-q.p c.loop-q.out c.loop-q.invariant c.body_turn.result c.body_turn.new.out c.body_turn.ensures _ c.in_err-q.was)

pub loop-q-smaller : goal.loop-q-smaller
loop-q-smaller c = loop_less c.args.hd c.args.s.now c.args.from c.args.out.now c.requires c.loop-q.p c.loop-q.out c.loop-q.invariant c.body_turn.result c.body_turn.new.out c.body_turn.ensures _ (c.in_ok-q.was ∙ ap Ok c.in-Continue.is)

pub loop-q-preserved : goal.loop-q-preserved
loop-q-preserved c = loop_on c.args.hd c.args.s.now c.args.from c.args.out.now c.requires c.loop-q.p c.loop-q.out c.loop-q.invariant c.body_turn.result c.body_turn.new.out c.body_turn.ensures _ (c.in_ok-q.was ∙ ap Ok c.in-Continue.is)

pub returns-in-Break : goal.returns-in-Break
returns-in-Break c = loop_over c.args.hd c.args.s.now c.args.from c.args.out.now c.requires c.loop-q.p c.loop-q.out c.loop-q.invariant c.body_turn.result c.body_turn.new.out c.body_turn.ensures _ (c.in_ok-q.was ∙ ap Ok c.in-Break.is)
