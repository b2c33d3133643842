use Rattle.read_body.proofs.Stripe.{turn_stop, turn_refused, turn_low, turn_counts, turn_passed, turning}
use Rattle.read_body.proofs.stripe_turn.Goals as goal

pub stripe_step-requires : goal.stripe_step-requires
stripe_step-requires c = search turning

pub returns-in_err-laid : goal.returns-in_err-laid
returns-in_err-laid c = turn_stop _ _ _ _ _ _ _ c.from_residual.ensures
    (turn_refused c.args.hd c.args.p c.args.body c.args.out.now c.args.s.now c.requires c.stripe_step.result c.stripe_step.ensures.step
    c.stripe_step.new.out c.stripe_step.ensures.laid _ c.in_err-laid.was)

pub overflow_sub-result : goal.overflow_sub-result
overflow_sub-result c = turn_low c.args.hd c.args.p c.args.body c.args.out.now c.args.s.now c.requires c.stripe_step.result c.stripe_step.ensures.step
    c.stripe_step.new.out c.stripe_step.ensures.laid c.in_ok-laid.laid c.in_ok-laid.was

pub overflow_add-result-2 : goal.overflow_add-result-2
overflow_add-result-2 c = turn_counts c.args.hd c.args.p c.args.body c.args.out.now c.args.s.now c.requires c.stripe_step.result c.stripe_step.ensures.step
    c.stripe_step.new.out c.stripe_step.ensures.laid c.in_ok-laid.laid c.in_ok-laid.was

pub returns : goal.returns
returns c = turn_passed c.args.hd c.args.p c.args.body c.args.out.now c.args.s.now c.requires c.stripe_step.result c.stripe_step.ensures.step
    c.stripe_step.new.out c.stripe_step.ensures.laid c.in_ok-laid.laid c.in_ok-laid.was
