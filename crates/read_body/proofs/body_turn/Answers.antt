use mathlib.Core.Path.{ap, ◌∙◌}
use Rattle.std.specs.Prelude.{Ok}
use Rattle.read_body.proofs.Segments.{body_stop, body_none, body_over, body_wrong, body_skip, body_ready, body_stripe, body_faulty, segments}
use Rattle.read_body.proofs.body_turn.Goals as goal

pub returns-then-not-fits : goal.returns-then-not-fits
returns-then-not-fits c = search segments

pub returns-in_err-body_end : goal.returns-in_err-body_end
returns-in_err-body_end c = body_stop _ _ _ _ _ _ c.from_residual.ensures
    (body_none c.args.hd c.args.p c.args.s.now c.args.out.now c.requires c.fits.ensures c.if-not-fits.false c.stands_at.ensures c.if-stands_at.true
    c.body_end.result _ c.body_end.ensures c.in_err-body_end.was)

pub returns-then-stands_at : goal.returns-then-stands_at
returns-then-stands_at c = body_over c.args.hd c.args.p c.args.s.now c.args.out.now c.requires c.fits.ensures c.if-not-fits.false c.stands_at.ensures c.if-stands_at.true
    c.body_end.result _ c.body_end.ensures c.in_ok-body_end.was

pub segment_at-requires : goal.segment_at-requires
segment_at-requires c = search segments

pub returns-in_err-next : goal.returns-in_err-next
returns-in_err-next c = body_stop _ _ _ _ _ _ c.from_residual-in_err-next.ensures
    (body_wrong c.args.hd c.args.p c.args.s.now c.args.out.now c.requires c.fits.ensures c.if-not-fits.false c.stands_at.ensures c.if-stands_at.false
    c.stripe_body-body.ensures c.segment_at.ensures _ c.in_err-next.was)

pub stripe_turn-requires : goal.stripe_turn-requires
stripe_turn-requires c = body_ready c.args.hd c.args.p c.args.s.now c.args.out.now c.requires c.fits.ensures c.if-not-fits.false c.stands_at.ensures c.if-stands_at.false
    c.stripe_body-body.ensures c.segment_at.ensures _ (c.in_ok-next.was ∙ ap Ok c.in-Stripe.is)

pub returns-in-Optional : goal.returns-in-Optional
returns-in-Optional c = body_skip c.args.hd c.args.p c.args.s.now c.args.out.now c.requires c.fits.ensures c.if-not-fits.false c.stands_at.ensures c.if-stands_at.false
    c.stripe_body-body.ensures c.segment_at.ensures _ (c.in_ok-next.was ∙ ap Ok c.in-Optional.is)

pub returns-in_err-next-in-Stripe : goal.returns-in_err-next-in-Stripe
returns-in_err-next-in-Stripe c = body_stop _ _ _ _ _ _ c.from_residual-in_err-next-in-Stripe.ensures
    (body_faulty c.args.hd c.args.p c.args.s.now c.args.out.now c.requires c.fits.ensures c.if-not-fits.false c.stands_at.ensures c.if-stands_at.false
    c.stripe_body-body.ensures c.segment_at.ensures _ (c.in_ok-next.was ∙ ap Ok c.in-Stripe.is) _ _ c.in_err-next-in-Stripe.ensures)

pub returns-in_ok-next-in-Stripe : goal.returns-in_ok-next-in-Stripe
returns-in_ok-next-in-Stripe c = body_stripe c.args.hd c.args.p c.args.s.now c.args.out.now c.requires c.fits.ensures c.if-not-fits.false c.stands_at.ensures c.if-stands_at.false
    c.stripe_body-body.ensures c.segment_at.ensures _ (c.in_ok-next.was ∙ ap Ok c.in-Stripe.is) _ _ c.in_ok-next-in-Stripe.ensures
