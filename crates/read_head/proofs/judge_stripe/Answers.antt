use Rattle.read_head.proofs.Stripe.{place_fits, stripe_made}
use lib.Dec.{lit≤}
use Rattle.read_head.proofs.judge_stripe.Goals as goal

pub overflow_add-at-5 : goal.overflow_add-at-5
overflow_add-at-5 c = place_fits _ _ c.requires.near (lit≤ tt)

pub overflow_add-at-6 : goal.overflow_add-at-6
overflow_add-at-6 c = place_fits _ _ c.requires.near (lit≤ tt)

pub overflow_add-at-7 : goal.overflow_add-at-7
overflow_add-at-7 c = place_fits _ _ c.requires.near (lit≤ tt)

pub overflow_add-at-8 : goal.overflow_add-at-8
overflow_add-at-8 c = place_fits _ _ c.requires.near (lit≤ tt)

pub overflow_add-at-9 : goal.overflow_add-at-9
overflow_add-at-9 c = place_fits _ _ c.requires.near (lit≤ tt)

pub overflow_add-at-10 : goal.overflow_add-at-10
overflow_add-at-10 c = place_fits _ _ c.requires.near (lit≤ tt)

pub overflow_add-at-11 : goal.overflow_add-at-11
overflow_add-at-11 c = place_fits _ _ c.requires.near (lit≤ tt)

pub overflow_add-at-12 : goal.overflow_add-at-12
overflow_add-at-12 c = place_fits _ _ c.requires.near (lit≤ tt)

pub returns : goal.returns
returns c = stripe_made _ _ _ _ _
    c.requires.same
    c.type_ok-kind.ensures
    c.has_back.ensures
    c.offset_ok-back.ensures
    c.has_fore.ensures
    c.offset_ok-fore.ensures
    c.mask_length_ok-mask.ensures
    c.field-r.ensures
    c.field-r-2.ensures
    c.field-r-3.ensures
    c.field-r-4.ensures
    c.field-r-5.ensures
    c.field-r-6.ensures
    c.field.ensures
