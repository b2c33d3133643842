use Rattle.read_records.proofs.Laws.{stripe_put}
use Rattle.read_records.proofs.put_stripe.Goals as goal

pub returns : goal.returns
returns c = stripe_put _ _ _ _ _ _ _ _ c.requires
    c.image_record-r1.ensures
    c.mask_record-r2.ensures
    c.image_record-r3.ensures
    c.put_record.ensures
    c.put_record-2.ensures
    c.put_record-3.ensures
