use Rattle.read_start.proofs.Start.{start_made}
use Rattle.read_start.proofs.judge_start.Goals as goal

pub returns : goal.returns
returns c = start_made _
    c.field.ensures
    c.stands_at-4.ensures
    c.field-r-10.ensures
    c.four-width.ensures
    c.field-r-9.ensures
    c.is_listed.ensures
    c.two.ensures
    c.field-r-8.ensures
    c.image_coder.ensures
    c.octet-4.ensures
    c.field-r-7.ensures
    c.mask_coder.ensures
    c.octet-3.ensures
    c.field-r-6.ensures
    c.octet-2.ensures
    c.field-r-5.ensures
    c.octet.ensures
    c.held-r.ensures
    c.field-r-4.ensures
    c.stands_at-3.ensures
    c.field-r-3.ensures
    c.field-r-2.ensures
    c.stands_at-2.ensures
    c.field-r.ensures
    c.stands_at.ensures
    c.two-size.ensures
