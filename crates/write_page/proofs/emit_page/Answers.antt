use Rattle.write_page.proofs.Page.{start_room, page_lined, end_room, page_put}
use mathlib.Core.Path.{refl}
use Rattle.write_page.proofs.emit_page.Goals as goal

pub put_start-requires : goal.put_start-requires
put_start-requires c = start_room c.args.rules c.args.out.now c.args.s.now c.args.d.now c.args.tally (λ i. (c.shared_slice_known-1.given i).fits) (λ i. (c.shared_slice_known-2-1.given i).fits) c.requires

pub put_stripes-at-requires : goal.put_stripes-at-requires
put_stripes-at-requires c = page_lined c.args.rules c.args.out.now c.args.s.now c.args.d.now c.args.tally (λ i. (c.shared_slice_known-1.given i).fits) (λ i. (c.shared_slice_known-2-1.given i).fits) c.requires c.head_of.ensures c.put_start.ensures _ refl

pub put_end-requires : goal.put_end-requires
put_end-requires c = end_room c.args.rules c.args.out.now c.args.s.now c.args.d.now c.args.tally (λ i. (c.shared_slice_known-1.given i).fits) (λ i. (c.shared_slice_known-2-1.given i).fits) c.requires c.head_of.ensures c.put_start.ensures c.put_stripes-at.ensures.put _ c.put_stripes-at.ensures.next

pub returns : goal.returns
returns c = page_put c.args.rules c.args.out.now c.args.s.now c.args.d.now c.args.tally (λ i. (c.shared_slice_known-1.given i).fits) (λ i. (c.shared_slice_known-2-1.given i).fits) c.requires c.head_of.ensures c.put_start.ensures c.put_stripes-at.ensures.put _ c.put_stripes-at.ensures.next c.put_end.ensures
