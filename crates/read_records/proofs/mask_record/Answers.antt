use Rattle.mode1_rules.specs.Kinds.{mask_record}
use Rattle.read_records.proofs.Laws.{mask_there, mask_none}
use Rattle.read_records.proofs.mask_record.Goals as goal
use Rattle.read_records.proofs.mask_record.Goals.{then-has_mask, else-has_mask}

pub returns : goal.returns
unfolding mask_record
returns c =
    elim c.if-has_mask.branch [
      | then-has_mask w ↦ mask_there c.args.hd c.args.k c.args.t c.args.height c.args.start c.args.len c.has_mask.ensures c.narrow-height.ensures w.if-has_mask.true w.coder-is
      | else-has_mask w ↦ mask_none c.args.hd c.args.k c.args.t c.args.height c.args.start c.args.len c.has_mask.ensures c.narrow-height.ensures w.if-has_mask.false w.coder-is
    ]
