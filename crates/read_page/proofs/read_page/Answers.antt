use lib.ListN.{replicate}
use Rattle.read_page.specs.Steps.{page_sheet}
use Rattle.read_page.proofs.Whole.{read_bad, read_laid, read_emits, reading}
use Rattle.read_page.proofs.read_page.Goals as goal

pub returns-then-page-gt-LONGEST_PAGE : goal.returns-then-page-gt-LONGEST_PAGE
returns-then-page-gt-LONGEST_PAGE c = search reading

pub returns-in_err-records : goal.returns-in_err-records
returns-in_err-records c = read_bad c.args.page.now c.args.sheet.now c.if-page-gt-LONGEST_PAGE.false (replicate page_sheet 0) c.judge_page.new.out c.judge_page.result c.judge_page.ensures
    _ _ c.in_err-records.was c.from_residual.ensures

pub emit-requires : goal.emit-requires
emit-requires c = read_laid c.args.page.now c.args.sheet.now c.if-page-gt-LONGEST_PAGE.false (replicate page_sheet 0) c.judge_page.new.out c.judge_page.result c.judge_page.ensures
    _ c.in_ok-records.was

pub returns : goal.returns
returns c = read_emits c.args.page.now c.args.sheet.now c.if-page-gt-LONGEST_PAGE.false (replicate page_sheet 0) c.judge_page.new.out c.judge_page.result c.judge_page.ensures
    _ c.in_ok-records.was c.emit.result c.emit.new.sheet c.emit.ensures
