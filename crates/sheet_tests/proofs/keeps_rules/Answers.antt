use Rattle.sheet_tests.proofs.Laws.{testing}
use Rattle.sheet_tests.proofs.keeps_rules.Goals as goal

pub returns-then-not-zeros_ok : goal.returns-then-not-zeros_ok
returns-then-not-zeros_ok c = search testing

pub returns-then-not-grey_ok : goal.returns-then-not-grey_ok
returns-then-not-grey_ok c = search testing

pub returns-then-not-is_placed : goal.returns-then-not-is_placed
returns-then-not-is_placed c = search testing

pub returns-then-not-data_ok : goal.returns-then-not-data_ok
returns-then-not-data_ok c = search testing

pub returns-then-not-is_listed : goal.returns-then-not-is_listed
returns-then-not-is_listed c = search testing

pub returns-then-not-base_ok : goal.returns-then-not-base_ok
returns-then-not-base_ok c = search testing

pub returns : goal.returns
returns c = search testing
