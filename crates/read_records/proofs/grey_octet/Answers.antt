use Rattle.read_records.proofs.Laws.{octet_laws}
use Rattle.read_records.proofs.grey_octet.Goals as goal

pub returns-then-components-eq1 : goal.returns-then-components-eq1
returns-then-components-eq1 c = search octet_laws

pub returns-else-components-eq1 : goal.returns-else-components-eq1
returns-else-components-eq1 c = search octet_laws
