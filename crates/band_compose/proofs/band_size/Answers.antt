use Rattle.band_compose.proofs.Laws.{sizing}
use Rattle.band_compose.proofs.band_size.Goals as goal

pub overflow_mul-result : goal.overflow_mul-result
overflow_mul-result c = search sizing

pub overflow_mul-result-2 : goal.overflow_mul-result-2
overflow_mul-result-2 c = search sizing
