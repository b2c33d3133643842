use Rattle.line_compose.proofs.Laws.{composing}
use Rattle.line_compose.proofs.line_of.Goals as goal

pub listing_of-list-requires : goal.listing_of-list-requires
listing_of-list-requires c = search composing

pub compose_line-requires : goal.compose_line-requires
compose_line-requires c = search composing

pub returns : goal.returns
returns c = search composing
