use native.Mathlib.Omega.{arith}
use Rattle.paint_words.specs.Words.{octets_of}
use Rattle.paint_coat.specs.Coat.{over, flat, chosen_by, kept}
use Rattle.paint_choice.specs.Choice.{bits_from}
use Rattle.paint_layer.proofs.Laws.{putting}
use Rattle.paint_layer.proofs.Parts.{up_to}
use Rattle.paint_layer.proofs.hide_word.Goals as goal

pub returns : goal.returns
returns c = up_to _ _ _ _ (omega arith) _ (c.coat_by.ensures (chosen_by (bits_from c.args.m.now c.args.x 0) (over (flat (octets_of c.args.w))) kept) (λ i w k b q. search putting))
