use Rattle.paint_words.specs.Words.{octets_of}
use Rattle.paint_coat.specs.Coat.{over, chosen_by, kept}
use Rattle.paint_image.specs.Image.{image_from}
use Rattle.paint_choice.specs.Choice.{bits_from}
use Rattle.paint_layer.proofs.Laws.{putting}
use Rattle.paint_layer.proofs.pick_image.Goals as goal

pub returns : goal.returns
returns c = c.coat_image.ensures (chosen_by (bits_from c.args.m.now c.args.x 0) kept (over (image_from (octets_of c.args.u) c.args.s.now c.args.d.now c.args.r))) (λ i w v k b o q. search putting)
