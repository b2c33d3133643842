use Rattle.paint_words.specs.Words.{octets_of}
use Rattle.paint_image.specs.Image.{image_from}
use Rattle.paint_layer.specs.Layer.{agrees}
use Rattle.paint_layer.proofs.Laws.{putting}
use Rattle.paint_layer.proofs.agree_under.Goals as goal

pub returns : goal.returns
returns c = c.coat_image.ensures (agrees (image_from (octets_of c.args.u) c.args.s.now c.args.d.now c.args.r) (octets_of c.args.u)) (λ i w v k b o q. search putting)
