use native.Mathlib.Omega.{arith}
use Rattle.paint_layer.proofs.Parts.{dark_shows, three_shows}
use Rattle.paint_layer.proofs.Both.{both_chosen, low_laid, up_laid}
use Rattle.paint_layer.proofs.two_masked.Goals as goal

pub overflow_sub-i : goal.overflow_sub-i
overflow_sub-i c = (c.spans_three.ensures c.if-spans_three.true).from

pub overflow_add-i : goal.overflow_add-i
overflow_add-i c = let g = c.spans_three.ensures c.if-spans_three.true in let f = g.from in let h = g.more in omega arith

pub overflow_sub-x : goal.overflow_sub-x
overflow_sub-x c = (c.spans_three-then-spans_three.ensures c.if-spans_three-2.true).from

pub overflow_add-up : goal.overflow_add-up
overflow_add-up c = let g₂ = c.spans_three-then-spans_three.ensures c.if-spans_three-2.true in let f₂ = g₂.from in let h₂ = g₂.more in let n = c.well_formed.1.1.1.1.0.0 in let q = c.requires.4 in omega arith

pub two_images-requires : goal.two_images-requires
two_images-requires c = let g = c.spans_three.ensures c.if-spans_three.true in let f = g.from in let h = g.more in let g₂ = c.spans_three-then-spans_three.ensures c.if-spans_three-2.true in let f₂ = g₂.from in let h₂ = g₂.more in (omega arith, omega arith, omega arith, omega arith)

pub returns-then-spans_three-2 : goal.returns-then-spans_three-2
returns-then-spans_three-2 c = both_chosen _ _ _ _ _ _ _ (let q = c.requires.4 in omega arith) _ _ (three_shows _ _ _ _ _ _ (c.spans_three.ensures c.if-spans_three.true)) (three_shows _ _ _ _ _ _ (c.spans_three-then-spans_three.ensures c.if-spans_three-2.true)) c.two_images.ensures

pub image_below-requires : goal.image_below-requires
image_below-requires c = let g = c.spans_three.ensures c.if-spans_three.true in let f = g.from in let h = g.more in (omega arith, omega arith, omega arith)

pub returns-then-spans_dark : goal.returns-then-spans_dark
returns-then-spans_dark c = both_chosen _ _ _ _ _ _ _ (let q = c.requires.4 in omega arith) _ _ (three_shows _ _ _ _ _ _ (c.spans_three.ensures c.if-spans_three.true)) (dark_shows _ _ _ _ _ _ (c.spans_dark.ensures c.if-spans_dark.true)) c.image_below.ensures

pub overflow_sub-x-then-spans_three-3 : goal.overflow_sub-x-then-spans_three-3
overflow_sub-x-then-spans_three-3 c = (c.spans_three-then-spans_dark-2.ensures c.if-spans_three-3.true).from

pub overflow_add-up-then-spans_three-3 : goal.overflow_add-up-then-spans_three-3
overflow_add-up-then-spans_three-3 c = let g = c.spans_three-then-spans_dark-2.ensures c.if-spans_three-3.true in let f = g.from in let h = g.more in let n = c.well_formed.1.1.1.1.0.0 in let q = c.requires.4 in omega arith

pub image_above-requires : goal.image_above-requires
image_above-requires c = let g = c.spans_three-then-spans_dark-2.ensures c.if-spans_three-3.true in let f = g.from in let h = g.more in (omega arith, omega arith, omega arith)

pub returns-then-spans_three-3 : goal.returns-then-spans_three-3
returns-then-spans_three-3 c = both_chosen _ _ _ _ _ _ _ (let q = c.requires.4 in omega arith) _ _ (dark_shows _ _ _ _ _ _ (c.spans_dark-2.ensures c.if-spans_dark-2.true)) (three_shows _ _ _ _ _ _ (c.spans_three-then-spans_dark-2.ensures c.if-spans_three-3.true)) c.image_above.ensures

pub returns-then-spans_dark-2 : goal.returns-then-spans_dark-2
returns-then-spans_dark-2 c = up_laid _ _ _ _ _ _ _ (let q = c.requires.4 in omega arith) _ _ (dark_shows _ _ _ _ _ _ (c.spans_dark-2.ensures c.if-spans_dark-2.true)) c.lay_image.ensures c.hide_word.ensures

pub pick_image-requires : goal.pick_image-requires
pick_image-requires c = (c.requires.2, c.requires.3, c.requires.4, c.requires.5, let k = c.requires.6 in let n = c.lay_image-2.ensures.long in omega arith, c.requires.7, c.requires.8)

pub returns : goal.returns
returns c = low_laid _ _ _ _ _ _ _ (let q = c.requires.4 in omega arith) _ c.lay_image-2.ensures c.pick_image.ensures
