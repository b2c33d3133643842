use Rattle.line_sample.specs.Factor.{factor_of}
use Rattle.line_sample.proofs.Laws.{scaling, factor_is}
use mathlib.Core.Path.{refl}
use Rattle.line_sample.proofs.factor_of.Goals as goal

pub overflow_add-result : goal.overflow_add-result
overflow_add-result c = search scaling

pub nonzero_div-result : goal.nonzero_div-result
nonzero_div-result c = search scaling

pub returns-in-1 : goal.returns-in-1
unfolding factor_of
returns-in-1 c = factor_is _ 1 _ c.in-1.is refl

pub returns-in-2 : goal.returns-in-2
unfolding factor_of
returns-in-2 c = factor_is _ 2 _ c.in-2.is refl

pub returns-in-3 : goal.returns-in-3
unfolding factor_of
returns-in-3 c = factor_is _ 3 _ c.in-3.is refl

pub returns-in-4 : goal.returns-in-4
unfolding factor_of
returns-in-4 c = factor_is _ 4 _ c.in-4.is refl

pub returns-in-6 : goal.returns-in-6
unfolding factor_of
returns-in-6 c = factor_is _ 6 _ c.in-6.is refl

pub returns-in-12 : goal.returns-in-12
unfolding factor_of
returns-in-12 c = factor_is _ 12 _ c.in-12.is refl

pub returns-in_default : goal.returns-in_default
returns-in_default c = search scaling
