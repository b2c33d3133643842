use Rattle.paint_layer.proofs.Parts.{is_span}
use native.Mathlib.Omega.{arith}
use Rattle.paint_layer.proofs.Parts.{last_there}
use Rattle.paint_layer.proofs.Parts.{testing}
use Rattle.paint_layer.proofs.spans_three.Goals as goal

pub returns-then-r-ne3 : goal.returns-then-r-ne3
returns-then-r-ne3 c = search testing

pub returns-then-r-ne1 : goal.returns-then-r-ne1
returns-then-r-ne1 c = search testing

pub returns-then-x-r : goal.returns-then-x-r
returns-then-x-r c = search testing

pub returns-then-r-y : goal.returns-then-r-y
returns-then-r-y c = search testing

pub overflow_mul-result : goal.overflow_mul-result
overflow_mul-result c = let h = last_there _ _ _ _ _ c.requires.0 c.requires.1 c.if-r-ne3.false c.if-r-ne1.false c.if-x-r.false c.if-r-y.false in let n = c.well_formed.1.0.0 in omega arith

pub overflow_add-result : goal.overflow_add-result
overflow_add-result c = let h = last_there _ _ _ _ _ c.requires.0 c.requires.1 c.if-r-ne3.false c.if-r-ne1.false c.if-x-r.false c.if-r-y.false in let n = c.well_formed.1.0.0 in omega arith

pub overflow_add-result-2 : goal.overflow_add-result-2
overflow_add-result-2 c = let h = last_there _ _ _ _ _ c.requires.0 c.requires.1 c.if-r-ne3.false c.if-r-ne1.false c.if-x-r.false c.if-r-y.false in let n = c.well_formed.1.0.0 in omega arith

pub returns : goal.returns
returns c = is_span _ _ _ _ c.requires.1 c.if-r-ne3.false c.if-r-ne1.false c.if-x-r.false c.if-r-y.false
