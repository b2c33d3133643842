use mathlib.Core.Logic.{⊎_elim}
use mathlib.Core.Path.{sym, ap}
use Rattle.jpeg_rules.specs.Marker.{class_of}
use Rattle.jpeg_marker.proofs.Laws.{ranges}
use Rattle.jpeg_marker.proofs.class_of.Goals as goal

pub returns-in-1 : goal.returns-in-1
unfolding class_of
returns-in-1 c = ap class_of (sym c.in-1.is)

pub returns-in-196 : goal.returns-in-196
unfolding class_of
returns-in-196 c = ⊎_elim (λ e. ap class_of (sym e)) (⊎_elim (λ e. ap class_of (sym e)) λ e. ap class_of (sym e)) c.in-196.is

pub returns-in-218 : goal.returns-in-218
unfolding class_of
returns-in-218 c = ap class_of (sym c.in-218.is)

pub returns-in-217 : goal.returns-in-217
unfolding class_of
returns-in-217 c = ap class_of (sym c.in-217.is)

pub returns-in-192-to-207 : goal.returns-in-192-to-207
returns-in-192-to-207 c = search ranges

pub returns-in_default : goal.returns-in_default
returns-in_default c = search ranges

pub returns-in-0-to-191 : goal.returns-in-0-to-191
unfolding class_of
returns-in-0-to-191 c = ⊎_elim (λ e. ap class_of (sym e)) (λ e. ap class_of (sym e)) c.in-0-to-191.in-0-to-191-own.keys5

pub returns-in-0-to-191-2 : goal.returns-in-0-to-191-2
returns-in-0-to-191-2 c = search ranges

pub returns-in-0-to-191-3 : goal.returns-in-0-to-191-3
returns-in-0-to-191-3 c = search ranges
