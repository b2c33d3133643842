use Rattle.line_lanes.proofs.Laws.{laying}
use native.Mathlib.Omega.{arith}
use lib.ListN.{length-set}
use Rattle.line_lanes.proofs.put_lane.Goals as goal

pub bounds-lanes-b-2 : goal.bounds-lanes-b-2
bounds-lanes-b-2 c = simp length-set (omega arith)

pub bounds-lanes-b-3 : goal.bounds-lanes-b-3
bounds-lanes-b-3 c = simp length-set (omega arith)

pub bounds-lanes-b-4 : goal.bounds-lanes-b-4
bounds-lanes-b-4 c = simp length-set (omega arith)

pub bounds-lanes-b-5 : goal.bounds-lanes-b-5
bounds-lanes-b-5 c = simp length-set (omega arith)

pub bounds-lanes-b-6 : goal.bounds-lanes-b-6
bounds-lanes-b-6 c = simp length-set (omega arith)

pub bounds-lanes-b-7 : goal.bounds-lanes-b-7
bounds-lanes-b-7 c = simp length-set (omega arith)

pub bounds-lanes-b-8 : goal.bounds-lanes-b-8
bounds-lanes-b-8 c = simp length-set (omega arith)

pub bounds-lanes-b-9 : goal.bounds-lanes-b-9
bounds-lanes-b-9 c = simp length-set (omega arith)

pub bounds-lanes-b-10 : goal.bounds-lanes-b-10
bounds-lanes-b-10 c = simp length-set (omega arith)

pub returns : goal.returns
returns c = search laying
