use Rattle.read_layers.proofs.Laws.{fault_fits, fault_told}
use Rattle.answers.specs.Answers.{refusal_place}
use Rattle.mode1_rules.specs.Reading.{fault_of}
use Rattle.read_layers.proofs.fault_answer.Goals as goal

pub overflow_cast-result : goal.overflow_cast-result
unfolding refusal_place fault_of
overflow_cast-result c = fault_fits _ _ c.requires c.in-Short.is

pub overflow_cast-result-in-BadLength : goal.overflow_cast-result-in-BadLength
unfolding refusal_place fault_of
overflow_cast-result-in-BadLength c = fault_fits _ _ c.requires c.in-BadLength.is

pub overflow_cast-result-in-BadRes : goal.overflow_cast-result-in-BadRes
unfolding refusal_place fault_of
overflow_cast-result-in-BadRes c = fault_fits _ _ c.requires c.in-BadRes.is

pub overflow_cast-result-in-BadLayer : goal.overflow_cast-result-in-BadLayer
unfolding refusal_place fault_of
overflow_cast-result-in-BadLayer c = fault_fits _ _ c.requires c.in-BadLayer.is

pub returns-in-Short : goal.returns-in-Short
unfolding fault_of
returns-in-Short c = fault_told _ _ c.in-Short.is

pub returns-in-BadLength : goal.returns-in-BadLength
unfolding fault_of
returns-in-BadLength c = fault_told _ _ c.in-BadLength.is

pub returns-in-BadRes : goal.returns-in-BadRes
unfolding fault_of
returns-in-BadRes c = fault_told _ _ c.in-BadRes.is

pub returns-in-BadLayer : goal.returns-in-BadLayer
unfolding fault_of
returns-in-BadLayer c = fault_told _ _ c.in-BadLayer.is
