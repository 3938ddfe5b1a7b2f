-- `port::fj_port_survey_position` meets its contract. Assumes nothing.
use Rattle.std.proofs.Common.{◌∙◌, ◌^◌, ap}
use Rattle.port.proofs.PortLaws.{refused_alone}
use Rattle.port.specs.Port.{as_one_record}
use Rattle.survey.specs.Position.{numbers_of}
use Rattle.state.specs.Refusal.{one_number}
use Rattle.port.proofs.fj_port_survey_position.Goals as goal

pub returns-in-Ok-Some : goal.returns-in-Ok-Some
unfolding numbers_of one_number
returns-in-Ok-Some c = ap as_one_record (rw c.in-Ok-Some.field-0-is at c.in-Ok-Some.ensures).1

pub returns-in-Ok-None : goal.returns-in-Ok-None
unfolding numbers_of one_number
returns-in-Ok-None c = ap as_one_record (rw c.in-Ok-None.field-0-is at c.in-Ok-None.ensures).1

pub returns-in-Err : goal.returns-in-Err
unfolding numbers_of
returns-in-Err c = c.one_number.ensures ∙ refused_alone c.in-Err.refusal 0 (2 ^ 63) ∙ ap as_one_record c.in-Err.ensures.1
