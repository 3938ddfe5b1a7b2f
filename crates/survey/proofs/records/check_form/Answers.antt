-- `survey::records::check_form` meets its contract. Assumes nothing.
use Rattle.std.proofs.Common.{sym, ◌∙◌}
use Rattle.state.proofs.PairConditions.{passed_part, refused_part}
use Rattle.state.proofs.RefusalLaws.{refusal_none}
use Rattle.survey.proofs.records.check_form.Goals as goal

pub returns-then-survey-ne0 : goal.returns-then-survey-ne0
returns-then-survey-ne0 c = sym (refused_part _ _ _ c.if-survey-ne0.true)

pub returns : goal.returns
returns c = sym (passed_part _ _ _ c.if-survey-ne0.false ∙ refusal_none)
