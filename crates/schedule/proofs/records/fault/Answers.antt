-- `schedule::records::fault` meets its contract. Where the pair passes, the hours decide. Assumes nothing.
use Rattle.std.proofs.Common.{sym, ◌∙◌}
use Rattle.state.proofs.AnswerLaws.{refused_on}
use Rattle.state.proofs.PairConditions.{pairs_rest}
use Rattle.state.proofs.RefusalLaws.{refusal_none}
use Rattle.schedule.proofs.RecordLaws.{passed_hours, refused_hours}
use Rattle.schedule.proofs.records.fault.Goals as goal

pub returns-in_err-check_pair : goal.returns-in_err-check_pair
returns-in_err-check_pair c = refused_on _ _ _ _ c.from_residual.ensures.1 c.in_err-check_pair.ensures

pub returns-then-r : goal.returns-then-r
returns-then-r c = sym (pairs_rest _ _ _ (sym c.in_ok-check_pair.ensures) ∙ refused_hours _ _ _ c.if-r.true)

pub returns : goal.returns
returns c = sym (pairs_rest _ _ _ (sym c.in_ok-check_pair.ensures) ∙ passed_hours _ _ _ c.if-r.false ∙ refusal_none)
