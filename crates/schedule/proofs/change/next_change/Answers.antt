-- `schedule::change::next_change` meets its contract. Assumes nothing.
use Rattle.std.proofs.Common.{refl, sym, ◌∙◌}
use Rattle.state.proofs.AnswerLaws.{number_some}
use Rattle.schedule.proofs.ChangeLaws.{answers_found, answers_refused}
use Rattle.schedule.proofs.RecordLaws.{form_refused, form_rest, form_some, valid_by}
use Rattle.schedule.proofs.change.next_change.Goals as goal

pub returns-in_err-check_form : goal.returns-in_err-check_form
returns-in_err-check_form c = answers_refused _ _ _ _ c.from_residual.ensures.1 (form_refused _ c.in_err-check_form.ensures (number_some _) _)

-- after the form the records decide
pub returns-in_err-check_records : goal.returns-in_err-check_records
returns-in_err-check_records c =
    answers_refused _ _ _ _ c.from_residual-in_err-check_records.ensures.1
    (c.in_err-check_records.ensures ∙ sym (form_rest _ c.in_ok-check_form.ensures refl _))

pub returns : goal.returns
returns c = answers_found _ _ (form_rest _ c.in_ok-check_form.ensures refl _ ∙ sym c.in_ok-check_records.ensures) c.first_change.ensures

pub check_records-requires : goal.check_records-requires
check_records-requires c = form_some _ c.in_ok-check_form.ensures refl

pub first_change-requires : goal.first_change-requires
first_change-requires c = valid_by _ (c.type_inv.schedule 0) c.in_ok-check_form.ensures c.in_ok-check_records.ensures
