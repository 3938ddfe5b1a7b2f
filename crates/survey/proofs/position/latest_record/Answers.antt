-- `survey::position::latest_record` meets its contract. Assumes nothing.
use Rattle.std.proofs.Common.{refl, sym, ◌∙◌}
use Rattle.state.proofs.PairConditions.{earlier_none}
use Rattle.state.proofs.RefusalLaws.{counted_by}
use Rattle.survey.proofs.CallLaws.{answers_found, position_asked, position_form, position_nodes, position_pairs}
use Rattle.survey.proofs.NumberLaws.{valid_by, valid_most}
use Rattle.survey.proofs.position.latest_record.Goals as goal

pub returns-in_err-check_count : goal.returns-in_err-check_count
returns-in_err-check_count c = position_nodes _ _ _ _ _ _ c.from_residual.ensures.1 c.in_err-check_count.ensures

pub returns-in_err-check_form : goal.returns-in_err-check_form
returns-in_err-check_form c =
    position_form _ _ _ _ _ _ c.from_residual-in_err-check_form.ensures.1 c.in_ok-check_count.ensures c.in_err-check_form.ensures

pub returns-in_err-earlier : goal.returns-in_err-earlier
returns-in_err-earlier c =
    position_pairs _ _ _ _ c.in_ok-check_count.ensures c.in_ok-check_form.ensures c.check_records.ensures c.check_pair.ensures _ _
    c.from_residual-in_err-earlier.ensures.1 c.in_err-earlier.ensures

pub returns : goal.returns
returns c =
    let asked = position_asked _ _ _ _ c.in_ok-check_count.ensures c.in_ok-check_form.ensures c.check_records.ensures c.check_pair.ensures in
    answers_found _ _ _ _ (asked ∙ sym c.in_ok-earlier.ensures) c.last_for.ensures

pub last_for-requires : goal.last_for-requires
last_for-requires c =
    let none = (earlier_none _ _ (sym c.in_ok-earlier.ensures)).0 in
    valid_most (valid_by _ _ (counted_by _ c.in_ok-check_count.ensures refl).1 (sym c.check_records.ensures ∙ none))
