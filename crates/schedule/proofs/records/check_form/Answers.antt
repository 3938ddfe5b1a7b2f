-- `schedule::records::check_form` meets its contract. Assumes nothing.
use Rattle.std.proofs.Common.{arith, sym, ◌∙◌}
use borrow.Author.Tests.{eqb-false, eqb-true}
use Rattle.state.proofs.RefusalLaws.{refusal_none}
use Rattle.schedule.proofs.RecordLaws.{passed_form, refused_form}
use Rattle.schedule.proofs.records.check_form.Goals as goal
use Rattle.schedule.proofs.records.check_form.Goals.{then-is_empty-via-then-is_empty, then-is_empty-via-else-is_empty+then-schedule-ne0}

pub returns-then-is_empty : goal.returns-then-is_empty
returns-then-is_empty c = sym (refused_form _ _ (λ h e. elim c.then-is_empty.branch [
  | then-is_empty-via-then-is_empty w ↦ omega (arith, eqb-true _ _ (sym c.is_empty.ensures ∙ w.if-is_empty.true))
  | then-is_empty-via-else-is_empty+then-schedule-ne0 w ↦ w.if-schedule-ne0.true e
]))

pub returns : goal.returns
returns c = sym (passed_form _ _ (omega (arith, eqb-false _ _ (sym c.is_empty.ensures ∙ c.if-is_empty.false))) c.if-schedule-ne0.false ∙ refusal_none)
