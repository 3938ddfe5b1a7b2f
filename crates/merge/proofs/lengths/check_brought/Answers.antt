-- `merge::lengths::check_brought` meets its contract. Assumes nothing.
use mathlib.Core.Path.{refl, sym, ◌∙◌}
use Rattle.state.proofs.AnswerLaws.{refused_on}
use Rattle.merge.proofs.LengthLaws.{two_rest}
use Rattle.merge.proofs.lengths.check_brought.Goals as goal

pub returns-in_err-check_two : goal.returns-in_err-check_two
returns-in_err-check_two c = refused_on _ _ _ _ c.from_residual.ensures.1 c.in_err-check_two.ensures

pub returns : goal.returns
returns c = c.check_two-2.ensures ∙ sym (two_rest _ _ _ c.in_ok-check_two.ensures refl _)
