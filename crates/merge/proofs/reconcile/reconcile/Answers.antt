-- `merge::reconcile::reconcile` meets its contract. Assumes nothing.
use Rattle.std.proofs.Common.{refl, sym, ◌∙◌}
use Rattle.calls.proofs.AcceptLaws.{lengths_pass, outcome_refusal}
use Rattle.calls.proofs.OutcomeLaws.{call_accepted}
use Rattle.state.proofs.AnswerLaws.{refused_left}
use Rattle.state.proofs.RefusalLaws.{fitted_by, sized_room}
use Rattle.state.specs.Outcome.{lengths}
use Rattle.state.specs.State.{state}
use Rattle.merge.specs.Reconcile.{reconcile_call}
use Rattle.merge.proofs.ConflictCall.{handed_on}
use Rattle.merge.proofs.reconcile.reconcile.Goals as goal

pub returns-in_err-check_state : goal.returns-in_err-check_state
unfolding reconcile_call lengths
returns-in_err-check_state c = refused_left _ _ _ _ _ _ c.from_residual.ensures.1 c.in_err-check_state.ensures

pub check_reconcile-requires : goal.check_reconcile-requires
check_reconcile-requires c = sized_room (fitted_by c.in_ok-check_state.ensures refl).sizes

pub returns-in_err-check_reconcile : goal.returns-in_err-check_reconcile
unfolding reconcile_call
returns-in_err-check_reconcile c =
    handed_on (state c.args.edges.now c.args.figures.now c.args.marks.now) _ _ (fitted_by c.in_ok-check_state.ensures refl) _ _
    c.from_residual-in_err-check_reconcile.ensures.1 c.in_err-check_reconcile.ensures

pub take_theirs-requires : goal.take_theirs-requires
unfolding reconcile_call
take_theirs-requires c =
    let s = state c.args.edges.now c.args.figures.now c.args.marks.now in
    outcome_refusal _ s _ ∙ lengths_pass s _ (fitted_by c.in_ok-check_state.ensures refl) ∙ sym c.in_ok-check_reconcile.ensures

pub returns : goal.returns
unfolding reconcile_call
returns c =
    call_accepted (state c.args.edges.now c.args.figures.now c.args.marks.now) _ _ (fitted_by c.in_ok-check_state.ensures refl)
    c.in_ok-check_reconcile.ensures refl c.take_theirs.ensures
