-- `merge::pinned::reconcile_pinned` meets its contract. Assumes nothing.
use Rattle.std.proofs.Common.{refl, sym, ◌∙◌}
use Rattle.calls.proofs.OutcomeLaws.{call_accepted}
use Rattle.state.proofs.AnswerLaws.{refused_left}
use Rattle.state.proofs.RefusalLaws.{fitted_by, sized_room}
use Rattle.state.specs.Outcome.{lengths}
use Rattle.state.specs.State.{state}
use Rattle.merge.proofs.ConflictCall.{handed_on}
use Rattle.merge.proofs.PinLaws.{accepted_none, accepts_too, same_after}
use Rattle.merge.specs.Lent.{lent}
use Rattle.merge.specs.Pinned.{pinned_call}
use Rattle.merge.proofs.pinned.reconcile_pinned.Goals as goal

pub returns-in_err-check_state : goal.returns-in_err-check_state
unfolding pinned_call lengths
returns-in_err-check_state c = refused_left _ _ _ _ _ _ c.from_residual.ensures.1 c.in_err-check_state.ensures

pub returns-in_err-check_pinned : goal.returns-in_err-check_pinned
unfolding pinned_call
returns-in_err-check_pinned c =
    handed_on (state c.args.edges.now c.args.figures.now c.args.marks.now) _ _ (fitted_by c.in_ok-check_state.ensures refl) _ _
    c.from_residual-in_err-check_pinned.ensures.1 c.in_err-check_pinned.ensures

pub check_pinned-requires : goal.check_pinned-requires
check_pinned-requires c = sized_room (fitted_by c.in_ok-check_state.ensures refl).sizes

pub take_theirs-requires : goal.take_theirs-requires
take_theirs-requires c =
    rw (c.changes.ensures.0, c.changes.ensures.1)
    (accepts_too (state c.args.edges.now c.args.figures.now c.args.marks.now) (lent c.args.brought) (sym c.in_ok-check_pinned.ensures)
    (fitted_by c.in_ok-check_state.ensures refl))

pub returns : goal.returns
unfolding pinned_call
returns c =
    let s = state c.args.edges.now c.args.figures.now c.args.marks.now in
    call_accepted s _ _ (fitted_by c.in_ok-check_state.ensures refl) c.in_ok-check_pinned.ensures refl
    ((rw (c.changes.ensures.0, c.changes.ensures.1) at c.take_theirs.ensures)
    ∙ sym (same_after s (lent c.args.brought) (accepted_none s (lent c.args.brought) (sym c.in_ok-check_pinned.ensures))))
