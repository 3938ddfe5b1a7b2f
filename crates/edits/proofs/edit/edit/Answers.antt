-- `edits::edit::edit` meets its contract. Assumes nothing.
use mathlib.Core.Path.{refl}
use native.Mathlib.Omega.{arith}
use borrow.Author.Rules.{rules}
use Rattle.state.proofs.RefusalLaws.{fitted_by, sized_room}
use Rattle.edits.proofs.ApplyLaws.{applied, apply_ready}
use Rattle.edits.proofs.RenewalLaws.{edit_passed, renews_examined, renews_lengths}
use Rattle.edits.specs.Inside.Change.{edit_conditions}
use Rattle.edits.proofs.edit.edit.Goals as goal

pub returns-in_err-check_state : goal.returns-in_err-check_state
returns-in_err-check_state c =
    let s = c.args in
    renews_lengths _ _ s.n s.a s.b s.on c.in_err-check_state.field-0.0 c.in_err-check_state.ensures c.from_residual.result c.from_residual.ensures.1

pub examine-requires : goal.examine-requires
examine-requires c = sized_room (fitted_by c.in_ok-check_state.ensures refl).sizes

pub returns-in_err-touching : goal.returns-in_err-touching
returns-in_err-touching c =
    let s = c.args in
    renews_examined _ _ s.n s.a s.b s.on (fitted_by c.in_ok-check_state.ensures refl) c.in_err-touching.field-0.0 c.in_err-touching.ensures.answer
    c.from_residual-in_err-touching.result c.from_residual-in_err-touching.ensures.1

pub apply-requires : goal.apply-requires
apply-requires c =
    let fits = fitted_by c.in_ok-check_state.ensures refl in
    apply_ready c.in_ok-touching.ensures.ready (omega (arith, fits.marks_fit))

pub returns : goal.returns
returns c =
    let s = c.args in
    let es = s.edges.now in
    let ms = s.marks.now in
    let fits = fitted_by c.in_ok-check_state.ensures refl in
    let made = c.apply.ensures in
    applied ms (λ k. search rules) made.value made.edges_after made.marks_after (omega (arith, fits.marks_fit))
    c.in_ok-touching.ensures.ready (edit_conditions es ms s.n s.a s.b s.on)
    (edit_passed es ms s.n s.a s.b s.on fits c.in_ok-touching.ensures.answer)
