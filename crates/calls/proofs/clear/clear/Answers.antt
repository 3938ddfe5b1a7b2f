-- `calls::clear::clear` meets its contract. Assumes nothing.
use Rattle.std.proofs.Common.{length, replicate, refl, ap, sym, ◌≡◌, ◌∙◌, rules}
use Rattle.state.proofs.AnswerLaws.{left_by}
use Rattle.state.proofs.RefusalLaws.{fitted_by}
use Rattle.state.specs.Outcome.{lengths}
use Rattle.state.specs.State.{state}
use Rattle.calls.proofs.OutcomeLaws.{accepted_is, cleared_is}
use Rattle.calls.specs.Clear.{clear_call}
use Rattle.calls.proofs.clear.clear.Goals as goal

pub returns-in_err-check_state : goal.returns-in_err-check_state
unfolding clear_call lengths
returns-in_err-check_state c = left_by _ _ _ _ _ c.from_residual.ensures.1 c.in_err-check_state.ensures

pub returns : goal.returns
unfolding clear_call lengths
returns c =
    let f = fitted_by c.in_ok-check_state.ensures refl in
    let edges : c.fill.new.self ≡ replicate (length c.args.edges.now) 0 = search rules in
    let figures : c.fill-2.new.self ≡ replicate (length c.args.figures.now) 0 = search rules in
    accepted_is _ (state c.args.edges.now c.args.figures.now c.args.marks.now) _ (sym c.in_ok-check_state.ensures)
    (cleared_is _ (edges ∙ ap (λ m. replicate m 0) f.sizes.edges_fit) figures (c.set_exact.ensures ∙ ap (λ m. replicate m 0) f.marks_fit))
