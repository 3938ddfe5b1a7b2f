-- `capi::requests::clear_bytes` meets its contract. Assumes nothing.
use borrow.Author.Rules.{rules}
use Rattle.calls.specs.Clear.{clear_call}
use Rattle.state.specs.State.{state}
use Rattle.capi.proofs.CallLaws.{called_passed, called_refused, clear_ended, lent_fits}
use Rattle.capi.proofs.requests.clear_bytes.Goals as goal

pub returns-in_err-check_lengths : goal.returns-in_err-check_lengths
returns-in_err-check_lengths c =
    let s = c.args in
    called_refused clear_call s.n (state s.links.now s.figures.now s.marks.now) c.from_residual.result c.in_err-check_lengths.field-0.0
    c.from_residual.ensures.1 c.in_err-check_lengths.ensures

pub returns : goal.returns
returns c =
    let s = c.args in
    let lent = state s.links.now s.figures.now s.marks.now in
    let passed = c.in_ok-check_lengths.ensures in
    called_passed clear_call s.n lent passed
    (clear_ended s.n lent (λ k. search rules) (lent_fits _ _ _ _ passed) (c.fill.ensures.after (λ y e. e)) (c.fill-2.ensures.after (λ y e. e)) c.set_exact.ensures)
