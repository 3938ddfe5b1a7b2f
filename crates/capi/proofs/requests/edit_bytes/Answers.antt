-- `capi::requests::edit_bytes` meets its contract. Assumes nothing.
use borrow.Author.Rules.{rules}
use Rattle.edits.specs.Inside.Change.{edit_call}
use Rattle.state.proofs.AnswerLaws.{passed_on}
use Rattle.state.specs.State.{state}
use Rattle.capi.proofs.CallLaws.{called_passed, called_refused, edit_ended, lent_fits, renew_fits, renews_none}
use Rattle.capi.proofs.requests.edit_bytes.Goals as goal

pub returns-in_err-check_lengths : goal.returns-in_err-check_lengths
returns-in_err-check_lengths c =
    let s = c.args in
    called_refused (λ t. edit_call t s.a s.b s.on) s.n (state s.links.now s.figures.now s.marks.now) c.from_residual.result c.in_err-check_lengths.field-0.0
    c.from_residual.ensures.1 c.in_err-check_lengths.ensures

pub returns-in_err-renewal : goal.returns-in_err-renewal
returns-in_err-renewal c =
    let s = c.args in
    let lent = state s.links.now s.figures.now s.marks.now in
    let passed = c.in_ok-check_lengths.ensures in
    let fits = lent_fits _ _ _ _ passed in
    rw (passed_on c.from_residual-in_err-renewal.result c.in_err-renewal.field-0.0 c.from_residual-in_err-renewal.ensures.1)
    (called_passed (λ t. edit_call t s.a s.b s.on) s.n lent passed
    (edit_ended s.n lent (λ k. search rules) fits s.a s.b s.on c.in_err-renewal.ensures (renews_none s.n lent (λ k. search rules) fits)))

pub renew_bytes-requires : goal.renew_bytes-requires
renew_bytes-requires c =
    let s = c.args in
    renew_fits s.n (state s.links.now s.figures.now s.marks.now) (λ k. search rules) (lent_fits _ _ _ _ c.in_ok-check_lengths.ensures)
    c.in_ok-renewal.ensures.ready.1

pub returns : goal.returns
returns c =
    let s = c.args in
    let lent = state s.links.now s.figures.now s.marks.now in
    let passed = c.in_ok-check_lengths.ensures in
    called_passed (λ t. edit_call t s.a s.b s.on) s.n lent passed
    (edit_ended s.n lent (λ k. search rules) (lent_fits _ _ _ _ passed) s.a s.b s.on c.in_ok-renewal.ensures c.renew_bytes.ensures)
