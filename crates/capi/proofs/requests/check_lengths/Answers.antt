-- `capi::requests::check_lengths` meets its contract. Assumes nothing.
use mathlib.Core.Path.{refl}
use native.Mathlib.Omega.{arith}
use Rattle.capi.proofs.CallLaws.{figures_other, lent_lengths_pass}
use Rattle.state.proofs.AnswerLaws.{refused_on}
use Rattle.state.proofs.RefusalLaws.{fitted_by}
use Rattle.state.specs.Outcome.{state_lengths}
use Rattle.capi.proofs.requests.check_lengths.Goals as goal

pub returns-in_err-check_state : goal.returns-in_err-check_state
returns-in_err-check_state c =
    let s = c.args in
    refused_on (state_lengths s.n s.links s.marks) _ c.from_residual.result c.in_err-check_state.field-0.0 c.from_residual.ensures.1 c.in_err-check_state.ensures

pub overflow_mul-nodes : goal.overflow_mul-nodes
overflow_mul-nodes c = let f = fitted_by c.in_ok-check_state.ensures refl in omega (arith, f.sizes.few)

pub returns-then-figures-nodes : goal.returns-then-figures-nodes
returns-then-figures-nodes c =
    let s = c.args in figures_other s.n s.links s.figures s.marks c.in_ok-check_state.ensures c.if-figures-nodes.true

pub returns : goal.returns
returns c = let s = c.args in lent_lengths_pass s.n s.links s.figures s.marks c.in_ok-check_state.ensures c.if-figures-nodes.false
