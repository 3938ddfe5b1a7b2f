-- `port::fj_port_nearest` meets its contract. Assumes nothing.
use Rattle.std.proofs.Common.{◌∙◌, ◌<◌, ◌^◌, ap, arith, refl, subst, sym}
use Rattle.packed.specs.Pairs.{max_nodes}
use Rattle.port.proofs.PortLaws.{refused_alone}
use Rattle.port.specs.Port.{as_one_nearest, NamesOne}
use Rattle.nearest.proofs.NearestListed.{names_one}
use Rattle.nearest.specs.Nearest.{numbers_of}
use Rattle.state.specs.Refusal.{one_number}
use Rattle.port.proofs.fj_port_nearest.Goals as goal

pub overflow_add-result : goal.overflow_add-result
unfolding numbers_of
overflow_add-result c =
    let node : c.in-Ok-Some.near.node < max_nodes =
    subst (λ x. NamesOne (numbers_of x)) (sym (rw c.in-Ok-Some.field-0-is at c.in-Ok-Some.ensures.0)) (names_one _ _ _ _ _) refl in
    omega arith

pub returns-in-Ok-Some : goal.returns-in-Ok-Some
unfolding numbers_of one_number
returns-in-Ok-Some c = ap as_one_nearest (rw c.in-Ok-Some.field-0-is at c.in-Ok-Some.ensures).1

pub returns-in-Ok-None : goal.returns-in-Ok-None
unfolding numbers_of one_number
returns-in-Ok-None c = ap as_one_nearest (rw c.in-Ok-None.field-0-is at c.in-Ok-None.ensures).1

pub returns-in-Err : goal.returns-in-Err
unfolding numbers_of
returns-in-Err c = c.one_number.ensures ∙ refused_alone c.in-Err.refusal 0 (2 ^ 32) ∙ ap as_one_nearest c.in-Err.ensures.1
