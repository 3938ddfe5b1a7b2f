-- `port::fj_port_conflict` meets its contract. Assumes nothing.
use Rattle.std.proofs.Common.{◌∙◌, ◌^◌, ap, refl, subst, sym}
use Rattle.port.proofs.PortLaws.{refused_alone}
use Rattle.port.specs.Port.{as_one_conflict, NamesTwo}
use Rattle.merge.proofs.FirstConflict.{names_two}
use Rattle.merge.specs.Conflict.{numbers_of}
use Rattle.state.specs.Refusal.{one_number}
use Rattle.port.proofs.fj_port_conflict.Goals as goal

pub index-requires : goal.index-requires
unfolding numbers_of
index-requires c =
    subst (λ x. NamesTwo (numbers_of x)) (sym (rw c.in-Ok-Some.field-0-is at c.in-Ok-Some.ensures)) (names_two _ _ _) refl

pub returns-in-Ok-Some : goal.returns-in-Ok-Some
unfolding numbers_of one_number
returns-in-Ok-Some c = c.index.ensures ∙ ap (λ x. as_one_conflict (numbers_of x)) (rw c.in-Ok-Some.field-0-is at c.in-Ok-Some.ensures)

pub returns-in-Ok-None : goal.returns-in-Ok-None
unfolding numbers_of one_number
returns-in-Ok-None c = ap (λ x. as_one_conflict (numbers_of x)) (rw c.in-Ok-None.field-0-is at c.in-Ok-None.ensures)

pub returns-in-Err : goal.returns-in-Err
unfolding numbers_of
returns-in-Err c = c.one_number.ensures ∙ refused_alone c.in-Err.refusal 0 (2 ^ 32) ∙ ap (λ x. as_one_conflict (numbers_of x)) c.in-Err.ensures
