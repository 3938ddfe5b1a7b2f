-- `state::refusal::one_number` meets its contract. Assumes nothing.
use Rattle.std.proofs.Common.{refl, arith}
use Rattle.state.proofs.AnswerLaws.{number_some}
use Rattle.state.proofs.RefusalLaws.{number_accepted, number_refused}
use Rattle.state.proofs.refusal.one_number.Goals as goal

pub returns-in-Ok : goal.returns-in-Ok
returns-in-Ok c = rw c.in-Ok.is (number_accepted 0 _ refl)

pub returns-in-Err : goal.returns-in-Err
returns-in-Err c =
    let some = number_some c.in-Err.refusal in
    rw (c.in-Err.is, ← number_refused _ 0 some) (omega (arith, some, c.from.ensures))
