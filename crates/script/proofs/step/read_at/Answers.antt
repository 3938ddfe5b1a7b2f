-- `script::step::read_at` meets its contract. Assumes nothing.
use native.Mathlib.Omega.{arith}
use Rattle.script.proofs.ReadingLaws.{answered, past_fits, step_made}
use Rattle.script.proofs.step.read_at.Goals as goal

pub past-next-requires : goal.past-next-requires
past-next-requires c = rw c.item_at-item.ensures (past_fits c.args.script.now c.args.at (omega arith))

pub returns : goal.returns
returns c =
    let a = answered c.args.script.now c.args.at (step_made _ _ c.item_at-item.ensures c.past-next.ensures) in
    record { value = a.0; numbers = a.1 }
