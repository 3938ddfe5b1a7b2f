-- `packed::degrees::moved` meets its contract. Assumes nothing.
use Rattle.packed.specs.Inside.Degrees.{moved}
use Rattle.packed.proofs.degrees.moved.Goals as goal

pub returns-then-on : goal.returns-then-on
unfolding moved
returns-then-on c = rw c.if-on.true

pub returns-else-on : goal.returns-else-on
unfolding moved
returns-else-on c = rw c.if-on.false
