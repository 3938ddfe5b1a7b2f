-- `packed::degrees::shift` meets its contract. Assumes nothing.
use Rattle.packed.specs.Inside.Degrees.{shifted}
use Rattle.packed.proofs.degrees.shift.Goals as goal

pub returns : goal.returns
unfolding shifted
returns c = cc
