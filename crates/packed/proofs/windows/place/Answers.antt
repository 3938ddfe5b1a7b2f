-- `packed::windows::place` meets its contract. Assumes nothing.
use Rattle.std.proofs.Common.{arith}
use Rattle.std.proofs.lemmas.Grind.{common_steps}
use Rattle.packed.specs.Inside.Windows.{placed}
use Rattle.packed.proofs.windows.place.Goals as goal

pub returns : goal.returns
unfolding placed
returns c = grind (arith, common_steps)
