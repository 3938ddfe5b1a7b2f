-- `packed::rows::every_node` meets its contract: each word has all its bits. Assumes nothing.
use mathlib.Core.Path.{refl}
use Rattle.arith.specs.Sums.{sum_to, tabulate}
use Rattle.packed.specs.Inside.Rows.{set_of}
use Rattle.packed.proofs.rows.every_node.Goals as goal

pub returns : goal.returns
unfolding set_of tabulate sum_to
returns c = refl
