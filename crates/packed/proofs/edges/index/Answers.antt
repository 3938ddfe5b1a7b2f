-- `packed::edges::index` meets its contract. Assumes nothing.
use native.Mathlib.Nat.{le_of_lt}
use native.Mathlib.Omega.{arith}
use Rattle.packed.proofs.PairLaws.{pair_less}
use Rattle.packed.proofs.RowLaws.{pairs_few}
use Rattle.packed.proofs.edges.index.Goals as goal

pub overflow_add-result : goal.overflow_add-result
overflow_add-result c = omega (arith, c.row_start.ensures, pairs_few (le_of_lt c.requires.1))

pub returns : goal.returns
returns c = omega (arith, c.row_start.ensures, pair_less c.args.a c.args.b c.requires.0)
