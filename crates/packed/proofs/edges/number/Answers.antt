-- `packed::edges::number` meets its contract. Assumes nothing.
use mathlib.Core.Path.{ap₂, ◌∙◌}
use Prim.Native.Nat.{◌+◌}
use native.Mathlib.Omega.{arith}
use Rattle.packed.proofs.PairLaws.{pair_less}
use Rattle.packed.specs.Pairs.{pair_count, pair_index}
use Rattle.packed.proofs.edges.number.Goals as goal

pub returns : goal.returns
unfolding pair_index
returns c = c.index.ensures ∙ pair_less c.min.result c.max.result (omega arith) ∙ ap₂ (λ high low. pair_count high + low) c.max.ensures c.min.ensures
