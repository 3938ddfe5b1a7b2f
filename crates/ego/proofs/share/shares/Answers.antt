-- `ego::share::shares` meets its contract: the checker computes the table. Assumes nothing.
use mathlib.Core.Path.{refl}
use Prim.Native.Nat.{◌+◌, ◌-◌, ◌/◌}
use Rattle.arith.proofs.Sums.{table_by}
use Rattle.ego.specs.Limits.{limit, unit}
use Rattle.ego.specs.Inside.Words.{share_table}
use Rattle.ego.proofs.share.shares.Goals as goal

pub returns : goal.returns
unfolding share_table
returns c = table_by (λ k. unit / (k + 1)) (limit - 1) _ refl refl
