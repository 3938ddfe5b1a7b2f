-- What the loop of `packed::degrees::count_row` keeps: the nodes before `at` are counted.
use mathlib.Core.Path.{◌≡◌}
use Prim.Native.Nat.{◌*◌, ◌-◌, ◌≤◌}
use lib.ListN.{length}
use Rattle.arith.specs.Sums.{count_to}
use Rattle.packed.specs.Edges.{edge}
use Rattle.packed.specs.Inside.Degrees.{degrees_to}
use Rattle.packed.specs.Inside.Runs.{max_run}
use Rattle.packed.proofs.degrees.count_row.Given as goal

abbrev pub invariant-loop-at : goal.invariant-loop-at
invariant-loop-at l =
    (max_run * l.k ≤ l.at) × (l.at ≤ l.b) × (l.counts ≡ degrees_to l.edges (max_run * l.k) (length l.initial.counts) l.b l.at)
    × (l.own ≡ count_to (edge l.edges l.b) l.at)

abbrev pub decreases-loop-at : goal.decreases-loop-at
decreases-loop-at l = l.b - l.at
