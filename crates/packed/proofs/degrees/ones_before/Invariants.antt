-- What the loop of `packed::degrees::ones_before` keeps: after i turns the nodes of i strips are counted.
use mathlib.Core.Path.{◌≡◌}
use Prim.Native.Nat.{◌*◌}
use Rattle.arith.specs.Sums.{count_to}
use Rattle.packed.specs.Inside.Runs.{max_run}
use Rattle.packed.specs.Edges.{edge}
use Rattle.packed.proofs.degrees.ones_before.Given as goal

abbrev pub invariant-loop-i : goal.invariant-loop-i
invariant-loop-i l = l.own ≡ count_to (edge l.edges l.b) (max_run * l.i)
