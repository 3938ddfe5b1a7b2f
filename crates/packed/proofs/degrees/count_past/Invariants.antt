-- What the loop of `packed::degrees::count_past` keeps: the counts are the degrees among the nodes before b.
use mathlib.Core.Path.{◌≡◌}
use Prim.Native.Nat.{◌+◌, min, ◌≤◌}
use Rattle.packed.specs.Inside.Degrees.{degrees_from}
use Rattle.packed.specs.Inside.Runs.{max_run}
use Rattle.packed.proofs.degrees.count_past.Given as goal

abbrev pub invariant-loop-b : goal.invariant-loop-b
invariant-loop-b l = (min l.n (l.first + max_run) ≤ l.b) × (l.b ≤ l.n) × (l.counts ≡ degrees_from l.edges l.first max_run l.b)
