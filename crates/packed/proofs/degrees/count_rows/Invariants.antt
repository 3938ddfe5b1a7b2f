-- What the loop of `packed::degrees::count_rows` keeps: the counts are the degrees among the nodes before b.
use mathlib.Core.Path.{◌≡◌}
use Prim.Native.Nat.{◌*◌, ◌≤◌}
use lib.ListN.{length}
use Rattle.packed.specs.Inside.Degrees.{degrees_from}
use Rattle.packed.specs.Inside.Runs.{max_run}
use Rattle.packed.proofs.degrees.count_rows.Given as goal

abbrev pub invariant-loop-b : goal.invariant-loop-b
invariant-loop-b l = (max_run * l.k ≤ l.b) × (l.b ≤ l.end) × (l.counts ≡ degrees_from l.edges (max_run * l.k) (length l.initial.counts) l.b)
