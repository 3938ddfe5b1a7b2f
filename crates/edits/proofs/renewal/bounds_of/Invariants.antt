-- `edits::renewal::bounds_of`: after i turns the bounds of the first i nodes are there.
use mathlib.Core.Path.{◌≡◌}
use Rattle.ego.specs.Bound.{bound}
use Rattle.packed.specs.Edges.{edge}
use Rattle.edits.specs.Inside.Touched.{of_each}
use Rattle.edits.proofs.renewal.bounds_of.Given as goal

abbrev pub invariant-loop-i : goal.invariant-loop-i
invariant-loop-i l = l.bounds ≡ of_each (bound (edge l.edges) l.n) l.touching.nodes l.i
