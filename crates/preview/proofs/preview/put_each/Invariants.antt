-- The changes of the nodes of so many turns are written.
use Rattle.std.proofs.Common.{true, ◌≡◌}
use Rattle.packed.specs.Edges.{edge, with_edge}
use Rattle.preview.specs.Inside.Effect.{change_each}
use Rattle.preview.proofs.preview.put_each.Given as goal

abbrev pub invariant-loop-node : goal.invariant-loop-node
invariant-loop-node l = l.changes ≡ change_each (edge (with_edge l.edges l.a l.b true)) l.n l.a l.b l.on l.touching.nodes l.initial.changes l.node-index
