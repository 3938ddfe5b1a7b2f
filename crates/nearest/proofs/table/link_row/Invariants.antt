-- After k turns the links of b to the nodes of k strips are in.
use Rattle.packed.specs.Edges.{edge}
use Rattle.nearest.proofs.LinkLaws.{Linked}
use Rattle.nearest.proofs.table.link_row.Given as goal

abbrev pub invariant-loop-k : goal.invariant-loop-k
invariant-loop-k l = Linked (edge l.edges) l.b l.k l.rows
