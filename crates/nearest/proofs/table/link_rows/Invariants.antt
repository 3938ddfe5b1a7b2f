-- The rows are those of the first b nodes.
use Rattle.packed.specs.Edges.{edge}
use Rattle.nearest.specs.Inside.Strips.{Rows}
use Rattle.nearest.proofs.table.link_rows.Given as goal

abbrev pub invariant-loop-b : goal.invariant-loop-b
invariant-loop-b l = Rows (edge l.edges) l.b l.rows
