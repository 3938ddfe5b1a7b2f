-- The loop of `state::figures::set_bounds`. After p turns the first p figures are bounds.
use Rattle.arith.proofs.Sums.{Filling}
use Rattle.ego.specs.Bound.{bound}
use Rattle.packed.specs.Edges.{edge}
use Rattle.state.proofs.figures.set_bounds.Given as goal

abbrev pub invariant-loop-p : goal.invariant-loop-p
invariant-loop-p l = Filling (bound (edge l.edges) l.n) l.initial.figures l.n l.figures l.p
