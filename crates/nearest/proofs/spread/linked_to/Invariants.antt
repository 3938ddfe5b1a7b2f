-- After k turns the rows of the nodes of the first k strips are put in.
use Rattle.nearest.proofs.SpreadLaws.{Linked}
use Rattle.nearest.proofs.spread.linked_to.Given as goal

abbrev pub invariant-loop-k : goal.invariant-loop-k
invariant-loop-k l = Linked l.rows l.fn.set l.linked l.k
