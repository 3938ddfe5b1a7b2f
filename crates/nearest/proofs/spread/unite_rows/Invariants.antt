-- What is left of the word are the nodes whose rows are not put in yet.
use Rattle.nearest.proofs.SpreadLaws.{Taken}
use Rattle.nearest.proofs.spread.unite_rows.Given as goal

abbrev pub invariant-loop-left : goal.invariant-loop-left
invariant-loop-left l = Taken l.rows l.initial.set l.set l.word l.k l.left

abbrev pub decreases-loop-left : goal.decreases-loop-left
decreases-loop-left l = l.left
