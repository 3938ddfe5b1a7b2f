-- What the loop of `packed::degrees::count_run` keeps: what is left of the run are the nodes that are not counted yet.
use lib.ListN.{length}
use Rattle.packed.proofs.DegreeLaws.{Counts}
use Rattle.packed.proofs.degrees.count_run.Given as goal

abbrev pub invariant-loop-left : goal.invariant-loop-left
invariant-loop-left l = Counts l.edges l.counts l.first (length l.initial.counts) l.b l.at l.end l.own l.left

abbrev pub decreases-loop-left : goal.decreases-loop-left
decreases-loop-left l = l.left
