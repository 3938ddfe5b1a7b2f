-- Before strip k there is no node of the set.
use Rattle.std.proofs.Common.{◌*◌}
use Rattle.packed.proofs.FirstLaws.{Passed}
use Rattle.packed.specs.Inside.Runs.{max_run}
use Rattle.nearest.specs.Inside.Strips.{in_strips, places}
use Rattle.nearest.proofs.strips.first_of.Given as goal

abbrev pub invariant-loop-k : goal.invariant-loop-k
invariant-loop-k l = Passed (in_strips l.fn.set) 0 places (max_run * l.k)
