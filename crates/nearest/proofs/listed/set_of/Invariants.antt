-- After so many turns the set has the listed nodes of these turns.
use Rattle.std.proofs.Common.{get_or, nat_eq}
use Rattle.arith.specs.Sums.{any_to}
use Rattle.nearest.specs.Inside.Strips.{SetOf}
use Rattle.nearest.proofs.listed.set_of.Given as goal

abbrev pub invariant-loop-q : goal.invariant-loop-q
invariant-loop-q l = SetOf l.set (λ q. any_to (λ j. nat_eq (get_or l.listed j 0) q) l.q-index)
