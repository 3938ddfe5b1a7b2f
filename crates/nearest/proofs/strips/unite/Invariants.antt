-- After k turns the first k words have the other set's nodes, and the others are as they were.
use Rattle.std.proofs.Common.{bit_or, get_or}
use Rattle.arith.proofs.Sums.{Filling}
use Rattle.nearest.specs.Inside.Strips.{strips}
use Rattle.nearest.proofs.strips.unite.Given as goal

abbrev pub invariant-loop-k : goal.invariant-loop-k
invariant-loop-k l = Filling (λ k'. bit_or (get_or l.initial.set k' 0) (get_or l.other k' 0)) l.initial.set strips l.set l.k
