-- What the loop of `packed::rows::include` keeps: the words before k have both sets' nodes, and the others are as they were.
use lib.Bits.{bit_or}
use lib.ListN.{get_or, length}
use Rattle.arith.proofs.Sums.{Filling}
use Rattle.packed.proofs.rows.include.Given as goal

abbrev pub invariant-loop-k : goal.invariant-loop-k
invariant-loop-k l = Filling (λ j. bit_or (get_or l.fn.set j 0) (get_or l.row j 0)) l.fn.set (length l.fn.set) l.set l.k
