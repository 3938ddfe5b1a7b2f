-- What the loop of `packed::rows::both` keeps: the words before k are made, and the others are those of x.
use lib.Bits.{bit_and}
use lib.ListN.{get_or}
use Rattle.arith.proofs.Sums.{Filling}
use Rattle.packed.specs.Inside.Rows.{row_words}
use Rattle.packed.proofs.rows.both.Given as goal

abbrev pub invariant-loop-k : goal.invariant-loop-k
invariant-loop-k l = Filling (λ j. bit_and (get_or l.fn.x j 0) (get_or l.y j 0)) l.fn.x row_words l.word-items l.k
