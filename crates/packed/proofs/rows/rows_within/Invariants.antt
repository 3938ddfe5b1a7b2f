-- What the loop of `packed::rows::rows_within` keeps: the rows of the nodes before q are made, and the others are 0.
use lib.ListN.{replicate, take}
use Rattle.arith.proofs.Sums.{Filling}
use Rattle.packed.specs.Pairs.{max_nodes}
use Rattle.packed.specs.Inside.Rows.{row_within, row_words}
use Rattle.packed.proofs.rows.rows_within.Given as goal

abbrev pub invariant-loop-q : goal.invariant-loop-q
invariant-loop-q l = Filling (row_within l.edges l.set) (take l.n (replicate max_nodes (replicate row_words 0))) l.n l.row-items l.q
