-- What the loop of `packed::rows::row_below` keeps: the words before k are made, and the others are 0.
use lib.ListN.{replicate, take}
use Rattle.arith.proofs.Sums.{Filling}
use Rattle.packed.proofs.SetLaws.{word_of_row}
use Rattle.packed.specs.Inside.Rows.{row_words, words_for}
use Rattle.packed.proofs.rows.row_below.Given as goal

abbrev pub invariant-loop-k : goal.invariant-loop-k
invariant-loop-k l = Filling (word_of_row l.edges l.p l.p) (take (words_for l.p) (replicate row_words 0)) (words_for l.p) l.word-items l.k
