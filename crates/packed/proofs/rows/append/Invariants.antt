-- What the loop of `packed::rows::append` keeps: the nodes of the words before k are written.
use Rattle.packed.proofs.SetLaws.{Appended}
use Rattle.packed.proofs.rows.append.Given as goal

abbrev pub invariant-loop-k : goal.invariant-loop-k
invariant-loop-k l = Appended l.fn.row l.initial.nodes l.nodes l.count l.at l.k
