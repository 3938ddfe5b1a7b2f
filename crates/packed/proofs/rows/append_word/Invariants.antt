-- What the loop of `packed::rows::append_word` keeps: the nodes before the word's top digit are written.
use Prim.Native.Nat.{ℕ}
use Rattle.packed.proofs.SetLaws.{WrittenUpTo}
use Rattle.packed.specs.Inside.Rows.{in_word}
use Rattle.packed.proofs.rows.append_word.Given as goal

abbrev pub invariant-loop-left : goal.invariant-loop-left
invariant-loop-left l = (q : ℕ) × WrittenUpTo (in_word l.word l.first) l.first l.initial.nodes l.nodes l.count l.left l.at q

abbrev pub decreases-loop-left : goal.decreases-loop-left
decreases-loop-left l = l.left
