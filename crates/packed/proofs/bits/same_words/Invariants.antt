-- `packed::bits::same_words` meets its contract: the words before m are the same. Assumes nothing.
use Rattle.packed.proofs.FirstLaws.{Passed}
use Rattle.packed.specs.Inside.Search.{other_word}
use Rattle.packed.proofs.bits.same_words.Given as goal

abbrev pub invariant-loop-m : goal.invariant-loop-m
invariant-loop-m l = Passed (other_word l.x l.y l.from) 0 l.count l.m
