-- `packed::bits::same_words` meets its contract: the words before m are the same. Assumes nothing.
use Rattle.packed.proofs.FirstLaws.{passed_found, passed_next, word_is_other, word_is_same}
use Rattle.packed.proofs.bits.same_words.Goals as goal

pub returns-then-whole_at : goal.returns-then-whole_at
returns-then-whole_at c =
    passed_found c.loop-m.invariant c.loop-m-test.true
    (word_is_other _ _ _ _ c.whole_at.ensures c.whole_at-in-loop-m.ensures c.if-whole_at.true)

pub loop-m-preserved : goal.loop-m-preserved
loop-m-preserved c =
    passed_next c.loop-m.invariant c.loop-m-test.true
    (word_is_same _ _ _ _ c.whole_at.ensures c.whole_at-in-loop-m.ensures c.if-whole_at.false)
