-- `merge::brought::Brought::conflicts_at` meets its contract. Assumes nothing.
use Rattle.merge.specs.Lent.{lent}
use Rattle.merge.proofs.ConflictLaws.{word_has_conflicts}
use Rattle.merge.proofs.brought.Brought.conflicts_at.Goals as goal

pub returns : goal.returns
returns c =
    word_has_conflicts _ (lent c.args.self) _ c.word_at-mine.ensures c.word_at.ensures c.word_at-other.ensures c.word_at-2.ensures
    c.word_at-original.ensures
