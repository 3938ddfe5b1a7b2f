-- `merge::brought::Changes::pairs` meets its contract. Assumes nothing.
use Rattle.merge.proofs.WalkLaws.{place_first}
use Rattle.merge.proofs.brought.Changes.pairs.Goals as goal

pub invariant_of-result : goal.invariant_of-result
invariant_of-result c = record { walks = (place_first _, c.requires.0, c.requires.1) }
