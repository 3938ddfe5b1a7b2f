-- The invariant of `corrected`'s loop: the degrees are those of the edges with the pairs before the walk's place settled.
use Rattle.std.proofs.Common.{◌≡◌}
use Rattle.merge.proofs.AfterLaws.{degrees_on_way}
use Rattle.merge.specs.Inside.Pairs.{WalksOn}
use Rattle.merge.proofs.merged.corrected.Given as goal

abbrev pub invariant-loop-pair : goal.invariant-loop-pair
invariant-loop-pair l =
    WalksOn l.changes l.n l.pair-iterator
    × (l.degrees ≡ degrees_on_way l.edges l.changes.theirs.now l.changes.base.now l.n l.pair-iterator.a l.pair-iterator.b)
