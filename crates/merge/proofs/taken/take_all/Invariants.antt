-- The invariant of `take_all`'s loop: the pairs before the walk's place are done.
use Rattle.std.proofs.Common.{length}
use Rattle.state.specs.State.{state}
use Rattle.merge.proofs.StepLaws.{StepsTaken}
use Rattle.merge.specs.Inside.Pairs.{WalksOn}
use Rattle.merge.proofs.taken.take_all.Given as goal

abbrev pub invariant-loop-pair : goal.invariant-loop-pair
invariant-loop-pair l =
    WalksOn l.changes (length l.initial.figures) l.pair-iterator
    × StepsTaken l.on l.changes.theirs.now l.changes.base.now (state l.initial.edges l.initial.figures l.initial.marks)
    (state l.edges l.figures l.marks) l.pair-iterator.a l.pair-iterator.b
