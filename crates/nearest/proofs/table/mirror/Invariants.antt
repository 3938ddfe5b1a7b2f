-- What is left of the word are the nodes that the rows still lack.
use Rattle.nearest.proofs.MirrorLaws.{Mirrored}
use Rattle.nearest.proofs.table.mirror.Given as goal

abbrev pub invariant-loop-left : goal.invariant-loop-left
invariant-loop-left l = Mirrored l.initial.rows l.rows l.word l.k l.b l.left

abbrev pub decreases-loop-left : goal.decreases-loop-left
decreases-loop-left l = l.left
