-- `merge::taken::take_all` meets its contract. Assumes nothing.
use Rattle.merge.proofs.StepLaws.{taken_all, taken_first, taken_next}
use Rattle.merge.proofs.WalkLaws.{ended, next_of, walks_next}
use Rattle.merge.proofs.taken.take_all.Goals as goal

pub loop-pair-init : goal.loop-pair-init
loop-pair-init c =
    let walk = c.pairs-pair-items.ensures in
    rw c.into_iter-pair-iterator.ensures.into_iter_gives (walk.0, rw (walk.1, walk.2) (taken_first _ _ _ _ c.requires))

pub loop-pair-preserved : goal.loop-pair-preserved
loop-pair-preserved c =
    let inv = c.loop-pair.invariant in
    let gave = c.in-Some.ensures.steps in (
      walks_next inv.0 gave,
      rw (gave.at.0, gave.at.1)
          (taken_next _ _ _ _ inv.1 (next_of inv.0 gave) c.take.auto.edges c.take.auto.figures c.take.auto.marks c.take.ensures),
    )

pub returns : goal.returns
returns c =
    let inv = c.loop-pair.invariant in
    taken_all _ _ _ _ inv.1 (ended inv.0 c.in-None.ensures.steps)
