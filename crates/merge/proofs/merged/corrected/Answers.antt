-- `merge::merged::corrected` meets its contract. Assumes nothing.
use Rattle.merge.proofs.AfterLaws.{corrected_all, corrected_first, corrected_next, correctable}
use Rattle.merge.proofs.WalkLaws.{ended, next_of, place_of, walks_next}
use Rattle.merge.proofs.merged.corrected.Goals as goal

pub loop-pair-init : goal.loop-pair-init
loop-pair-init c =
    let walk = c.pairs-pair-items.ensures in
    rw c.into_iter-pair-iterator.ensures.into_iter_gives (
      walk.0,
      rw (walk.1, walk.2)
          (corrected_first c.args.edges.now c.args.changes.theirs.now c.args.changes.base.now c.args.n c.requires.0 c.requires.3),
    )

pub correct-requires : goal.correct-requires
correct-requires c =
    let inv = c.loop-pair.invariant in
    correctable c.args.edges.now c.args.changes.theirs.now c.args.changes.base.now c.args.n c.requires.0
    (place_of inv.0) inv.1 (next_of inv.0 c.in-Some.ensures.steps) c.requires.1 c.requires.2

pub loop-pair-preserved : goal.loop-pair-preserved
loop-pair-preserved c =
    let inv = c.loop-pair.invariant in
    let gave = c.in-Some.ensures.steps in (
      walks_next inv.0 gave,
      rw (gave.at.0, gave.at.1)
          (corrected_next c.args.edges.now c.args.changes.theirs.now c.args.changes.base.now c.args.n c.requires.0
          (place_of inv.0) inv.1 (next_of inv.0 gave) c.correct.ensures),
    )

pub returns : goal.returns
returns c =
    let inv = c.loop-pair.invariant in
    corrected_all c.args.edges.now c.args.changes.theirs.now c.args.changes.base.now c.args.n c.requires.0
    (place_of inv.0) inv.1 (ended inv.0 c.in-None.ensures.steps)
