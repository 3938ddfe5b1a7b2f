-- `merge::taken::take_theirs` meets its contract. Assumes nothing.
use Rattle.std.proofs.Common.{false, refl, true, ◌∙◌}
use Rattle.state.specs.State.{state}
use Rattle.merge.proofs.MergeLaws.{steps_reconcile}
use Rattle.merge.proofs.Way.{fits, ready, way_start_stepped}
use Rattle.merge.proofs.taken.take_theirs.Goals as goal

pub take_all-requires : goal.take_all-requires
take_all-requires c =
    ready (state c.args.edges.now c.args.figures.now c.args.marks.now) c.args.changes.theirs.now c.args.changes.base.now c.requires false refl

pub take_all-requires-2 : goal.take_all-requires-2
take_all-requires-2 c =
    let s = state c.args.edges.now c.args.figures.now c.args.marks.now in
    let theirs = c.args.changes.theirs.now in
    let base = c.args.changes.base.now in
    ready s theirs base c.requires true (c.take_all.ensures ∙ way_start_stepped s theirs base (fits s theirs base c.requires))

pub returns : goal.returns
returns c =
    let s = state c.args.edges.now c.args.figures.now c.args.marks.now in
    let theirs = c.args.changes.theirs.now in
    let base = c.args.changes.base.now in
    steps_reconcile s theirs base (fits s theirs base c.requires) c.take_all.ensures c.take_all.auto.figures c.take_all-2.ensures
