-- `merge::taken::take` meets its contract. Assumes nothing.
use Rattle.std.proofs.Common.{sym, ◌∙◌}
use Rattle.packed.specs.Edges.{edge}
use Rattle.state.specs.State.{state}
use Rattle.merge.proofs.StepLaws.{beq_same, ready_rooms, ready_step, step_changes, step_stays, untaken}
use Rattle.merge.proofs.taken.take.Goals.{else-takes-via-then-takes+else-has-on, else-takes-via-else-takes}
use Rattle.merge.proofs.taken.take.Goals as goal

pub takes-requires : goal.takes-requires
takes-requires c = ready_rooms c.requires.2 _ _ c.requires.0 c.requires.1

pub has-requires : goal.has-requires
has-requires c = (ready_rooms c.requires.2 _ _ c.requires.0 c.requires.1).1

pub edit_step-requires : goal.edit_step-requires
edit_step-requires c =
    ready_step c.requires.2 _ _ c.requires.0 c.requires.1 (sym c.takes.ensures ∙ c.if-takes.true) (sym c.has.ensures ∙ beq_same _ _ c.if-has-on.true)

pub returns-then-has-on : goal.returns-then-has-on
returns-then-has-on c = step_changes _ _ (edge c.args.changes.base.now) _ _ (state c.args.edges.now c.args.figures.now c.args.marks.now) (sym c.takes.ensures ∙ c.if-takes.true) c.has.ensures c.if-has-on.true c.edit_step.ensures

pub returns-else-takes : goal.returns-else-takes
returns-else-takes c = elim c.else-takes.branch [
  | else-takes-via-then-takes+else-has-on w ↦ step_stays _ _ (edge c.args.changes.base.now) _ _ (state c.args.edges.now c.args.figures.now c.args.marks.now) (sym c.takes.ensures ∙ w.if-takes.true) w.has.ensures w.if-has-on.false
  | else-takes-via-else-takes w ↦ untaken _ _ _ _ _ _ (sym c.takes.ensures ∙ w.if-takes.false)
]
