-- `edits::edit::edit_step` meets its contract. Assumes nothing.
use mathlib.Core.Path.{refl}
use borrow.Author.Rules.{rules}
use Rattle.edits.proofs.ApplyLaws.{apply_ready, changed_by_lem, renew_ready, step_near, step_ready}
use Rattle.edits.proofs.edit.edit_step.Goals as goal

pub touched_of-touching-requires : goal.touched_of-touching-requires
touched_of-touching-requires c = step_near c.requires c.neighbours_of.ensures

pub apply-requires : goal.apply-requires
apply-requires c = apply_ready (step_ready c.requires c.neighbours_of.ensures c.touched_of-touching.ensures) c.requires.marked

pub renew-requires : goal.renew-requires
renew-requires c = renew_ready (step_ready c.requires c.neighbours_of.ensures c.touched_of-touching.ensures) c.apply.ensures.value

pub returns : goal.returns
returns c =
    let made = c.apply.ensures in
    changed_by_lem c.args.marks.now (λ k. search rules) made.value made.edges_after made.marks_after c.requires.marked
    (step_ready c.requires c.neighbours_of.ensures c.touched_of-touching.ensures) _ refl c.renew.ensures
