-- `merge::reconcile::check_after` meets its contract. Assumes nothing.
use Rattle.std.proofs.Common.{sym, [], ◌∙◌}
use Rattle.state.proofs.RefusalLaws.{passed_after, refusal_none, refused_after}
use Rattle.merge.proofs.AfterLaws.{over_after}
use Rattle.merge.proofs.reconcile.check_after.Goals as goal

pub returns-then-any_among : goal.returns-then-any_among
returns-then-any_among c =
    let over = over_after c.args.edges.now c.args.changes.theirs.now c.args.changes.base.now c.args.n c.requires.0 c.corrected-after.ensures c.any_among.ensures in
    sym (refused_after [] _ _ _ (sym over ∙ c.if-any_among.true))

pub returns : goal.returns
returns c =
    let over = over_after c.args.edges.now c.args.changes.theirs.now c.args.changes.base.now c.args.n c.requires.0 c.corrected-after.ensures c.any_among.ensures in
    sym (passed_after [] _ _ _ (sym over ∙ c.if-any_among.false) ∙ refusal_none)
