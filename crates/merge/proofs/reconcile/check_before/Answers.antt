-- `merge::reconcile::check_before` meets its contract. Assumes nothing.
use Rattle.std.proofs.Common.{sym, [], ◌∙◌}
use Rattle.state.proofs.DegreeLaws.{over_by}
use Rattle.state.proofs.RefusalLaws.{passed_before, refusal_none, refused_before}
use Rattle.merge.proofs.reconcile.check_before.Goals as goal

pub returns-then-any_among-clause-refused : goal.returns-then-any_among-clause-refused
returns-then-any_among-clause-refused c =
    let over = over_by c.args.edges.now c.args.n c.requires.few c.degrees_of-degrees.ensures c.any_among.ensures in
    sym (refused_before [] _ _ _ (sym over ∙ c.if-any_among.true))

pub returns-clause-refused : goal.returns-clause-refused
returns-clause-refused c =
    let over = over_by c.args.edges.now c.args.n c.requires.few c.degrees_of-degrees.ensures c.any_among.ensures in
    sym (passed_before [] _ _ _ (sym over ∙ c.if-any_among.false) ∙ refusal_none)
