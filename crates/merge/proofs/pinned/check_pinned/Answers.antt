-- `merge::pinned::check_pinned` meets its contract. Assumes nothing.
use Rattle.std.proofs.Common.{ap, sym, [], ◌∷◌, ◌∙◌}
use Rattle.ego.proofs.FoundLaws.{simple_edges}
use Rattle.state.proofs.AnswerLaws.{refused_on}
use Rattle.state.proofs.RefusalLaws.{passed_conflict, refused_conflict}
use Rattle.state.specs.Refusal.{refusal}
use Rattle.merge.proofs.LengthLaws.{before_rest, brought_fit, brought_rest, long_room, long_rooms}
use Rattle.merge.proofs.PinLaws.{same_12}
use Rattle.merge.specs.Lent.{lent}
use Rattle.merge.specs.Pinned.{brought_lengths}
use Rattle.merge.proofs.pinned.check_pinned.Goals as goal

pub returns-in_err-check_brought : goal.returns-in_err-check_brought
returns-in_err-check_brought c =
    refused_on (brought_lengths c.args.n (lent c.args.brought)) _ _ _ c.from_residual.ensures.1 c.in_err-check_brought.ensures

pub returns-in_err-degrees : goal.returns-in_err-degrees
returns-in_err-degrees c =
    refused_on (_ ∷ []) _ _ _ c.from_residual-in_err-degrees.ensures.1 c.in_err-degrees.ensures.refused
    ∙ sym (brought_rest _ (lent c.args.brought) _ (brought_fit _ _ c.in_ok-check_brought.ensures))

pub any_conflict-requires : goal.any_conflict-requires
any_conflict-requires c = (c.requires.few, long_rooms c.requires (brought_fit _ _ c.in_ok-check_brought.ensures))

pub returns-then-any_conflict : goal.returns-then-any_conflict
returns-then-any_conflict c =
    sym (brought_rest _ (lent c.args.brought) _ (brought_fit _ _ c.in_ok-check_brought.ensures)
    ∙ before_rest _ _ _ c.in_ok-degrees.ensures.refused ∙ refused_conflict _ _ _ (sym c.any_conflict.ensures ∙ c.if-any_conflict.true))

pub check_after-requires : goal.check_after-requires
check_after-requires c =
    let far = brought_fit _ (lent c.args.brought) c.in_ok-check_brought.ensures in
    let few = c.requires.few in
    rw (c.changes.ensures.0, c.changes.ensures.1)
    (c.requires, long_room _ few far.theirs, long_room _ few far.base, c.in_ok-degrees.ensures.degrees)

pub returns : goal.returns
returns c =
    let quiet = sym c.any_conflict.ensures ∙ c.if-any_conflict.false in
    (rw (c.changes.ensures.0, c.changes.ensures.1) at c.check_after.ensures)
    ∙ sym (brought_rest _ (lent c.args.brought) _ (brought_fit _ _ c.in_ok-check_brought.ensures)
    ∙ before_rest _ _ _ c.in_ok-degrees.ensures.refused ∙ passed_conflict _ _ _ quiet
    ∙ ap (λ x. refusal (x ∷ [])) (same_12 _ (lent c.args.brought) (simple_edges c.args.edges.now) _ quiet))
