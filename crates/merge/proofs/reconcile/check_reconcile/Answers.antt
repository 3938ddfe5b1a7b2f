-- `merge::reconcile::check_reconcile` meets its contract. Assumes nothing.
use Rattle.std.proofs.Common.{refl, sym, [], ◌∷◌, ◌∙◌}
use Rattle.state.proofs.AnswerLaws.{refused_on}
use Rattle.merge.proofs.LengthLaws.{long_room, before_rest, two_fit, two_rest}
use Rattle.merge.proofs.reconcile.check_reconcile.Goals as goal

pub returns-in_err-check_two : goal.returns-in_err-check_two
returns-in_err-check_two c = refused_on _ _ _ _ c.from_residual.ensures.1 c.in_err-check_two.ensures

pub returns-in_err-degrees : goal.returns-in_err-degrees
returns-in_err-degrees c =
    refused_on (_ ∷ []) _ _ _ c.from_residual-in_err-degrees.ensures.1 c.in_err-degrees.ensures.refused
    ∙ sym (two_rest _ _ _ c.in_ok-check_two.ensures refl _)

pub check_after-requires : goal.check_after-requires
check_after-requires c =
    let long = two_fit _ _ _ c.in_ok-check_two.ensures refl in
    (c.requires, long_room _ c.requires.few long.0, long_room _ c.requires.few long.1, c.in_ok-degrees.ensures.degrees)

pub returns : goal.returns
returns c =
    c.check_after.ensures
    ∙ sym (two_rest _ _ _ c.in_ok-check_two.ensures refl _ ∙ before_rest _ _ _ c.in_ok-degrees.ensures.refused)
