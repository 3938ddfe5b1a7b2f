-- `schedule::change::Scope::change` meets its contract. The pairs last as the table says. Assumes nothing.
use Rattle.std.proofs.Common.{ap, arith, refl, replicate, ℕ, ◌∙◌}
use Rattle.std.proofs.lemmas.List.{length-replicate}
use Rattle.packed.specs.Inside.Windows.{window}
use Rattle.schedule.proofs.ChangeLaws.{lasts_next, passes_fewer, rests_last}
use Rattle.schedule.proofs.DifferLaws.{change_first}
use Rattle.schedule.proofs.UntilLaws.{lasts_begin}
use Rattle.schedule.proofs.change.Scope.change.Goals as goal

pub loop-init : goal.loop-init
loop-init c =
    let filled = c.fill.ensures.after (λ y e. e) ∙ ap (λ k. replicate k c.args.self.minute) (length-replicate {A = ℕ} window 0) in
    (rw filled (lasts_begin _ _ (omega arith)), refl)

pub loop-smaller : goal.loop-smaller
loop-smaller c =
    let held = c.loop.invariant in
    passes_fewer _ _ _ held.0 (rw held.1 at c.pass.ensures.moves) (rw held.1 at c.pass.ensures.lasts) c.loop-test.true

pub loop-preserved : goal.loop-preserved
loop-preserved c =
    let held = c.loop.invariant in
    (lasts_next _ _ _ held.0 (rw held.1 at c.pass.ensures.moves) (rw held.1 at c.pass.ensures.lasts), c.pass.ensures.same ∙ held.1)

pub returns : goal.returns
returns c =
    let held = c.loop.invariant in
    let moves = rw held.1 at c.pass.ensures.moves in
    let passed = rw held.1 at c.pass.ensures.lasts in
    change_first c.requires.0 c.requires.1 (lasts_next _ _ _ held.0 moves passed) (rests_last _ _ _ held.0 moves passed c.loop-test.false)
    (rw (c.pass.ensures.same ∙ held.1) at c.first.ensures)
