-- `preview::effect::Effect::change_by` meets its contract: the change fits, and so does its negation. Assumes nothing.
use mir.Syntax.{w64}
use mir.Facts.{to_z_pos, to_z-of_z}
use Rattle.preview.proofs.ChangeLaws.{minus_back, minus_fits}
use Rattle.preview.specs.Inside.Effect.{change_by}
use Rattle.preview.proofs.effect.Effect.change_by.Goals as goal

pub returns-then-on : goal.returns-then-on
unfolding change_by
returns-then-on c = rw (to_z_pos w64 c.requires.0, to_z_pos w64 c.requires.1, c.if-on.true) (to_z-of_z (minus_fits _ _ c.requires.0 c.requires.1))

pub returns-else-on : goal.returns-else-on
unfolding change_by
returns-else-on c =
    rw (to_z_pos w64 c.requires.0, to_z_pos w64 c.requires.1, c.if-on.false, to_z-of_z (minus_fits _ _ c.requires.0 c.requires.1), minus_back c.args.self.now.brings c.args.self.now.costs)
    (to_z-of_z (minus_fits _ _ c.requires.1 c.requires.0))
