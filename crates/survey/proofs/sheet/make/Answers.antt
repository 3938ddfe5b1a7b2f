-- `survey::sheet::make` meets its contract. Assumes nothing.
use Rattle.std.proofs.Common.{ap, ◌-◌, ◌∙◌, ◌∷◌}
use Rattle.calls.proofs.MadeLaws.{headed_put, headed_rest}
use Rattle.survey.proofs.sheet.make.Goals as goal

pub link_all-requires : goal.link_all-requires
link_all-requires c = (c.requires.0, headed_rest (c.args.n - 1) c.requires.2)

pub returns : goal.returns
returns c = headed_put (c.args.n - 1) c.requires.2 ∙ ap (λ xs. (c.args.n - 1) ∷ xs) c.link_all.ensures
