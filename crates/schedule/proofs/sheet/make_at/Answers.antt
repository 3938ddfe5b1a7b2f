-- `schedule::sheet::make_at` meets its contract. Assumes nothing.
use Rattle.std.proofs.Common.{ap₂, arith, get_or, ◌-◌, ◌∙◌, ◌∷◌, ◌≡◌}
use Rattle.calls.proofs.MadeLaws.{headed_put, headed_rest}
use Rattle.schedule.specs.Schedule.{schedule_nodes}
use Rattle.schedule.proofs.sheet.make_at.Goals as goal

pub link_all-requires : goal.link_all-requires
link_all-requires c = (c.requires.0, headed_rest (get_or c.args.schedule.now 0 0) c.requires.1)

pub returns : goal.returns
returns c =
    let first = get_or c.args.schedule.now 0 0 in
    let is : first ≡ schedule_nodes c.args.schedule.now - 1 = omega arith in
    headed_put first c.requires.1 ∙ ap₂ (λ x xs. x ∷ xs) is c.link_all.ensures
