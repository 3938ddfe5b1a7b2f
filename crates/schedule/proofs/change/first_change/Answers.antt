-- `schedule::change::first_change` meets its contract. The pairs numbered before `start` are done. Assumes nothing.
use Rattle.std.proofs.Common.{ap, arith, ◌≡◌, ◌∙◌}
use Rattle.packed.specs.Pairs.{pair_count}
use Rattle.schedule.proofs.ChangeLaws.{change_found}
use Rattle.schedule.proofs.DifferLaws.{first_join, first_none}
use Rattle.schedule.proofs.NumberLaws.{first_all}
use Rattle.schedule.specs.Change.{first_differing}
use Rattle.schedule.proofs.change.first_change.Goals as goal
use Rattle.schedule.proofs.change.first_change.Goals.{else-loop-start-test, then-loop-start-test+else-start-end-start-gt8192}

pub loop-start-init : goal.loop-start-init
loop-start-init c = first_none _ c.args.minute (omega arith)

pub loop-start-preserved : goal.loop-start-preserved
loop-start-preserved c = first_join _ _ _ c.loop-start.invariant c.change-limit.ensures

pub returns : goal.returns
returns c =
    let pairs = c.row_start-start-end.ensures ∙ ap pair_count c.nodes.ensures in
    let all = first_all _ c.requires.each c.args.minute in
    let first : c.loop-start-test.limit ≡ first_differing c.args.schedule.now c.args.minute = elim c.loop-start-test.branch [
      | else-loop-start-test w ↦ w.limit-is ∙ all _ _ (omega (arith, w.loop-start-test.false, pairs)) c.loop-start.invariant
      | then-loop-start-test+else-start-end-start-gt8192 w ↦ w.limit-is ∙ all _ _ (omega (arith, pairs)) (first_join _ _ _ c.loop-start.invariant w.change-limit.ensures)
    ] in
    change_found _ _ _ first c.try_from.ensures c.ok.ensures.value
