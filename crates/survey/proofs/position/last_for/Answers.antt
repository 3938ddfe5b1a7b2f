-- `survey::position::last_for` meets its contract. The records before i are walked. Assumes nothing.
use Rattle.survey.proofs.RecordLaws.{walked_left, walked_none, walked_taken}
use Rattle.survey.proofs.position.last_for.Goals as goal
use Rattle.survey.proofs.position.last_for.Goals.{then-is_latest, else-is_latest}

pub loop-i-init : goal.loop-i-init
loop-i-init c = walked_none _ _

pub loop-i-preserved : goal.loop-i-preserved
loop-i-preserved c =
    let w = c.loop-i.invariant in
    let is = c.measurement_at-r.ensures in
    elim c.if-is_latest.branch [
      | then-is_latest t ↦ walked_taken _ _ _ c.loop-i.i w is c.is_latest.ensures t.if-is_latest.true t.last-is t.highest-is
      | else-is_latest t ↦ walked_left _ _ _ c.loop-i.i w is c.is_latest.ensures t.if-is_latest.false t.last-is t.highest-is
    ]
