-- `schedule::change::Scope::place` meets its contract. Assumes nothing.
use Rattle.std.proofs.Common.{ap, arith, ◌∙◌}
use Rattle.packed.specs.Inside.Windows.{placed}
use Rattle.schedule.proofs.PlaceLaws.{place_ended, place_late, place_looked}
use Rattle.schedule.proofs.change.Scope.place.Goals as goal
use Rattle.schedule.proofs.change.Scope.place.Goals.{then-r-self-via-then-r-self, then-r-self-via-else-r-self+then-self-from}

pub returns-then-r-self : goal.returns-then-r-self
returns-then-r-self c = elim c.then-r-self.branch [
  | then-r-self-via-then-r-self w ↦ place_ended _ _ w.if-r-self.true
  | then-r-self-via-else-r-self+then-self-from w ↦ place_late _ _ (omega arith)
]

pub returns : goal.returns
returns c = c.place.ensures ∙ ap (placed _) c.number.ensures ∙ place_looked _ _ c.if-r-self.false (omega arith)
