-- `schedule::change::Table::changed_by` meets its contract. Assumes nothing.
use Rattle.std.proofs.Common.{arith, ◌∙◌}
use Rattle.schedule.proofs.PlaceLaws.{linked_at, outside_changes, place_none, place_some, unlinked_at}
use Rattle.schedule.proofs.change.Table.changed_by.Goals as goal

pub returns-in_err-k : goal.returns-in_err-k
returns-in_err-k c = c.from_residual.ensures ∙ outside_changes _ _ _ (place_none _ _ c.place.ensures c.in_err-k.was)

pub returns-then-minute-last : goal.returns-then-minute-last
returns-then-minute-last c = let at = place_some _ _ c.place.ensures c.in_ok-k.was in linked_at _ _ _ at.0 at.1 c.if-minute-last.true

pub returns-else-minute-last : goal.returns-else-minute-last
returns-else-minute-last c = let at = place_some _ _ c.place.ensures c.in_ok-k.was in unlinked_at _ _ _ at.0 at.1 c.if-minute-last.false

-- the place is within the table
pub offset_bounds-self-k : goal.offset_bounds-self-k
offset_bounds-self-k c = omega (arith, (place_some _ _ c.place.ensures c.in_ok-k.was).1)

pub bounds-self-k : goal.bounds-self-k
bounds-self-k c = omega (arith, (place_some _ _ c.place.ensures c.in_ok-k.was).1)
