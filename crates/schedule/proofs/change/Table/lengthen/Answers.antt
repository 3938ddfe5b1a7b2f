-- `schedule::change::Table::lengthen` meets its contract. Assumes nothing.
use Rattle.std.proofs.Common.{arith, refl}
use Rattle.schedule.proofs.PlaceLaws.{early_still, late_still, open_moves, outside_still, place_none, place_some}
use Rattle.schedule.proofs.change.Table.lengthen.Goals as goal
use Rattle.schedule.proofs.change.Table.lengthen.Goals.{then-last-r-via-then-last-r, then-last-r-via-else-last-r+then-r-last}

pub returns-in_default : goal.returns-in_default
returns-in_default c =
    let still = outside_still _ c.args.self.now.until _ (place_none _ _ c.place.ensures c.in_default.is) in
    record { moves = still.0; lasts = still.1; same = refl }

pub returns-then-last-r : goal.returns-then-last-r
returns-then-last-r c =
    let at = place_some _ _ c.place.ensures c.in-Some.is in
    elim c.then-last-r.branch [
      | then-last-r-via-then-last-r w ↦
          let still = early_still _ _ _ at.0 at.1 w.if-last-r.true in
          record { moves = still.0; lasts = still.1; same = refl }
      | then-last-r-via-else-last-r+then-r-last w ↦
          let still = late_still _ _ _ at.0 at.1 w.if-r-last.true in
          record { moves = still.0; lasts = still.1; same = refl }
    ]

pub returns : goal.returns
returns c =
    let at = place_some _ _ c.place.ensures c.in-Some.is in
    let longer = open_moves _ _ _ at.0 at.1 c.if-last-r.false c.if-r-last.false in
    record { moves = longer.0; lasts = longer.1; same = refl }

-- the place is within the table
pub offset_bounds-self-k : goal.offset_bounds-self-k
offset_bounds-self-k c = omega (arith, (place_some _ _ c.place.ensures c.in-Some.is).1)

pub bounds-self-k : goal.bounds-self-k
bounds-self-k c = omega (arith, (place_some _ _ c.place.ensures c.in-Some.is).1)

pub offset_bounds-self-k-2 : goal.offset_bounds-self-k-2
offset_bounds-self-k-2 c = omega (arith, (place_some _ _ c.place.ensures c.in-Some.is).1)

pub bounds-self-k-2 : goal.bounds-self-k-2
bounds-self-k-2 c = omega (arith, (place_some _ _ c.place.ensures c.in-Some.is).1)
