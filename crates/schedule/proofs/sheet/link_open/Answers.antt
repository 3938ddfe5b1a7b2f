-- `schedule::sheet::link_open` meets its contract. Assumes nothing.
use Rattle.packed.proofs.PairLaws.{room_within}
use Rattle.schedule.proofs.OpenLaws.{open_by, shut_after, shut_before}
use Rattle.schedule.proofs.sheet.link_open.Goals as goal
use Rattle.schedule.proofs.sheet.link_open.Goals.{else-r-minute-via-then-r-minute+else-minute-r, else-r-minute-via-else-r-minute}

pub link-requires : goal.link-requires
link-requires c = let two = c.requires.0.nodes in room_within _ _ _ _ two.first two.second c.requires.1

pub returns-then-minute-r : goal.returns-then-minute-r
returns-then-minute-r c = rw (open_by c.args.r c.args.minute c.if-r-minute.true c.if-minute-r.true) c.link.ensures

pub returns-else-r-minute : goal.returns-else-r-minute
returns-else-r-minute c = elim c.else-r-minute.branch [
  | else-r-minute-via-then-r-minute+else-minute-r w ↦ rw (shut_after c.args.r c.args.minute w.if-minute-r.false)
  | else-r-minute-via-else-r-minute w ↦ rw (shut_before c.args.r c.args.minute w.if-r-minute.false)
]
