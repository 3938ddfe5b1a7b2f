-- `nearest::table::link_rows` meets its contract. Assumes nothing.
use Rattle.std.proofs.Common.{arith}
use Rattle.packed.proofs.PairLaws.{room_mono}
use Rattle.nearest.proofs.TableLaws.{rows_none}
use Rattle.nearest.proofs.table.link_rows.Goals as goal

pub loop-b-init : goal.loop-b-init
loop-b-init c = rows_none _ c.requires.1

pub link_row-requires : goal.link_row-requires
link_row-requires c = (room_mono (omega arith) c.requires.0, c.loop-b.invariant)
