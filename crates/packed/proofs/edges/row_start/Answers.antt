-- `packed::edges::row_start` meets its contract: no square of a node's number wraps. Assumes nothing.
use Rattle.packed.proofs.RowLaws.{start_is}
use Rattle.packed.proofs.edges.row_start.Goals as goal

pub returns : goal.returns
returns c = start_is c.args.p
