-- `state::marks::set_stale` meets its contract. Assumes nothing.
use Rattle.std.proofs.Common.{rules}
use Rattle.state.proofs.MarkLaws.{stale_part, stale_whole}
use Rattle.state.proofs.marks.set_stale.Goals as goal

pub returns-then-n-ne0 : goal.returns-then-n-ne0
returns-then-n-ne0 c = stale_part _ c.requires (search rules) c.if-n-ne0.true

pub returns-else-n-ne0 : goal.returns-else-n-ne0
returns-else-n-ne0 c = stale_whole _ c.requires (search rules) c.if-n-ne0.false
