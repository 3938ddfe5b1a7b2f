-- `state::marks::is_stale` meets its contract. Assumes nothing.
use Rattle.state.specs.Marks.{stale}
use Rattle.state.proofs.marks.is_stale.Goals as goal

pub returns : goal.returns
unfolding stale
returns c = c.get.ensures
