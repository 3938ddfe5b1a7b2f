-- `state::marks::set_mark` meets its contract. Assumes nothing.
use Rattle.state.specs.Marks.{with_mark}
use Rattle.state.proofs.marks.set_mark.Goals as goal

pub returns : goal.returns
unfolding with_mark
returns c = c.before.before.put.ensures
