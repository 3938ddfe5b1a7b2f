-- `edits::edit::remove` meets its contract. Assumes nothing.
use Rattle.state.specs.Outcome.{lengths}
use Rattle.edits.specs.Edit.{remove_call}
use Rattle.edits.proofs.edit.remove.Goals as goal

pub returns : goal.returns
unfolding remove_call lengths
returns c = c.edit_state.ensures
