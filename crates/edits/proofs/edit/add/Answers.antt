-- `edits::edit::add` meets its contract. Assumes nothing.
use Rattle.state.specs.Outcome.{lengths}
use Rattle.edits.specs.Edit.{add_call}
use Rattle.edits.proofs.edit.add.Goals as goal

pub returns : goal.returns
unfolding add_call lengths
returns c = c.edit_state.ensures
