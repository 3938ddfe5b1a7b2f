-- `capi::fj_remove` meets its contract. Assumes nothing.
use Rattle.edits.specs.Edit.{remove_call}
use Rattle.state.specs.Outcome.{lengths}
use Rattle.capi.proofs.fj_remove.Goals as goal

pub returns : goal.returns
unfolding remove_call lengths
returns c = rw c.number_of.ensures c.edit_bytes.ensures
