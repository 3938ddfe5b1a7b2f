-- `capi::fj_add` meets its contract. Assumes nothing.
use Rattle.edits.specs.Edit.{add_call}
use Rattle.state.specs.Outcome.{lengths}
use Rattle.capi.proofs.fj_add.Goals as goal

pub returns : goal.returns
unfolding add_call lengths
returns c = rw c.number_of.ensures c.edit_bytes.ensures
