-- `preview::preview::preview_remove` meets its contract. Assumes nothing.
use Rattle.preview.specs.Preview.{preview_remove_call}
use Rattle.preview.proofs.preview.preview_remove.Goals as goal

pub returns : goal.returns
unfolding preview_remove_call
returns c = c.preview.ensures
