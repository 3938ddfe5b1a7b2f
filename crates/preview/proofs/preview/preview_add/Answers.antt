-- `preview::preview::preview_add` meets its contract. Assumes nothing.
use Rattle.preview.specs.Preview.{preview_add_call}
use Rattle.preview.proofs.preview.preview_add.Goals as goal

pub returns : goal.returns
unfolding preview_add_call
returns c = c.preview.ensures
