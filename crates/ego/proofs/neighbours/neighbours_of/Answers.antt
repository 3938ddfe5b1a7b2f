-- `ego::neighbours::neighbours_of` meets its contract: the members of p's row. Assumes nothing.
use mathlib.Core.Path.{◌∙◌}
use Rattle.ego.proofs.FoundLaws.{found_is}
use Rattle.ego.proofs.neighbours.neighbours_of.Goals as goal

pub returns : goal.returns
returns c = c.members.ensures ∙ found_is c.args.edges.now c.args.n c.args.p c.requires.1.few c.row_of.ensures
