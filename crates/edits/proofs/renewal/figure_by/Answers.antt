-- `edits::renewal::figure_by` meets its contract. Assumes nothing.
use borrow.Author.Rules.{rules}
use Rattle.edits.specs.Edit.{new_figure}
use Rattle.edits.proofs.renewal.figure_by.Goals as goal

pub returns-then-takes : goal.returns-then-takes
unfolding new_figure
returns-then-takes c = search rules

pub returns-else-takes : goal.returns-else-takes
unfolding new_figure
returns-else-takes c = search rules
