-- `packed::rows::row_within` meets its contract. Assumes nothing.
use mathlib.Core.Path.{sym, ◌∙◌}
use Rattle.packed.specs.Inside.Rows.{row_within}
use Rattle.packed.proofs.rows.row_within.Goals as goal

pub returns-then-contains : goal.returns-then-contains
unfolding row_within
returns-then-contains c = rw (sym c.contains.ensures ∙ c.if-contains.true) c.row_below.ensures

pub returns-else-contains : goal.returns-else-contains
unfolding row_within
returns-else-contains c = rw (sym c.contains.ensures ∙ c.if-contains.false)
