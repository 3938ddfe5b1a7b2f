-- `edits::edit::mark_each`: after i turns the first i nodes are stale.
use mathlib.Core.Path.{◌≡◌}
use Rattle.edits.specs.Inside.Touched.{stale_each}
use Rattle.edits.proofs.edit.mark_each.Given as goal

abbrev pub invariant-loop-p : goal.invariant-loop-p
invariant-loop-p l = l.marks ≡ stale_each l.touching.nodes l.fn.marks l.p-index
