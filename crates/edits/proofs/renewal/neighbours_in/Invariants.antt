-- `edits::renewal::neighbours_in`: after i turns the set has the neighbours of the first i nodes.
use mathlib.Core.Path.{◌≡◌}
use lib.ListN.{length}
use Rattle.packed.specs.Inside.Rows.{row_words}
use Rattle.edits.specs.Inside.Renewal.{Covers}
use Rattle.edits.proofs.renewal.neighbours_in.Given as goal

abbrev pub invariant-loop-p : goal.invariant-loop-p
invariant-loop-p l = Covers l.edges l.n l.touching.nodes l.p-index l.set × (length l.set ≡ row_words)
