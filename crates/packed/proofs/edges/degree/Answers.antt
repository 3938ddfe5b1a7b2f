-- `packed::edges::degree` meets its contract: the size of the row. Assumes nothing.
use mathlib.Core.Path.{ap₂, ◌∙◌}
use Prim.Native.Nat.{◌*◌}
use native.Mathlib.Omega.{arith}
use Rattle.arith.specs.Sums.{count_to}
use Rattle.packed.proofs.SetLaws.{row_size}
use Rattle.packed.specs.Inside.Rows.{in_set, words_for}
use Rattle.packed.proofs.edges.degree.Goals as goal

pub returns : goal.returns
returns c =
    c.size_of.ensures ∙ ap₂ (λ set words. count_to (in_set set) (32 * words)) c.row_of.ensures c.words_for.ensures
    ∙ row_size c.args.edges.now c.args.n c.args.p (32 * words_for c.args.n) (omega arith) (omega (arith, c.requires.1.few))
