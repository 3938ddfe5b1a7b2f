-- `packed::rows::ones_of` meets its contract: the count of a word's ones. Assumes nothing.
use mathlib.Core.Path.{ap, ◌∙◌}
use Prim.Native.Nat.{◌+◌}
use native.Mathlib.Nat.{zero-add}
use lib.Count.{ones}
use Rattle.arith.proofs.Sums.{count_to_ext}
use Rattle.packed.proofs.SetLaws.{ones_word, word_is}
use Rattle.packed.specs.Inside.Rows.{in_word}
use Rattle.packed.proofs.rows.ones_of.Goals as goal

pub returns : goal.returns
returns c =
    let f = in_word c.args.word 0 in
    ap ones (word_is c.args.word 0 c.ranges.word.fits) ∙ ones_word f 0 32 ∙ count_to_ext (λ j. f (0 + j)) f 32 (λ j l. ap f (zero-add j))
