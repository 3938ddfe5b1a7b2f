-- `packed::runs::run_of` meets its contract: the run is a field of the word of its first byte. Assumes nothing.
use native.Mathlib.Omega.{arith}
use Rattle.packed.proofs.RunLaws.{run_word}
use Rattle.packed.proofs.runs.run_of.Goals as goal

pub returns : goal.returns
returns c = run_word c.args.bits.now c.args.from c.args.count (omega (arith, c.requires.1)) c.word_at.ensures c.field.ensures
