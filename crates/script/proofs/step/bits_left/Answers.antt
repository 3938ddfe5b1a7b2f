-- `script::step::bits_left` meets its contract. Assumes nothing.
use mathlib.Core.Path.{sym, ◌∙◌}
use Rattle.script.proofs.RecordLaws.{left_is, left_long}
use Rattle.script.proofs.step.bits_left.Goals as goal

pub returns-then-script-gt-MAX_BYTES : goal.returns-then-script-gt-MAX_BYTES
returns-then-script-gt-MAX_BYTES c = sym (left_long _ _ c.if-script-gt-MAX_BYTES.true)

pub returns : goal.returns
returns c = c.saturating_sub.ensures ∙ sym (left_is c.args.script.now c.args.at c.if-script-gt-MAX_BYTES.false)
