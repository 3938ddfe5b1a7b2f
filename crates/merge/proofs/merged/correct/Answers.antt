-- `merge::merged::correct` meets its contract. Assumes nothing.
use Rattle.std.proofs.Common.{sym, ◌∙◌}
use Rattle.merge.specs.Inside.Steps.{corrects}
use Rattle.merge.proofs.merged.correct.Goals as goal

pub returns-then-takes : goal.returns-then-takes
unfolding corrects
returns-then-takes c = rw (sym c.takes.ensures ∙ c.if-takes.true, ← c.has.ensures) c.shift.ensures

pub returns-else-takes : goal.returns-else-takes
unfolding corrects
returns-else-takes c = rw (sym c.takes.ensures ∙ c.if-takes.false)
