-- `survey::sheet::link_all` meets its contract. The pairs numbered before `start` are done. Assumes nothing.
use Rattle.std.proofs.Common.{arith, ◌+◌, ◌∙◌}
use Rattle.packed.specs.Inside.Windows.{window}
use Rattle.survey.proofs.PassLaws.{pass_all, pass_none}
use Rattle.survey.proofs.sheet.link_all.Goals as goal

pub loop-start-init : goal.loop-start-init
loop-start-init c = c.requires.1 ∙ pass_none _ _

pub returns : goal.returns
returns c = c.loop-start.invariant ∙ pass_all _ _ c.requires.0 c.loop-start.start (omega arith)

-- after the last window
pub returns-2 : goal.returns-2
returns-2 c = c.pass.ensures ∙ pass_all _ _ c.requires.0 (c.loop-start.start + window) (omega arith)
