-- `capi::fj_score` meets its contract. Assumes nothing.
use mathlib.Core.Path.{◌∙◌}
use Rattle.capi.proofs.CallLaws.{score_given}
use Rattle.capi.proofs.fj_score.Goals as goal

pub returns : goal.returns
returns c = c.one_number.ensures ∙ score_given _ _ _ c.score.ensures
