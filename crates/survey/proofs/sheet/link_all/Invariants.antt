-- The pairs numbered before `start` are done.
use Rattle.std.proofs.Common.{◌≡◌}
use Rattle.survey.specs.Inside.Walk.{pass_edges}
use Rattle.survey.proofs.sheet.link_all.Given as goal

abbrev pub invariant-loop-start : goal.invariant-loop-start
invariant-loop-start l = l.edges ≡ pass_edges l.survey l.threshold l.start 0
