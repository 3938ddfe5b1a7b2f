-- The records before i are done.
use Rattle.std.proofs.Common.{◌≡◌}
use Rattle.survey.specs.Inside.Walk.{Numbers, pass_edges}
use Rattle.survey.proofs.sheet.pass.Given as goal

abbrev pub invariant-loop-i : goal.invariant-loop-i
invariant-loop-i l = (l.edges ≡ pass_edges l.survey l.threshold l.start l.i) × Numbers l.survey l.start l.i l.table.latest × (l.table.start ≡ l.start)
