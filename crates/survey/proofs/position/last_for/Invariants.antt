-- The records before i are walked.
use Rattle.survey.proofs.RecordLaws.{Walked}
use Rattle.survey.specs.Survey.{is_for}
use Rattle.survey.proofs.position.last_for.Given as goal

abbrev pub invariant-loop-i : goal.invariant-loop-i
invariant-loop-i l = Walked l.survey (is_for l.survey l.a l.b) l.i l.last l.highest
