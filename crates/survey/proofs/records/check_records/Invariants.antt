-- The records before i are checked.
use Rattle.std.proofs.Common.{◌≡◌}
use Rattle.state.specs.Answers.{refusal_of}
use Rattle.state.specs.Refusal.{pair_conditions, refusal}
use Rattle.survey.specs.Survey.{pairs_to}
use Rattle.survey.proofs.records.check_records.Given as goal

abbrev pub invariant-loop-i : goal.invariant-loop-i
invariant-loop-i l = refusal_of l.first ≡ refusal (pair_conditions l.n (pairs_to l.survey l.i))
