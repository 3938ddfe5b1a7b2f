-- The records before i are checked.
use Rattle.std.proofs.Common.{◌≡◌}
use Rattle.state.specs.Answers.{refusal_of}
use Rattle.state.specs.Refusal.{refusal}
use Rattle.schedule.specs.Schedule.{conditions_to}
use Rattle.schedule.proofs.records.check_records.Given as goal

abbrev pub invariant-loop-i : goal.invariant-loop-i
invariant-loop-i l = refusal_of l.first ≡ refusal (conditions_to l.schedule l.i)
