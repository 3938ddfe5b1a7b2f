-- `replay::records::do_records`: the position is within the script, and each record is past the one before.
use Rattle.std.proofs.Common.{length, ◌*◌, ◌-◌, ◌≤◌}
use Rattle.replay.proofs.records.do_records.Given as goal

abbrev pub invariant-loop-at : goal.invariant-loop-at
invariant-loop-at g l = l.at ≤ 8 * length l.script

abbrev pub decreases-loop-at : goal.decreases-loop-at
decreases-loop-at g l = 8 * length l.script - l.at
