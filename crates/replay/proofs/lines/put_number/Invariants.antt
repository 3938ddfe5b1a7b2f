-- `replay::lines::put_number`: the digits that are left, before those that are written and what stood behind, are the number's.
use Rattle.std.proofs.Common.{drop, length, ◌+◌, ◌++◌, ◌<◌, ◌≡◌}
use Rattle.std.specs.Fmt.{decimal}
use Rattle.replay.specs.Limits.{line_bytes}
use Rattle.replay.proofs.lines.put_number.Given as goal

abbrev pub invariant-loop-rest : goal.invariant-loop-rest
invariant-loop-rest l =
    (length l.initial.line ≡ line_bytes)
    × (length l.line ≡ line_bytes)
    × (l.at < l.end)
    × (decimal l.x ++ drop l.end l.initial.line ≡ decimal l.rest ++ drop (l.at + 1) l.line)

abbrev pub decreases-loop-rest : goal.decreases-loop-rest
decreases-loop-rest l = l.rest
