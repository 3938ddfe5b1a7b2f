-- `edits::renewal::renew`: after i turns the first i nodes are renewed.
use mathlib.Core.Path.{◌≡◌}
use Rattle.edits.specs.Inside.Renewal.{renew_each}
use Rattle.edits.proofs.renewal.renew.Given as goal

abbrev pub invariant-loop-i : goal.invariant-loop-i
invariant-loop-i l = l.figures ≡ renew_each l.by.touching.nodes l.by.bounds l.by.taken l.fn.figures l.i
