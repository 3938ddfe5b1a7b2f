-- `capi::figures::renew_bytes`: after i turns the first i nodes are renewed.
use mathlib.Core.Path.{◌≡◌}
use Rattle.capi.proofs.FigureLaws.{renewed_to}
use Rattle.capi.proofs.figures.renew_bytes.Given as goal

abbrev pub invariant-loop-i : goal.invariant-loop-i
invariant-loop-i l = l.bytes ≡ renewed_to l.fn.bytes l.by.touching.nodes l.by.bounds l.by.taken l.i
