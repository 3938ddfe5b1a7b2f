-- The edges have the bits of the records before i.
use Rattle.std.proofs.Common.{◌≡◌}
use Rattle.schedule.proofs.SheetLaws.{bits_to}
use Rattle.schedule.proofs.sheet.link_all.Given as goal

abbrev pub invariant-loop-i : goal.invariant-loop-i
invariant-loop-i l = l.edges ≡ bits_to l.schedule l.minute l.i
