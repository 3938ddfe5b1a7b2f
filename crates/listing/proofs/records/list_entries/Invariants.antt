-- The loop of `listing::records::list_entries`: after i turns the first i entries hold the first i rows of the numbers.
use Rattle.std.proofs.Common.{◌≡◌}
use Rattle.listing.proofs.RecordLaws.{upto}
use Rattle.listing.proofs.records.list_entries.Given as goal

abbrev pub invariant-loop-i : goal.invariant-loop-i
invariant-loop-i l = l.entries ≡ upto l.numbers l.initial.entries l.i
