-- `topk::entries::Entry::ranks_before` meets its contract. Assumes nothing.
use Rattle.std.proofs.Common.{arith}
use Rattle.std.proofs.lemmas.Bool.Decides.{nat_tests}
use Rattle.arith.specs.Rank.{before}
use Rattle.topk.specs.Entries.{ranks_before}
use Rattle.topk.proofs.entries.Entry.ranks_before.Goals as goal

pub returns-then-other-self : goal.returns-then-other-self
unfolding ranks_before before
returns-then-other-self c = grind (arith, nat_tests)

pub returns-then-other-self-2 : goal.returns-then-other-self-2
unfolding ranks_before before
returns-then-other-self-2 c = grind (arith, nat_tests)

pub returns : goal.returns
unfolding ranks_before before
returns c = grind (arith, nat_tests)
