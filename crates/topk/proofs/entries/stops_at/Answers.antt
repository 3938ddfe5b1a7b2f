-- `topk::entries::stops_at` meets its contract. Assumes nothing.
use Rattle.std.proofs.Common.{sym, ap, arith, ◌∙◌}
use borrow.Author.Tests.{ne_eqb}
use Rattle.topk.proofs.LayoutLaws.{stops_full, stops-not}
use Rattle.topk.specs.Entries.{entries_of, ranks_before, stops}
use Rattle.topk.proofs.entries.stops_at.Goals as goal

pub returns-then-kept-k : goal.returns-then-kept-k
unfolding ranks_before
returns-then-kept-k c =
    let a = c.args in
    c.ranks_before.ensures
    ∙ rw c.entry_at.ensures (sym (stops_full a.kept a.entries.now a.e (omega arith)))
    ∙ ap (λ k. stops k a.e (entries_of a.kept a.entries.now)) c.if-kept-k.true

pub returns-else-kept-k : goal.returns-else-kept-k
returns-else-kept-k c =
    let a = c.args in
    ne_eqb _ _ c.if-kept-k.false ∙ sym (stops-not a.k a.kept a.entries.now a.e c.if-kept-k.false)
