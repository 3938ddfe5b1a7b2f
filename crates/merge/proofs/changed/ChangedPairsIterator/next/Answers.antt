-- `next` of `merge::changed::ChangedPairs` meets its contract. Assumes nothing.
use Rattle.std.proofs.Common.{arith}
use Rattle.merge.proofs.WalkLaws.{next_some, place_next}
use Rattle.packed.proofs.PairLaws.{pairs_mono}
use Rattle.packed.proofs.RowLaws.{pairs_few}
use Rattle.merge.proofs.changed.ChangedPairsIterator.next.Goals as goal

pub overflow_add-from : goal.overflow_add-from
overflow_add-from c =
    let walks = c.args.self.now.walks in
    omega (arith, walks.0.bits, pairs_few walks.1.few, c.row_start.ensures)

pub pair_at-pair-requires : goal.pair_at-pair-requires
pair_at-pair-requires c =
    let walks = c.args.self.now.walks in
    let found = c.in_ok-i.ensures in (
      omega (arith, found.0.start, c.row_start.ensures),
      omega (arith, found.1, c.row_start-2.ensures, pairs_mono walks.1.few),
      omega (arith, walks.0.few, walks.1.few),
    )

pub invariant_of-self : goal.invariant_of-self
invariant_of-self c =
    let walks = c.args.self.now.walks in
    let found = rw (c.row_start.ensures, c.row_start-2.ensures) at c.in_ok-i.ensures in
    record { walks = (place_next (next_some _ _ found.0 found.1 c.pair_at-pair.ensures), walks.1, walks.2) }
