-- `merge::brought::Brought::any_conflict` meets its contract. Assumes nothing.
use Rattle.std.proofs.Common.{◌∙◌}
use Rattle.merge.specs.Lent.{lent}
use Rattle.merge.proofs.ConflictLaws.{any_by}
use Rattle.merge.proofs.brought.Brought.any_conflict.Goals as goal

pub conflict_bit-requires : goal.conflict_bit-requires
conflict_bit-requires c = rw c.row_start.ensures c.requires.1

pub returns : goal.returns
returns c =
    c.is_some.ensures ∙ any_by c.args.edges.now (lent c.args.self) c.args.n c.conflict_bit.result (rw c.row_start.ensures at c.conflict_bit.ensures)
