-- `calls::snapshot::spare_set` meets its contract: the spare bits are one run, which is 0 where none is set. Assumes nothing.
use Rattle.std.proofs.Common.{not, nat_eq, ap, ◌∙◌, arith}
use Rattle.calls.proofs.SnapshotLaws.{bytes_small, spare_none, spare_run}
use Rattle.calls.proofs.snapshot.spare_set.Goals as goal

pub overflow_mul-spare : goal.overflow_mul-spare
overflow_mul-spare c = omega (arith, c.requires.1, bytes_small c.args.n c.requires.0)

pub returns-then-spare-ne0 : goal.returns-then-spare-ne0
returns-then-spare-ne0 c =
    spare_run c.args.n c.args.edges.now _ _ c.row_start-start.ensures (omega (arith, c.row_start-start.ensures, c.requires)) c.run_of.ensures

pub returns-else-spare-ne0 : goal.returns-else-spare-ne0
returns-else-spare-ne0 c =
    let none = c.if-spare-ne0.false in
    ap (λ m. not (nat_eq m 0)) none
    ∙ spare_none c.args.n c.args.edges.now _ _ c.row_start-start.ensures (omega (arith, c.row_start-start.ensures, c.requires)) none
