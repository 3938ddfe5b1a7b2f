-- `calls::snapshot::copy_pairs` meets its contract. Assumes nothing.
use mathlib.Core.Path.{ap, sym, ◌∙◌}
use Prim.Native.Nat.{◌*◌, ◌-◌}
use native.Mathlib.Omega.{arith}
use lib.ListN.{length, set}
use Rattle.calls.proofs.SnapshotLaws.{bytes_small, pairs_trimmed, pairs_whole}
use Rattle.calls.proofs.snapshot.copy_pairs.Goals as goal

pub overflow_mul-spare : goal.overflow_mul-spare
overflow_mul-spare c = omega (arith, c.requires.1, bytes_small c.args.n c.requires.0)

pub returns-else-spare-ne0 : goal.returns-else-spare-ne0
returns-else-spare-ne0 c =
    c.copy.ensures
    ∙ pairs_whole c.args.edges.now c.args.n (λ k. (c.type_inv.edges k).fits) c.requires.1
    (ap (λ m. 8 * length c.args.edges.now - m) (sym c.row_start.ensures) ∙ c.if-spare-ne0.false)

pub returns-then-spare-ne0 : goal.returns-then-spare-ne0
returns-then-spare-ne0 c =
    let last = length c.args.edges.now - 1 in
    ap (λ l. set l last c.trimmed.result) c.copy.ensures
    ∙ pairs_trimmed c.args.edges.now c.args.n (λ k. (c.type_inv.edges k).fits) c.requires.1 last (omega arith)
    (ap (λ m. 8 * length c.args.edges.now - m) c.row_start.ensures) c.if-spare-ne0.true c.trimmed.ensures
