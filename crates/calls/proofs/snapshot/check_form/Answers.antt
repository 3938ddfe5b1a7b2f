-- `calls::snapshot::check_form` meets its contract. Assumes nothing.
use mathlib.Core.Bool.{Bool}
use mathlib.Core.List.{List}
use mathlib.Core.Path.{ap, sym, ◌∙◌, ◌≡◌}
use Prim.Native.Nat.{◌+◌, ◌-◌, ℕ}
use native.Mathlib.Omega.{arith}
use borrow.Author.Tests.{eqb-false, eqb-true}
use lib.ListN.{drop, get_or, length, take}
use Rattle.state.proofs.RefusalLaws.{passed_other, refusal_none, refused_other}
use Rattle.calls.proofs.SnapshotLaws.{bytes_small, part_is, passed_snapshot, refused_empty, refused_other_length, refused_spare}
use Rattle.state.specs.Refusal.{snapshot_edges, spare_set}
use Rattle.calls.proofs.snapshot.check_form.Goals as goal
use Rattle.calls.proofs.snapshot.check_form.Goals.{then-snapshot-edge_bytes-via-then-snapshot-edge_bytes, then-snapshot-edge_bytes-via-else-snapshot-edge_bytes+then-spare_set}

-- what is said of the part is said of the snapshot's edges
spare : (snapshot : List ℕ) (n : ℕ) {t u : Bool} → t ≡ spare_set n (take (length snapshot - 1) (drop 1 snapshot)) → t ≡ u
    → spare_set n (snapshot_edges snapshot) ≡ u
spare snapshot n e f = ap (spare_set n) (sym (part_is snapshot)) ∙ sym e ∙ f

pub returns-then-is_empty : goal.returns-then-is_empty
returns-then-is_empty c = sym (refused_empty _ _ (eqb-true _ 0 (sym c.if-is_empty.ensures)))

pub overflow_add-edge_bytes : goal.overflow_add-edge_bytes
overflow_add-edge_bytes c =
    omega (arith, c.edge_bytes.ensures, bytes_small (get_or c.args.snapshot.now 0 0 + 1) (omega (arith, c.type_inv.snapshot 0)))

pub returns-then-snapshot-edge_bytes : goal.returns-then-snapshot-edge_bytes
returns-then-snapshot-edge_bytes c =
    let some = eqb-false _ 0 (sym c.if-is_empty.ensures) in
    elim c.then-snapshot-edge_bytes.branch [
      | then-snapshot-edge_bytes-via-then-snapshot-edge_bytes w ↦
          sym (refused_other_length _ c.args.snapshot.now some (λ e. w.if-snapshot-edge_bytes.true (e ∙ ap (λ m. 1 + m) (sym c.edge_bytes.ensures))))
      | then-snapshot-edge_bytes-via-else-snapshot-edge_bytes+then-spare_set w ↦
          sym (refused_spare _ c.args.snapshot.now some (w.if-snapshot-edge_bytes.false ∙ ap (λ m. 1 + m) c.edge_bytes.ensures)
          (spare c.args.snapshot.now _ w.spare_set.ensures w.if-spare_set.true))
    ]

pub returns-then-nodes-n : goal.returns-then-nodes-n
returns-then-nodes-n c =
    sym (passed_snapshot _ c.args.snapshot.now (eqb-false _ 0 (sym c.if-is_empty.ensures)) (c.if-snapshot-edge_bytes.false ∙ ap (λ m. 1 + m) c.edge_bytes.ensures)
    (spare c.args.snapshot.now _ c.spare_set.ensures c.if-spare_set.false) ∙ refused_other _ _ _ c.if-nodes-n.true)

pub returns : goal.returns
returns c =
    sym (passed_snapshot _ c.args.snapshot.now (eqb-false _ 0 (sym c.if-is_empty.ensures)) (c.if-snapshot-edge_bytes.false ∙ ap (λ m. 1 + m) c.edge_bytes.ensures)
    (spare c.args.snapshot.now _ c.spare_set.ensures c.if-spare_set.false) ∙ passed_other _ _ _ c.if-nodes-n.false ∙ refusal_none)
