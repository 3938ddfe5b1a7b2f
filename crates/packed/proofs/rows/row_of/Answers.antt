-- `packed::rows::row_of` meets its contract. Before the turn of q the row has the neighbours below q, and i is the bit of p and q. Assumes nothing.
use mathlib.Core.Path.{ap, refl, sym, ◌∙◌}
use Prim.Native.Nat.{◌+◌, ◌<◌}
use native.Mathlib.Nat.{le_antisymm}
use native.Mathlib.Omega.{arith}
use lib.ListN.{length}
use Rattle.packed.proofs.EdgeLaws.{edge_self}
use Rattle.packed.proofs.PairLaws.{room_mono}
use Rattle.packed.proofs.RowLaws.{column_more, column_within, edge_above, pairs_few}
use Rattle.packed.proofs.SetLaws.{row_long, row_next, row_pass}
use Rattle.packed.specs.Bits.{bit_at}
use Rattle.packed.specs.Pairs.{max_nodes}
use Rattle.packed.specs.Inside.Rows.{row_of, with_node}
use Rattle.packed.proofs.rows.row_of.Goals as goal
use Rattle.packed.proofs.rows.row_of.Goals.{then-get, else-get}

pub row_below-row-requires : goal.row_below-row-requires
row_below-row-requires c = room_mono (omega arith) c.requires.1

pub row_start-requires : goal.row_start-requires
row_start-requires c = omega (arith, c.requires.1.few)

pub overflow_add-i : goal.overflow_add-i
overflow_add-i c = omega (arith, pairs_few {n = c.args.p + 1} (omega (arith, c.requires.1.few)))

pub loop-q-init : goal.loop-q-init
loop-q-init c = (
  omega arith,
  omega arith,
  omega (arith, c.row_start.ensures),
  c.row_below-row.ensures ∙ row_pass c.args.edges.now c.args.p c.args.p (edge_self _ _ _ refl),
)

pub get-requires : goal.get-requires
get-requires c =
    omega (arith, column_within c.args.n c.args.p c.loop-q.q c.args.edges.now c.requires.1 c.loop-q.invariant.0 c.loop-q-test.true)

pub insert-requires : goal.insert-requires
insert-requires c = (
  ap length c.loop-q.invariant.3 ∙ row_long c.args.edges.now c.loop-q.q c.args.p,
  omega (arith, c.requires.1.few),
)

pub overflow_add-i-in-loop-q : goal.overflow_add-i-in-loop-q
overflow_add-i-in-loop-q c =
    let few : c.loop-q.q < max_nodes = omega (arith, c.requires.1.few) in
    omega (arith, few, pairs_few {n = c.loop-q.q} (omega (arith, few)))

pub loop-q-preserved : goal.loop-q-preserved
loop-q-preserved c =
    let es = c.args.edges.now in
    let p = c.args.p in
    let q = c.loop-q.q in
    let inv = c.loop-q.invariant in
    let few : q < max_nodes = omega (arith, c.requires.1.few) in
    let is = edge_above es p q inv.0 ∙ ap (bit_at es) (sym inv.2) ∙ sym c.get.ensures in (
      omega arith,
      omega arith,
      omega (arith, column_more q p),
      elim c.if-get.branch [
        | then-get w ↦ w.row-is ∙ w.insert.ensures ∙ ap (λ row. with_node row q) inv.3 ∙ row_next es q p few (is ∙ w.if-get.true)
        | else-get w ↦ w.row-is ∙ inv.3 ∙ row_pass es q p (is ∙ w.if-get.false)
      ],
    )

pub returns : goal.returns
returns c =
    let inv = c.loop-q.invariant in
    inv.3 ∙ ap (λ q. row_of c.args.edges.now q c.args.p) (le_antisymm inv.1 c.loop-q-test.false)
