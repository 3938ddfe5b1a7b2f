-- `merge::conflict::first_conflict` meets its contract. Assumes nothing.
use Rattle.std.proofs.Common.{arith, refl, sym}
use Prim.Native.Nat.{zero-le}
use Rattle.packed.proofs.PairLaws.{pairs_mono}
use Rattle.packed.specs.Pairs.{pair_count}
use Rattle.state.proofs.RefusalLaws.{sized_by, sized_room}
use Rattle.merge.proofs.ConflictCall.{brought_refused, call_answered, edges_refused, lengths_none}
use Rattle.merge.proofs.ConflictLaws.{answers_none, answers_pair}
use Rattle.merge.proofs.LengthLaws.{brought_fit, long_rooms}
use Rattle.merge.specs.Lent.{lent}
use Rattle.merge.proofs.conflict.first_conflict.Goals as goal

pub returns-in_err-check_edges : goal.returns-in_err-check_edges
returns-in_err-check_edges c = edges_refused _ _ _ _ _ c.from_residual.ensures.1 c.in_err-check_edges.ensures

pub check_brought-requires : goal.check_brought-requires
check_brought-requires c = (sized_by c.in_ok-check_edges.ensures refl).few

pub returns-in_err-check_brought : goal.returns-in_err-check_brought
returns-in_err-check_brought c =
    brought_refused _ _ (lent c.args.brought) (sized_by c.in_ok-check_edges.ensures refl) _ _ c.from_residual-in_err-check_brought.ensures.1
    c.in_err-check_brought.ensures

pub row_start-requires : goal.row_start-requires
row_start-requires c = (sized_by c.in_ok-check_edges.ensures refl).few

pub conflict_bit-requires : goal.conflict_bit-requires
conflict_bit-requires c =
    rw c.row_start.ensures
    (long_rooms (sized_room (sized_by c.in_ok-check_edges.ensures refl)) (brought_fit _ (lent c.args.brought) c.in_ok-check_brought.ensures))

pub pair_at-requires : goal.pair_at-requires
unfolding pair_count
pair_at-requires c =
    let few = pairs_mono (sized_by c.in_ok-check_edges.ensures refl).few in
    (zero-le, omega (arith, few, c.row_start.ensures, c.in-Some.ensures.1), zero-le)

pub returns-in_default : goal.returns-in_default
returns-in_default c =
    let sizes = sized_by c.in_ok-check_edges.ensures refl in
    call_answered _ _ (lent c.args.brought) (lengths_none _ _ (lent c.args.brought) sizes (sym c.in_ok-check_brought.ensures))
    (answers_none _ _ _ (rw c.row_start.ensures at c.in_default.ensures))

pub returns : goal.returns
returns c =
    let sizes = sized_by c.in_ok-check_edges.ensures refl in
    let seen = rw c.row_start.ensures at c.in-Some.ensures in
    call_answered _ _ (lent c.args.brought) (lengths_none _ _ (lent c.args.brought) sizes (sym c.in_ok-check_brought.ensures))
    (answers_pair _ _ _ seen.0 seen.1 c.pair_at.ensures)
