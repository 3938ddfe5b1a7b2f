-- `calls::snapshot::write` meets its contract. Assumes nothing.
use mathlib.Core.List.{List}
use mathlib.Core.Path.{ap, refl, sym, ◌∙◌, ◌≡◌}
use Prim.Native.Nat.{◌+◌, ◌-◌, ℕ}
use native.Mathlib.Omega.{arith}
use lib.ListN.{length, length-set, set}
use Rattle.state.specs.Sizes.{edge_bytes, snapshot_bytes}
use Rattle.state.specs.State.{state}
use Rattle.state.proofs.AnswerLaws.{number_some, passed_on}
use Rattle.state.proofs.RefusalLaws.{fitted_by, sized_room}
use Rattle.calls.proofs.SnapshotLaws.{bytes_small, part_length, sheet_is, write_accepted, write_buffer, write_crowded, write_lengths}
use Rattle.calls.specs.Snapshot.{written}
use Rattle.calls.proofs.snapshot.write.Goals as goal

-- the buffer has the sheet's length
long : (n : ℕ) {l bytes : ℕ} → l ≡ 1 + bytes → bytes ≡ edge_bytes n → l ≡ snapshot_bytes n
long n e b = e ∙ ap (λ m. 1 + m) b

-- ---- how it ends

pub returns-in_err-check_state : goal.returns-in_err-check_state
returns-in_err-check_state c =
    let given = state c.args.edges.now c.args.figures.now c.args.marks.now in
    ap (λ r. written r c.args.snapshot.now) (passed_on _ _ c.from_residual.ensures.1) ∙ write_lengths given _ c.in_err-check_state.ensures (number_some _)

pub returns-then-snapshot-edge_bytes : goal.returns-then-snapshot-edge_bytes
returns-then-snapshot-edge_bytes c =
    let given = state c.args.edges.now c.args.figures.now c.args.marks.now in
    write_buffer given _ (fitted_by c.in_ok-check_state.ensures refl)
    (λ q. c.if-snapshot-edge_bytes.true (q ∙ ap (λ m. 1 + m) (sym c.edge_bytes.ensures)))

pub returns-then-any_over : goal.returns-then-any_over
returns-then-any_over c =
    let given = state c.args.edges.now c.args.figures.now c.args.marks.now in
    write_crowded given _ (fitted_by c.in_ok-check_state.ensures refl) (long _ c.if-snapshot-edge_bytes.false c.edge_bytes.ensures)
    (sym c.any_over.ensures ∙ c.if-any_over.true)

pub returns : goal.returns
returns c =
    let given = state c.args.edges.now c.args.figures.now c.args.marks.now in
    let size_is = long _ c.if-snapshot-edge_bytes.false c.edge_bytes.ensures in
    write_accepted given _ (fitted_by c.in_ok-check_state.ensures refl) size_is (sym c.any_over.ensures ∙ c.if-any_over.false)
    (sheet_is given c.args.snapshot.now size_is c.copy_pairs.ensures)

-- ---- what the tests ask

pub edge_bytes-requires : goal.edge_bytes-requires
edge_bytes-requires c = (fitted_by c.in_ok-check_state.ensures refl).sizes.few

pub overflow_add-edge_bytes : goal.overflow_add-edge_bytes
overflow_add-edge_bytes c =
    omega (arith, c.edge_bytes.ensures, bytes_small _ (fitted_by c.in_ok-check_state.ensures refl).sizes.few)

pub any_over-requires : goal.any_over-requires
any_over-requires c = sized_room (fitted_by c.in_ok-check_state.ensures refl).sizes

-- ---- what the stores ask: the buffer with its first byte, and the part after it

pub overflow_sub-snapshot : goal.overflow_sub-snapshot
overflow_sub-snapshot c = omega (arith, (fitted_by c.in_ok-check_state.ensures refl).sizes.some)

pub overflow_cast-snapshot : goal.overflow_cast-snapshot
overflow_cast-snapshot c = omega (arith, (fitted_by c.in_ok-check_state.ensures refl).sizes.few)

pub copy_pairs-requires : goal.copy_pairs-requires
copy_pairs-requires c =
    let f = fitted_by c.in_ok-check_state.ensures refl in
    let byte : ℕ = length c.args.figures.now - 1 in
    let headed : List ℕ = set c.args.snapshot.now 0 byte in (
      f.sizes.few,
      f.sizes.edges_fit,
      part_length headed (length-set c.args.snapshot.now 0 byte ∙ long _ c.if-snapshot-edge_bytes.false c.edge_bytes.ensures),
    )
