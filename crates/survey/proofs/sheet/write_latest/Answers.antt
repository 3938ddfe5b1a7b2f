-- `survey::sheet::write_latest` meets its contract. Assumes nothing.
use Rattle.std.proofs.Common.{ap, arith, length, refl, sym, ◌+◌, ◌∙◌}
use Rattle.state.proofs.AnswerLaws.{number_some, passed_on}
use Rattle.state.proofs.RefusalLaws.{counted_by}
use Rattle.calls.proofs.MadeLaws.{made_long, made_room}
use Rattle.calls.proofs.SnapshotLaws.{bytes_small}
use Rattle.calls.specs.Inside.Made.{made_call}
use Rattle.calls.specs.Snapshot.{written}
use Rattle.survey.proofs.CallLaws.{sheet_buffer, sheet_form, sheet_made, sheet_nodes, sheet_records}
use Rattle.survey.proofs.NumberLaws.{valid_by}
use Rattle.survey.specs.Inside.Walk.{linked_no}
use Rattle.survey.proofs.sheet.write_latest.Goals as goal

-- ---- how it ends

pub returns-in_err-check_count : goal.returns-in_err-check_count
returns-in_err-check_count c =
    ap (λ r. written r c.args.snapshot.now) (passed_on _ _ c.from_residual.ensures.1) ∙ sheet_nodes _ _ _ _ c.in_err-check_count.ensures (number_some _)

pub returns-then-snapshot-edge_bytes : goal.returns-then-snapshot-edge_bytes
returns-then-snapshot-edge_bytes c =
    sheet_buffer _ _ _ _ c.in_ok-check_count.ensures refl (λ q. c.if-snapshot-edge_bytes.true (q ∙ sym (ap (λ m. 1 + m) c.edge_bytes.ensures)))

pub returns-in_err-check_form : goal.returns-in_err-check_form
returns-in_err-check_form c =
    let long = c.if-snapshot-edge_bytes.false ∙ ap (λ m. 1 + m) c.edge_bytes.ensures in
    ap (λ r. written r c.args.snapshot.now) (passed_on _ _ c.from_residual-in_err-check_form.ensures.1)
    ∙ sheet_form _ _ _ _ c.in_ok-check_count.ensures refl long c.in_err-check_form.ensures (number_some _)

pub returns-in_err-check_records : goal.returns-in_err-check_records
returns-in_err-check_records c =
    let long = c.if-snapshot-edge_bytes.false ∙ ap (λ m. 1 + m) c.edge_bytes.ensures in
    ap (λ r. written r c.args.snapshot.now) (passed_on _ _ c.from_residual-in_err-check_records.ensures.1)
    ∙ sheet_records _ _ _ _ c.in_ok-check_count.ensures refl long c.in_ok-check_form.ensures refl c.in_err-check_records.ensures (number_some _)

pub returns : goal.returns
returns c =
    let long = c.if-snapshot-edge_bytes.false ∙ ap (λ m. 1 + m) c.edge_bytes.ensures in
    c.write_made.ensures ∙ ap (λ l. made_call l c.args.n c.args.snapshot.now) c.make.ensures
    ∙ sheet_made _ _ _ _ c.in_ok-check_count.ensures refl long c.in_ok-check_form.ensures refl c.in_ok-check_records.ensures refl

-- ---- what the calls ask

pub edge_bytes-requires : goal.edge_bytes-requires
edge_bytes-requires c = (counted_by _ c.in_ok-check_count.ensures refl).1

pub overflow_add-edge_bytes : goal.overflow_add-edge_bytes
overflow_add-edge_bytes c = omega (arith, c.edge_bytes.ensures, bytes_small c.args.n (counted_by _ c.in_ok-check_count.ensures refl).1)

pub make-requires : goal.make-requires
make-requires c =
    let nodes = counted_by _ c.in_ok-check_count.ensures refl in
    (valid_by _ _ nodes.1 (sym c.in_ok-check_records.ensures), nodes.0, refl)

pub write_made-requires : goal.write_made-requires
write_made-requires c =
    let nodes = counted_by _ c.in_ok-check_count.ensures refl in
    let links = linked_no c.args.survey.now c.args.threshold in
    let whole = ap length c.make.ensures ∙ made_long c.args.n links in (
      omega (arith, c.if-snapshot-edge_bytes.false, c.edge_bytes.ensures, bytes_small c.args.n nodes.1),
      omega arith,
      rw c.make.ensures (made_room c.args.n links nodes.1),
    )
