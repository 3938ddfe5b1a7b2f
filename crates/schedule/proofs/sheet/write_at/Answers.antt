-- `schedule::sheet::write_at` meets its contract. Assumes nothing.
use Rattle.std.proofs.Common.{ap, ap₂, arith, length, refl, sym, ◌∙◌}
use Rattle.state.proofs.AnswerLaws.{number_some, passed_on}
use Rattle.calls.proofs.MadeLaws.{made_long, made_room}
use Rattle.calls.specs.Inside.Made.{made_call}
use Rattle.calls.specs.Snapshot.{written}
use Rattle.schedule.proofs.CallLaws.{write_buffer, write_form, write_made, write_records}
use Rattle.schedule.proofs.RecordLaws.{form_some, nodes_few, valid_by}
use Rattle.schedule.proofs.SheetLaws.{size_is, size_within}
use Rattle.schedule.specs.Schedule.{schedule_nodes}
use Rattle.schedule.specs.Inside.Numbers.{linked_no}
use Rattle.schedule.proofs.sheet.write_at.Goals as goal

-- ---- how it ends

pub returns-in_err-check_form : goal.returns-in_err-check_form
returns-in_err-check_form c =
    ap (λ r. written r c.args.snapshot.now) (passed_on _ _ c.from_residual.ensures.1) ∙ write_form _ _ _ c.in_err-check_form.ensures (number_some _)

pub returns-then-snapshot-edge_bytes : goal.returns-then-snapshot-edge_bytes
returns-then-snapshot-edge_bytes c =
    write_buffer _ _ _ c.in_ok-check_form.ensures refl
    (λ e. c.if-snapshot-edge_bytes.true (e ∙ sym (size_is c.args.schedule.now c.nodes-n.ensures c.edge_bytes.ensures)))

pub returns-in_err-check_records : goal.returns-in_err-check_records
returns-in_err-check_records c =
    let long = c.if-snapshot-edge_bytes.false ∙ size_is c.args.schedule.now c.nodes-n.ensures c.edge_bytes.ensures in
    ap (λ r. written r c.args.snapshot.now) (passed_on _ _ c.from_residual-in_err-check_records.ensures.1)
    ∙ write_records _ _ _ c.in_ok-check_form.ensures refl long c.in_err-check_records.ensures (number_some _)

pub returns : goal.returns
returns c =
    let long = c.if-snapshot-edge_bytes.false ∙ size_is c.args.schedule.now c.nodes-n.ensures c.edge_bytes.ensures in
    let valid = valid_by c.args.schedule.now (c.type_inv.schedule 0) c.in_ok-check_form.ensures c.in_ok-check_records.ensures in
    write_made _ _ _ c.in_ok-check_form.ensures refl long c.in_ok-check_records.ensures refl valid
    (c.write_made.ensures ∙ ap₂ (λ l n. made_call l n c.args.snapshot.now) c.make_at.ensures c.nodes-n.ensures)

-- ---- what the calls ask

pub nodes-n-requires : goal.nodes-n-requires
nodes-n-requires c = form_some _ c.in_ok-check_form.ensures refl

pub overflow_add-edge_bytes : goal.overflow_add-edge_bytes
overflow_add-edge_bytes c =
    let low = nodes_few c.args.schedule.now (c.type_inv.schedule 0) in
    omega (arith, size_within c.args.schedule.now c.nodes-n.ensures c.edge_bytes.ensures (omega (arith, c.nodes-n.ensures)))

pub check_records-requires : goal.check_records-requires
check_records-requires c = form_some _ c.in_ok-check_form.ensures refl

pub make_at-requires : goal.make_at-requires
make_at-requires c = (valid_by _ (c.type_inv.schedule 0) c.in_ok-check_form.ensures c.in_ok-check_records.ensures, refl)

pub write_made-requires : goal.write_made-requires
write_made-requires c =
    let schedule = c.args.schedule.now in
    let links = linked_no schedule c.args.minute in
    let low = nodes_few schedule (c.type_inv.schedule 0) in
    let within = size_within schedule c.nodes-n.ensures c.edge_bytes.ensures (omega (arith, c.nodes-n.ensures)) in
    let all = ap length c.make_at.ensures ∙ made_long (schedule_nodes schedule) links in (
      omega (arith, c.if-snapshot-edge_bytes.false),
      omega arith,
      rw (c.make_at.ensures, c.nodes-n.ensures) (made_room (schedule_nodes schedule) links low),
    )
