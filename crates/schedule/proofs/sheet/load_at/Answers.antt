-- `schedule::sheet::load_at` meets its contract. Assumes nothing.
use Rattle.std.proofs.Common.{ap, ap₂, arith, length, length-take-le, refl, sym, take, ◌∙◌}
use Rattle.state.proofs.AnswerLaws.{number_some, passed_on}
use Rattle.state.proofs.RefusalLaws.{fitted_by}
use Rattle.state.specs.Outcome.{left}
use Rattle.state.specs.State.{state}
use Rattle.calls.proofs.MadeLaws.{made_long, made_sheet}
use Rattle.calls.specs.Snapshot.{load_call}
use Rattle.schedule.proofs.CallLaws.{load_form, load_lengths, load_records}
use Rattle.schedule.proofs.NumberLaws.{schedule_numbered}
use Rattle.schedule.proofs.RecordLaws.{form_rest, form_some, nodes_few, valid_by}
use Rattle.schedule.proofs.SheetLaws.{size_is, size_within}
use Rattle.schedule.proofs.Sheets.{load_at_load}
use Rattle.schedule.specs.Schedule.{record_conditions, schedule_nodes}
use Rattle.schedule.specs.Inside.Numbers.{linked_no}
use Rattle.schedule.proofs.sheet.load_at.Goals as goal

-- ---- how it ends

pub returns-in_err-check_form : goal.returns-in_err-check_form
returns-in_err-check_form c =
    let given = state c.args.edges.now c.args.figures.now c.args.marks.now in
    ap (λ r. left r given) (passed_on _ _ c.from_residual.ensures.1) ∙ load_form given _ _ c.in_err-check_form.ensures (number_some _)

pub returns-in_err-check_state : goal.returns-in_err-check_state
returns-in_err-check_state c =
    let given = state c.args.edges.now c.args.figures.now c.args.marks.now in
    ap (λ r. left r given) (passed_on _ _ c.from_residual-in_err-check_state.ensures.1)
    ∙ load_lengths given _ _ c.in_ok-check_form.ensures refl c.in_err-check_state.ensures (number_some _)

pub returns-in_err-check_records : goal.returns-in_err-check_records
returns-in_err-check_records c =
    let given = state c.args.edges.now c.args.figures.now c.args.marks.now in
    ap (λ r. left r given) (passed_on _ _ c.from_residual-in_err-check_records.ensures.1)
    ∙ load_records given _ _ c.in_ok-check_form.ensures refl (fitted_by c.in_ok-check_state.ensures refl) c.in_err-check_records.ensures (number_some _)

pub returns : goal.returns
returns c =
    let schedule = c.args.schedule.now in
    let given = state c.args.edges.now c.args.figures.now c.args.marks.now in
    let valid = valid_by schedule (c.type_inv.schedule 0) c.in_ok-check_form.ensures c.in_ok-check_records.ensures in
    let accepted = form_rest schedule c.in_ok-check_form.ensures refl (record_conditions schedule) ∙ sym c.in_ok-check_records.ensures in
    c.load.ensures
    ∙ ap (load_call given)
    (ap₂ take (size_is schedule c.nodes.ensures c.edge_bytes-size.ensures) c.make_at.ensures
    ∙ made_sheet (schedule_numbered schedule valid.each c.args.minute) valid.few)
    ∙ sym (load_at_load schedule c.args.minute accepted given)

-- ---- what the calls ask

pub check_records-requires : goal.check_records-requires
check_records-requires c = form_some _ c.in_ok-check_form.ensures refl

pub make_at-requires : goal.make_at-requires
make_at-requires c = (valid_by _ (c.type_inv.schedule 0) c.in_ok-check_form.ensures c.in_ok-check_records.ensures, refl)

pub nodes-requires : goal.nodes-requires
nodes-requires c = form_some _ c.in_ok-check_form.ensures refl

pub overflow_add-size : goal.overflow_add-size
overflow_add-size c =
    let low = nodes_few c.args.schedule.now (c.type_inv.schedule 0) in
    omega (arith, size_within c.args.schedule.now c.nodes.ensures c.edge_bytes-size.ensures (omega (arith, c.nodes.ensures)))

pub slice_bounds-made-end : goal.slice_bounds-made-end
slice_bounds-made-end c =
    let schedule = c.args.schedule.now in
    let low = nodes_few schedule (c.type_inv.schedule 0) in
    let all = ap length c.make_at.ensures ∙ made_long (schedule_nodes schedule) (linked_no schedule c.args.minute) in
    omega (arith, size_within schedule c.nodes.ensures c.edge_bytes-size.ensures (omega (arith, c.nodes.ensures)))

pub slice_bounds-load-end : goal.slice_bounds-load-end
slice_bounds-load-end c =
    let schedule = c.args.schedule.now in
    let low = nodes_few schedule (c.type_inv.schedule 0) in
    let all = ap length c.make_at.ensures ∙ made_long (schedule_nodes schedule) (linked_no schedule c.args.minute) in
    sym (length-take-le _ _ (omega (arith, size_within schedule c.nodes.ensures c.edge_bytes-size.ensures (omega (arith, c.nodes.ensures)))))
