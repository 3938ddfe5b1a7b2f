-- `preview::preview::preview` meets its contract. Assumes nothing.
use Rattle.std.proofs.Common.{ap, length, pos, refl, replicate, true, ◌∙◌}
use Rattle.packed.specs.Edges.{edge, with_edge}
use Rattle.state.proofs.AnswerLaws.{number_some, passed_on}
use Rattle.state.proofs.RefusalLaws.{fitted_by, sized_room}
use Rattle.state.specs.State.{state}
use Rattle.preview.proofs.CallLaws.{count_refused, edit_accepted, edit_refused, lengths_refused}
use Rattle.preview.proofs.EachLaws.{changes_are}
use Rattle.preview.specs.Inside.Effect.{change_each}
use Rattle.preview.specs.Preview.{previewed}
use Rattle.preview.proofs.preview.preview.Goals as goal

pub returns-in_err-check_state : goal.returns-in_err-check_state
returns-in_err-check_state c =
    let s = c.args in
    ap (λ r. previewed r s.changes.now) (passed_on _ _ c.from_residual.ensures.1)
    ∙ lengths_refused (state s.edges.now s.figures.now s.marks.now) s.changes.now s.a s.b s.on c.in_err-check_state.ensures (number_some c.in_err-check_state.field-0.0)

pub returns-then-changes-n : goal.returns-then-changes-n
returns-then-changes-n c =
    let s = c.args in
    count_refused (state s.edges.now s.figures.now s.marks.now) s.changes.now s.a s.b s.on (fitted_by c.in_ok-check_state.ensures refl) c.if-changes-n.true

pub examine-requires : goal.examine-requires
examine-requires c = sized_room (fitted_by c.in_ok-check_state.ensures refl).sizes

pub returns-in_err-touching : goal.returns-in_err-touching
returns-in_err-touching c =
    let s = c.args in
    ap (λ r. previewed r s.changes.now) (passed_on _ _ c.from_residual-in_err-touching.ensures.1)
    ∙ edit_refused (state s.edges.now s.figures.now s.marks.now) s.changes.now s.a s.b s.on (fitted_by c.in_ok-check_state.ensures refl) c.if-changes-n.false
    c.in_err-touching.ensures.answer (number_some c.in_err-touching.field-0.0)

pub returns : goal.returns
returns c =
    let s = c.args in
    let es = s.edges.now in
    let t = c.in_ok-touching.touching in
    let count = c.if-changes-n.false in
    let ready = c.in_ok-touching.ensures.ready in
    edit_accepted (state es s.figures.now s.marks.now) s.changes.now s.a s.b s.on (fitted_by c.in_ok-check_state.ensures refl) count
    c.in_ok-touching.ensures.answer refl
    (changes_are ready (c.put_each.ensures
    ∙ ap (λ l. change_each (edge (with_edge es s.a s.b true)) (length s.figures.now) s.a s.b s.on t.nodes l t.count)
    (c.fill.ensures.after (λ y e. e) ∙ ap (λ m. replicate m (pos 0)) count)))
