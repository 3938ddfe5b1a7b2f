-- `edits::examined::examine` meets its contract. Assumes nothing.
use mathlib.Core.List.{[]}
use mathlib.Core.Path.{sym, ◌∙◌}
use Rattle.packed.specs.Edges.{edge}
use Rattle.state.proofs.AnswerLaws.{refused_by}
use Rattle.edits.proofs.ExamineLaws.{examines_refused}
use Rattle.edits.proofs.NamedLaws.{pair_accepted, pair_passed}
use Rattle.edits.specs.Inside.Change.{crowding, pair_conditions}
use Rattle.edits.proofs.examined.examine.Goals as goal

pub returns-in_err-check_edge : goal.returns-in_err-check_edge
returns-in_err-check_edge c =
    let s = c.args in
    let why = c.in_err-check_edge.field-0.0 in
    examines_refused c.from_residual.result why
    (refused_by (pair_conditions s.n (edge s.edges.now) s.a s.b s.on) _ why c.in_err-check_edge.ensures)
    c.from_residual.ensures.1

pub examine_degrees-requires : goal.examine_degrees-requires
examine_degrees-requires c =
    let p = pair_accepted _ _ _ _ c.args.on [] (sym c.in_ok-check_edge.ensures) in
    record { first_below = p.first; second_below = p.second; apart = p.two; was = p.was; room = c.requires }

pub returns : goal.returns
returns c =
    let s = c.args in
    let g = edge s.edges.now in
    let p = pair_accepted _ _ _ _ s.on [] (sym c.in_ok-check_edge.ensures) in
    record {
      answer = c.examine_degrees.ensures.answer ∙ sym (pair_passed s.n g s.a s.b s.on (crowding s.edges.now s.n s.a s.b s.on) p);
      ready = c.examine_degrees.ensures.ready;
    }
