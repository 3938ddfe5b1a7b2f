-- `state::sizes::check_state` meets its contract. Assumes nothing.
use Rattle.std.proofs.Common.{arith, [], refl, sym, ◌∙◌}
use Rattle.state.proofs.AnswerLaws.{refused_on}
use Rattle.state.proofs.RefusalLaws.{passed_length, refusal_none, refused_length, sized-append, sized_by}
use Rattle.state.specs.Marks.{mark_bytes}
use Rattle.state.proofs.sizes.check_state.Goals as goal

pub returns-in_err-check_edges : goal.returns-in_err-check_edges
returns-in_err-check_edges c = refused_on _ _ _ _ c.from_residual.ensures.1 c.in_err-check_edges.ensures

pub mark_bytes-requires : goal.mark_bytes-requires
mark_bytes-requires c = (sized_by c.in_ok-check_edges.ensures refl).few

pub returns-then-marks-mark_bytes : goal.returns-then-marks-mark_bytes
returns-then-marks-mark_bytes c =
    sym (sized-append _ _ _ (sized_by c.in_ok-check_edges.ensures refl)
    ∙ refused_length [] (mark_bytes c.args.n) c.args.marks (λ e. omega (arith, c.mark_bytes.ensures)))

pub returns : goal.returns
returns c =
    sym (sized-append _ _ _ (sized_by c.in_ok-check_edges.ensures refl)
    ∙ passed_length [] (mark_bytes c.args.n) c.args.marks (omega (arith, c.mark_bytes.ensures)) ∙ refusal_none)
