-- `state::sizes::check_edges` meets its contract. Assumes nothing.
use Rattle.std.proofs.Common.{arith, [], refl, sym, ◌∙◌}
use Rattle.state.proofs.AnswerLaws.{refused_on}
use Rattle.state.proofs.RefusalLaws.{count_rest, counted_by, passed_length, refusal_none, refused_length}
use Rattle.state.specs.Sizes.{edge_bytes}
use Rattle.state.proofs.sizes.check_edges.Goals as goal

pub returns-in_err-check_count : goal.returns-in_err-check_count
returns-in_err-check_count c = refused_on _ _ _ _ c.from_residual.ensures.1 c.in_err-check_count.ensures

pub edge_bytes-requires : goal.edge_bytes-requires
edge_bytes-requires c = (counted_by _ c.in_ok-check_count.ensures refl).1

pub returns-then-edges-edge_bytes : goal.returns-then-edges-edge_bytes
returns-then-edges-edge_bytes c =
    sym (count_rest _ c.in_ok-check_count.ensures refl _ ∙ refused_length [] (edge_bytes c.args.n) c.args.edges (λ e. omega (arith, c.edge_bytes.ensures)))

pub returns : goal.returns
returns c =
    sym (count_rest _ c.in_ok-check_count.ensures refl _ ∙ passed_length [] (edge_bytes c.args.n) c.args.edges (omega (arith, c.edge_bytes.ensures)) ∙ refusal_none)
