-- `nearest::listed::nearest_listed` meets its contract. Assumes nothing.
use Rattle.std.proofs.Common.{refl, sym, ◌∙◌}
use native.Mathlib.Nat.{lt_of_lt_of_le}
use Rattle.state.proofs.AnswerLaws.{found_refused, number_some}
use Rattle.state.proofs.RefusalLaws.{sized_by, sized_room}
use Rattle.nearest.proofs.CallLaws.{accepted, accepted_is, answered_by, as_found, crowded_refused, edges_refused, listed_inside, node_inside, nodes_refused}
use Rattle.nearest.proofs.TableLaws.{rows_crowded}
use Rattle.nearest.proofs.listed.nearest_listed.Goals as goal

-- ---- what the calls ask

pub link_rows-requires : goal.link_rows-requires
link_rows-requires c = (sized_room (sized_by c.in_ok-check_edges.ensures refl), refl)

pub any_crowded-requires : goal.any_crowded-requires
any_crowded-requires c = ((sized_by c.in_ok-check_edges.ensures refl).few, c.link_rows.ensures.table)

pub set_of-requires : goal.set_of-requires
set_of-requires c i h =
    let sizes = sized_by c.in_ok-check_edges.ensures refl in
    lt_of_lt_of_le (listed_inside c.args.edges.now c.args.n c.args.p c.args.listed.now sizes (sym c.in_ok-check_nodes.ensures) i h) sizes.few

pub search-requires : goal.search-requires
search-requires c =
    let sizes = sized_by c.in_ok-check_edges.ensures refl in (
      _,
      _,
      _,
      record {
        few = sizes.few;
        inside = node_inside c.args.edges.now c.args.n c.args.p c.args.listed.now sizes (sym c.in_ok-check_nodes.ensures);
        rows_are = c.link_rows.ensures;
        set_is = c.set_of.ensures;
      },
    )

-- ---- how it ends

pub returns-in_err-check_edges : goal.returns-in_err-check_edges
returns-in_err-check_edges c =
    answered_by _ _ _ _ _
    (found_refused _ _ c.from_residual.ensures.1 ∙ edges_refused _ _ _ _ _ c.in_err-check_edges.ensures (number_some c.in_err-check_edges.field-0.0))

pub returns-in_err-check_nodes : goal.returns-in_err-check_nodes
returns-in_err-check_nodes c =
    answered_by _ _ _ _ _
    (found_refused _ _ c.from_residual-in_err-check_nodes.ensures.1
    ∙ nodes_refused _ _ _ _ (sized_by c.in_ok-check_edges.ensures refl) _ c.in_err-check_nodes.ensures (number_some c.in_err-check_nodes.field-0.0))

pub returns-then-any_crowded : goal.returns-then-any_crowded
returns-then-any_crowded c =
    let sizes = sized_by c.in_ok-check_edges.ensures refl in
    let crowded = c.any_crowded.ensures ∙ rows_crowded _ c.args.n _ sizes.few c.link_rows.ensures in
    answered_by _ _ _ _ _ (crowded_refused _ _ _ _ sizes (sym c.in_ok-check_nodes.ensures) _ (sym crowded ∙ c.if-any_crowded.true))

pub returns : goal.returns
returns c =
    let sizes = sized_by c.in_ok-check_edges.ensures refl in
    let nodes = sym c.in_ok-check_nodes.ensures in
    let crowded = c.any_crowded.ensures ∙ rows_crowded _ c.args.n _ sizes.few c.link_rows.ensures in
    let free = accepted c.args.edges.now c.args.n c.args.p c.args.listed.now sizes nodes (sym crowded ∙ c.if-any_crowded.false) in
    answered_by _ _ _ _ _ (accepted_is _ _ _ _ _ free (as_found (c.search.ensures _ _ _ (record {
      few = sizes.few;
      inside = node_inside c.args.edges.now c.args.n c.args.p c.args.listed.now sizes nodes;
      rows_are = c.link_rows.ensures;
      set_is = c.set_of.ensures;
    }))))
