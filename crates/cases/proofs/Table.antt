-- A case of the table by one computed test. Assumes nothing.
use mathlib.Core.Bool.{◌&&◌, Bool, true}
use mathlib.Core.List.{[], ◌∷◌}
use mathlib.Core.Path.{◌≡◌}
use lib.Dec.{eqb}
use lib.ListN.{replicate}
use Rattle.arith.proofs.Tests.{and-true}
use Rattle.arith.specs.Sums.{tabulate}
use Rattle.cases.proofs.Reflect.{lists, numbers, same_lists}
use Rattle.cases.specs.Cases.{Case, last_answer, Meets, state_reached, unclean}
use Rattle.ego.specs.Score.{score}
use Rattle.history.specs.Model.{clear}
use Rattle.state.specs.State.{graph}
use Rattle.topk.specs.List.{list_call}

unfoldable pub test_of : Case → Bool
test_of c =
    eqb (last_answer (unclean c.nodes) (clear ∷ c.calls)) c.answer
    && (same_lists eqb (state_reached c).edges c.edges
    && (same_lists eqb (tabulate (score (graph (state_reached c)) c.nodes) c.nodes) c.scores
    && same_lists eqb (list_call (state_reached c) (9 ∷ 9 ∷ []) (replicate c.nodes 9)).entries c.top))

pub met : (c : Case) → test_of c ≡ true → Meets c
unfolding test_of
met c t =
    let z = and-true (eqb (last_answer (unclean c.nodes) (clear ∷ c.calls)) c.answer) _ t in
    let a = and-true (same_lists eqb (state_reached c).edges c.edges) _ z.1 in
    let b = and-true (same_lists eqb (tabulate (score (graph (state_reached c)) c.nodes) c.nodes) c.scores) _ a.1 in
    record {
      answer_is = (numbers _ _).holds z.0;
      edges_are = (lists eqb numbers _ _).holds a.0;
      scores_are = (lists eqb numbers _ _).holds b.0;
      top_is = (lists eqb numbers _ _).holds b.1;
    }
