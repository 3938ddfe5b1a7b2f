-- The preview of an add and of a remove: the change of each node's score, with nothing done. Assumes nothing.
use Rattle.std.specs.Prelude.{cond, false, true, List, [], ◌∷◌, ◌++◌, ℕ, eqb, ℤ, pos, ◌-ℤ◌, length}
use Rattle.arith.specs.Sums.{tabulate}
use Rattle.ego.specs.Change.{with_pair}
use Rattle.ego.specs.Graph.{Graph}
use Rattle.ego.specs.Score.{score}
use Rattle.state.specs.Outcome.{lengths}
use Rattle.state.specs.Refusal.{Condition, buffer_length, refusal}
use Rattle.state.specs.State.{State, graph, size}
use Rattle.edits.specs.Edit.{add_conditions, remove_conditions}

-- the refusal number, and the signed numbers as the call leaves them
pub record Previewed : Type 0 where
  pub refusal : ℕ
  pub changes : List ℤ

abbrev pub previewed : ℕ → List ℤ → Previewed
previewed refusal changes = record { refusal = refusal; changes = changes }

-- The signed change of each node's score from a graph to another, each score worked afresh.
unfoldable pub score_changes : Graph → Graph → ℕ → List ℤ
score_changes g g' n = tabulate (λ p. pos (score g' n p) -ℤ pos (score g n p)) n

-- 1 and 2 of the state, and 2 for another count of signed numbers than n.
unfoldable pub preview_lengths : State → List ℤ → List Condition
preview_lengths s changes = lengths s ++ buffer_length (size s) (length changes) ∷ []

-- A preview that is accepted leaves `after`; one that is refused leaves the numbers as they were.
unfoldable pub preview_outcome : List Condition → List ℤ → List ℤ → Previewed
preview_outcome conditions before after = let r = refusal conditions in previewed r (cond (eqb r 0) after before)

-- Preview of an add: the refusals are the add's.
unfoldable pub preview_add_call : State → List ℤ → ℕ → ℕ → Previewed
preview_add_call s changes a b =
    let g = graph s in
    let g' = with_pair g a b true in
    preview_outcome (preview_lengths s changes ++ add_conditions (size s) g g' a b) changes (score_changes g g' (size s))

-- Preview of a remove: the refusals are the remove's.
unfoldable pub preview_remove_call : State → List ℤ → ℕ → ℕ → Previewed
preview_remove_call s changes a b =
    let g = graph s in
    let g' = with_pair g a b false in
    preview_outcome (preview_lengths s changes ++ remove_conditions (size s) g a b) changes (score_changes g g' (size s))
