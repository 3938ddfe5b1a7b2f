-- A preview of either kind: of an add where `on`, and of a removal elsewhere. Assumes nothing.
use Rattle.std.specs.Prelude.{Bool, cond, List, ◌++◌, ℕ, ℤ}
use Rattle.ego.specs.Change.{with_pair}
use Rattle.ego.specs.Graph.{Graph}
use Rattle.state.specs.Refusal.{Condition}
use Rattle.state.specs.State.{State, graph, size}
use Rattle.edits.specs.Edit.{add_conditions, remove_conditions}
use Rattle.preview.specs.Preview.{Previewed, preview_lengths, preview_outcome, score_changes}

abbrev pub edit_conditions : ℕ → Graph → ℕ → ℕ → Bool → List Condition
edit_conditions n g a b on = cond on (add_conditions n g (with_pair g a b on) a b) (remove_conditions n g a b)

abbrev pub preview_call : State → List ℤ → ℕ → ℕ → Bool → Previewed
preview_call s changes a b on =
    let g = graph s in
    preview_outcome (preview_lengths s changes ++ edit_conditions (size s) g a b on) changes (score_changes g (with_pair g a b on) (size s))
