-- Clear: no links, all figures 0, all settled. Assumes nothing.
use Rattle.std.specs.Prelude.{ℕ, replicate}
use Rattle.state.specs.Sizes.{edge_bytes}
use Rattle.state.specs.Marks.{all_exact}
use Rattle.state.specs.State.{State, size}
use Rattle.state.specs.Outcome.{Outcome, outcome, lengths}

unfoldable pub cleared : ℕ → State
cleared n = record { edges = replicate (edge_bytes n) 0; figures = replicate n 0; marks = all_exact n }

unfoldable pub clear_call : State → Outcome
clear_call s = outcome (lengths s) s (cleared (size s))
