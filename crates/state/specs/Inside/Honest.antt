-- Honest figures, as every accepted call leaves them. Assumes nothing.
use Rattle.std.specs.Prelude.{false, List, ◌≡◌, ◌<◌, ℕ, ◌≤◌, get_or, length}
use Rattle.state.specs.Marks.{stale}

-- A settled figure is the score, and no figure is below it; `truth` is the score.
pub record Honest (truth : ℕ → ℕ) (figures marks : List ℕ) : Type 0 where
  pub settled : (p : ℕ) → p < length figures → stale marks p ≡ false → get_or figures p 0 ≡ truth p
  pub above : (p : ℕ) → p < length figures → truth p ≤ get_or figures p 0
