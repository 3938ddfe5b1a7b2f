-- The state that the list ends in where the figures are honest. Assumes nothing.
use Rattle.std.specs.Prelude.{◌&&◌, cond, not, List, ◌≡◌, ◌<◌, ℕ, get_or, length, take}
use Rattle.arith.specs.Sums.{count_to}
use Rattle.state.specs.Marks.{stale}
use Rattle.topk.specs.Steps.{Progress}
use Rattle.topk.specs.Ranking.{ranking, works_out}

-- The first k of all nodes; as many recomputed as `works_out` holds of; exactly those settled, each to its score.
pub record Right (truth : ℕ → ℕ) (figures marks : List ℕ) (k : ℕ) (s : Progress) : Type 0 where
  pub kept : s.kept ≡ take k (ranking truth (length figures))
  pub recomputed : s.recomputed ≡ count_to (works_out figures marks s.kept) (length figures)
  pub figures_are : (p : ℕ) → p < length figures → get_or s.figures p 0 ≡ cond (works_out figures marks s.kept p) (truth p) (get_or figures p 0)
  pub marks_are : (p : ℕ) → p < length figures → stale s.marks p ≡ stale marks p && not (works_out figures marks s.kept p)
