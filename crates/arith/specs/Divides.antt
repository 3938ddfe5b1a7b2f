-- The least common multiple of 1 .. n. Assumes nothing.
use Rattle.std.specs.Prelude.{ℕ, ◌≤◌, ◌<◌}
use Rattle.std.specs.Int.{◌∣◌}

-- each of 1 .. n divides m
abbrev pub Multiple : ℕ → ℕ → Type 0
Multiple n m = (d : ℕ) → 1 ≤ d → d ≤ n → d ∣ m

-- m is a common multiple and not 0, and each common multiple is a multiple of m
pub record LeastCommonMultiple (n m : ℕ) : Type 0 where
  pub positive : 0 < m
  pub common : Multiple n m
  pub least : (k : ℕ) → Multiple n k → m ∣ k
