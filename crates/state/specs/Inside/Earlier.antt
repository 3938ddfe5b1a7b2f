-- Refusals of several pairs, as the code goes over them. Assumes nothing.
use Rattle.std.specs.Prelude.{cond, ◌≢◌, ℕ, ◌<◌, min, eqb}

-- of two refusal numbers the one that is tested first, which is the smaller; 0 is none
unfoldable pub earlier : ℕ → ℕ → ℕ
earlier x y = cond (eqb x 0) y (cond (eqb y 0) x (min x y))

-- a and b are two of n nodes
pub record TwoNodes (n a b : ℕ) : Type 0 where
  pub first : a < n
  pub second : b < n
  pub apart : a ≢ b
