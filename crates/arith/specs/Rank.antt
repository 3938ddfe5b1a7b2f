-- The order of figures with their nodes' numbers. Assumes nothing.
use Rattle.std.specs.Prelude.{ℕ, Bool, ◌&&◌, ◌||◌, ltb, eqb}

-- figure f of node p ranks before figure g of node q: it is larger, or equal and its number is lower
unfoldable pub before : ℕ → ℕ → ℕ → ℕ → Bool
before f p g q = ltb g f || (eqb f g && ltb p q)
