-- The binary digits of a number; digit 0 is the lowest. Assumes nothing.
use Rattle.std.specs.Prelude.{Bool, ℕ, ◌+◌, ◌*◌, ◌/◌, ◌%◌, ◌^◌, eqb}

unfoldable pub digit : ℕ → ℕ → ℕ
digit x k = x / 2 ^ k % 2

-- digit k is 1
unfoldable pub bit_of : ℕ → ℕ → Bool
bit_of x k = eqb (digit x k) 1

-- x with v for its digit k: the digits above k, then v, then the k digits below
unfoldable pub with_digit : ℕ → ℕ → ℕ → ℕ
with_digit x k v = (x / 2 ^ k / 2 * 2 + v) * 2 ^ k + x % 2 ^ k
