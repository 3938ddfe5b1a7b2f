-- Bits packed into bytes, the most significant first: bit i is in byte i / 8, at its digit 7 - i % 8. Assumes nothing.
use Rattle.std.specs.Prelude.{Bool, true, false, not, List, ℕ, zero, suc, ◌+◌, ◌-◌, ◌*◌, ◌/◌, ◌%◌, get_or, set}
use Rattle.arith.specs.Digits.{bit_of, with_digit}
use Rattle.arith.specs.Sums.{bit, pack_to, tabulate}

-- bit i
unfoldable pub bit_at : List ℕ → ℕ → Bool
bit_at bytes i = bit_of (get_or bytes (i / 8) 0) (7 - i % 8)

-- the bytes with `on` for their bit i
unfoldable pub with_bit : List ℕ → ℕ → Bool → List ℕ
with_bit bytes i on = set bytes (i / 8) (with_digit (get_or bytes (i / 8) 0) (7 - i % 8) (bit on))

-- m bytes whose bit i is f i
unfoldable pub bytes_of : (ℕ → Bool) → ℕ → List ℕ
bytes_of f m = tabulate (λ k. pack_to (λ j. f (8 * k + (7 - j))) 8) m

-- f from, .., f (from + n - 1) as a number, the first the highest
unfoldable pub word_of : (ℕ → Bool) → ℕ → ℕ → ℕ
word_of f from zero = 0
word_of f from (suc n) = word_of f from n * 2 + bit (f (from + n))

-- the n bits from `from` on as a number, the first the highest
abbrev pub run_of : List ℕ → ℕ → ℕ → ℕ
run_of bytes from n = word_of (bit_at bytes) from n

-- how many bytes hold m bits
abbrev pub bytes_for : ℕ → ℕ
bytes_for m = (m + 7) / 8

-- one of the two holds, and not both
abbrev pub differ : Bool → Bool → Bool
differ true y = not y
differ false y = y
