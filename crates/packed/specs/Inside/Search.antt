-- What a search answers, and the words that it looks at. Assumes nothing.
use Rattle.std.specs.Prelude.{Bool, true, false, not, List, Option, Some, None, ◌≡◌, ℕ, ◌+◌, ◌-◌, ◌*◌, ◌≤◌, ◌<◌, eqb}
use Rattle.arith.specs.Digits.{bit_of}
use Rattle.packed.specs.Bits.{run_of}

-- r is the first number from `from` on that passes the test, and `to` where none below `to` does
pub record FirstFrom (test : ℕ → Bool) (from to r : ℕ) : Type 0 where
  pub start : from ≤ r
  pub stop : r ≤ to
  pub none : (i : ℕ) → from ≤ i → i < r → test i ≡ false
  pub some : r < to → test r ≡ true

-- the first number from `from` on that passes the test, of those below `to`
abbrev pub FirstIn : (ℕ → Bool) → ℕ → ℕ → Option ℕ → Type 0
FirstIn test from to (Some i) = FirstFrom test from to i × (i < to)
FirstIn test from to None = FirstFrom test from to to

-- a word has the 64 bits of a test from byte k on
abbrev pub WordHas : (ℕ → Bool) → ℕ → ℕ → Type 0
WordHas test k word = (j : ℕ) → j < 64 → test (8 * k + j) ≡ bit_of word (63 - j)

-- the word of eight bytes that is m words after byte `from` is another in x than in y
unfoldable pub other_word : List ℕ → List ℕ → ℕ → ℕ → Bool
other_word x y from m = not (eqb (run_of x (8 * (from + 8 * m)) 64) (run_of y (8 * (from + 8 * m)) 64))
