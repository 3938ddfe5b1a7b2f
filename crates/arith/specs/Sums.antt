-- Sums, counts, packed numbers and lists over the numbers below n. Each recurses on n, as a loop over 0..n runs. Assumes nothing.
use Rattle.std.specs.Prelude.{Bool, true, false, ◌||◌, List, [], ◌∷◌, ◌++◌, ℕ, zero, suc, ◌+◌, ◌*◌, ◌^◌}

-- f 0 + .. + f (n - 1)
unfoldable pub sum_to : (ℕ → ℕ) → ℕ → ℕ
sum_to f zero = 0
sum_to f (suc n) = sum_to f n + f n

-- the number that stands for a test
abbrev pub bit : Bool → ℕ
bit true = 1
bit false = 0

-- how many numbers below n pass a test
abbrev pub count_to : (ℕ → Bool) → ℕ → ℕ
count_to p n = sum_to (λ k. bit (p k)) n

-- the number whose binary digit k is p k, for k below n, and that has no other
abbrev pub pack_to : (ℕ → Bool) → ℕ → ℕ
pack_to p n = sum_to (λ k. bit (p k) * 2 ^ k) n

-- some number below n passes a test
unfoldable pub any_to : (ℕ → Bool) → ℕ → Bool
any_to p zero = false
any_to p (suc n) = any_to p n || p n

module _ {A : Type 0} where
  -- f 0, .., f (n - 1)
  unfoldable pub tabulate : (ℕ → A) → ℕ → List A
  tabulate f zero = []
  tabulate f (suc n) = tabulate f n ++ f n ∷ []
