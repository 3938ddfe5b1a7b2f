-- Lists of a fixed length that are filled from the front. Assumes nothing.
use Rattle.std.specs.Prelude.{List, ℕ, zero, suc, get_or, set}
use Rattle.arith.specs.Sums.{tabulate}

module _ {A : Type 0} where
  -- the list l with f 0 .. f (n - 1) for its first n elements
  unfoldable pub fill_to : (ℕ → A) → List A → ℕ → List A
  fill_to f l zero = l
  fill_to f l (suc n) = set (fill_to f l n) n (f n)

-- the first m elements of the list, and 0 in the places past its end
unfoldable pub padded : ℕ → List ℕ → List ℕ
padded m xs = tabulate (λ i. get_or xs i 0) m
