-- Lists. Assumes nothing.
use Rattle.std.specs.Prelude.{Bool, true, false, ◌||◌, ℕ, zero, suc, ◌+◌, eqb, length}
use mathlib.Core.List.{List, [], ◌∷◌, ◌++◌, map, Memᴰ}

module _ {A : Type 0} where
  -- x in front of the list, where the test passes
  abbrev pub cons_if : Bool → A → List A → List A
  cons_if true x xs = x ∷ xs
  cons_if false x xs = xs

  -- those that pass a test, in order
  abbrev pub filter : (A → Bool) → List A → List A
  filter f [] = []
  filter f (x ∷ xs) = cons_if (f x) x (filter f xs)

  -- how many pass a test
  abbrev pub count : (A → Bool) → List A → ℕ
  count f xs = length (filter f xs)

  -- each two elements, in the list's order
  abbrev pub pairs : List A → List (A × A)
  pairs [] = []
  pairs (x ∷ xs) = map (λ (y : A). (x, y)) xs ++ pairs xs

  -- no element stands there twice
  abbrev pub Distinct : List A → Type 0
  Distinct [] = Unit {0}
  Distinct (x ∷ xs) = (Memᴰ x xs → ⊥) × Distinct xs

  abbrev pub non_empty : List A → Bool
  non_empty [] = false
  non_empty (x ∷ xs) = true

module _ {A B : Type 0} where
  -- the lists that f makes of each element, one after the other
  abbrev pub concat_map : (A → List B) → List A → List B
  concat_map f [] = []
  concat_map f (x ∷ xs) = f x ++ concat_map f xs

abbrev pub sum : List ℕ → ℕ
sum [] = 0
sum (x ∷ xs) = x + sum xs

-- the n numbers from k on
abbrev pub range : ℕ → ℕ → List ℕ
range k zero = []
range k (suc n) = k ∷ range (suc k) n

-- x is an element
abbrev pub elem : ℕ → List ℕ → Bool
elem x [] = false
elem x (y ∷ ys) = eqb y x || elem x ys

-- the least of k, k + 1, .., k + m - 1 that passes the test, and k + m where none does
abbrev pub least_from : (ℕ → Bool) → ℕ → ℕ → ℕ
least_from f k zero = k
least_from f k (suc m) = elim (f k) [ true ↦ k | false ↦ least_from f (suc k) m ]
