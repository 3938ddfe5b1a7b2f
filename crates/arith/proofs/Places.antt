-- Sums over a list, and over its pairs, and what a list has, by the elements' places. Assumes nothing.
use mathlib.Core.Path.{◌≡◌, refl, sym, ap, ap₂, ◌∙◌}
use mathlib.Core.Bool.{Bool, false, true, ◌||◌}
use mathlib.Core.List.{List, [], ◌∷◌, map}
use Prim.Native.Nat.{ℕ, zero, suc, ◌+◌, ◌<◌, ◌≤◌}
use native.Mathlib.Decide.{dec_lt}
use native.Mathlib.Nat.{zero-add}
use native.Mathlib.Omega.{arith}
use lib.Dec.{eqb}
use lib.ListN.{length, get_or, length-append, get_or-append}
use lib.Seq.{get_or-append-add}
use Rattle.arith.specs.Lists.{cons_if, count, elem, filter, pairs, range, sum}
use Rattle.arith.specs.Sums.{any_to, sum_to, count_to, bit}
use Rattle.arith.proofs.ListSums.{sum-append, sum-map, count_sum}
use Rattle.arith.proofs.Range.{filter_last}
use Rattle.arith.proofs.Sums.{any_to_first, count_to_ext, sum_to_ext, sum_to_first, sum_to_add}

pub sum_places : {A : Type 0} (d : A) (f : A → ℕ) (xs : List A) → sum (map f xs) ≡ sum_to (λ i. f (get_or xs i d)) (length xs)
unfolding sum_to
sum_places d f [] = refl
sum_places d f (x ∷ xs) = ap (λ s. f x + s) (sum_places d f xs) ∙ sym (sum_to_first (λ i. f (get_or (x ∷ xs) i d)) (length xs))

pub count_places : {A : Type 0} (d : A) (p : A → Bool) (xs : List A) → count p xs ≡ count_to (λ i. p (get_or xs i d)) (length xs)
count_places d p xs = count_sum p xs ∙ sum_places d (λ x. bit (p x)) xs

pub elem_places : (x : ℕ) (xs : List ℕ) → elem x xs ≡ any_to (λ i. eqb (get_or xs i 0) x) (length xs)
unfolding any_to
elem_places x [] = refl
elem_places x (y ∷ ys) = ap (λ b. eqb y x || b) (elem_places x ys) ∙ sym (any_to_first (λ i. eqb (get_or (y ∷ ys) i 0) x) (length ys))

-- the pairs at places i < j
pub pairs_places : (d : ℕ) (f : ℕ × ℕ → ℕ) (xs : List ℕ) → sum (map f (pairs xs)) ≡ sum_to (λ j. sum_to (λ i. f (get_or xs i d, get_or xs j d)) j) (length xs)
unfolding sum_to
pairs_places d f [] = refl
pairs_places d f (x ∷ xs) =
    sum-append f (map (λ y. (x, y)) xs) (pairs xs)
    ∙ ap (λ s. s + sum (map f (pairs xs))) (sum-map f (λ (y : ℕ). (x, y)) xs ∙ sum_places d (λ y. f (x, y)) xs)
    ∙ ap (λ s. sum_to (λ j. f (x, get_or xs j d)) (length xs) + s) (pairs_places d f xs)
    ∙ sym (sum_to_add (λ j. f (x, get_or xs j d)) (λ j. sum_to (λ i. f (get_or xs i d, get_or xs j d)) j) (length xs))
    ∙ sum_to_ext _ _ (length xs) (λ j h. sym (sum_to_first (λ i. f (get_or (x ∷ xs) i d, get_or xs j d)) j))
    ∙ sym (sum_to_first (λ j. sum_to (λ i. f (get_or (x ∷ xs) i d, get_or (x ∷ xs) j d)) j) (length xs) ∙ zero-add _)

-- of the numbers that pass a test, those below the one at place j are at the places before j
pub count_before : (f q : ℕ → Bool) (n j : ℕ) → let xs = filter f (range 0 n) in j < length xs
    → count q (filter f (range 0 (get_or xs j 0))) ≡ count_to (λ i. q (get_or xs i 0)) j
count_before f q zero j h = absurd (omega arith)
count_before f q (suc n) j h =
    let xs : List ℕ = filter f (range 0 n) in
    let all = filter_last f n in
    let long = ap length all ∙ length-append xs (cons_if (f n) n []) in
    let at : (i : ℕ) → i < length xs → get_or (filter f (range 0 (suc n))) i 0 ≡ get_or xs i 0 =
    λ i l. ap (λ ys. get_or ys i 0) all ∙ get_or-append xs (cons_if (f n) n []) 0 i l in
    elim (dec_lt j (length xs)) [
      | yes l ↦ ap (λ m. count q (filter f (range 0 m))) (at j l) ∙ count_before f q n j l
          ∙ count_to_ext _ _ j (λ i b. ap q (sym (at i (omega arith))))
      | no l ↦
          let last : length (cons_if (f n) n []) ≡ 1 = omega (arith, long, one_most (f n)) in
          let end : length xs ≡ j = omega (arith, long, last) in
          let place : j ≡ length xs + 0 = omega (arith, end) in
          let here : get_or (filter f (range 0 (suc n))) j 0 ≡ n =
          ap₂ (λ ys i. get_or ys i 0) all place ∙ get_or-append-add xs (cons_if (f n) n []) 0 0 ∙ only (f n) last in
          ap (λ m. count q (filter f (range 0 m))) here ∙ count_places 0 q xs ∙ ap (count_to (λ i. q (get_or xs i 0))) end
          ∙ count_to_ext _ _ j (λ i b. ap q (sym (at i (omega arith))))
    ]
  where
    one_most : (b : Bool) → length (cons_if b n []) ≤ 1
    one_most true = omega arith
    one_most false = omega arith

    only : (b : Bool) → length (cons_if b n []) ≡ 1 → get_or (cons_if b n []) 0 0 ≡ n
    only true e = refl
    only false e = absurd (omega arith)
