-- Sums over lists. Assumes nothing.
use mathlib.Core.Bool.{Bool, cond}
use mathlib.Core.List.Memᴰ
use mathlib.Core.List.{◌++◌, [], List, Memᴰ, map, ◌∷◌}
use mathlib.Core.Logic.{inl, inr}
use mathlib.Core.Path.{ap, refl, sym, ◌∙◌, ◌≡◌}
use Prim.Native.Nat.{◌*◌, ◌+◌, ◌<◌, ℕ, ◌≤◌}
use native.Mathlib.Omega.{arith}
use borrow.Author.Tests.{ne_eqb}
use lib.ListN.{length}
use Rattle.arith.proofs.Filter.{without, without_none}
use Rattle.arith.proofs.Tests.{eqb_same, test}
use Rattle.arith.specs.Lists.{count, Distinct, filter, sum}
use Rattle.arith.specs.Sums.{bit}

module _ {A : Type 0} where
  pub sum_mem : (f f' : A → ℕ) (xs : List A) → ((x : A) → Memᴰ x xs → f x ≡ f' x) → sum (map f xs) ≡ sum (map f' xs)
  sum_mem f f' [] e = refl
  sum_mem f f' (x ∷ xs) e = rw (e x (Memᴰ.head refl), sum_mem f f' xs (λ y m. e y (Memᴰ.tail m)))

  pub sum_same : (f : A → ℕ) (b : ℕ) (xs : List A) → ((x : A) → Memᴰ x xs → f x ≡ b) → sum (map f xs) ≡ b * length xs
  sum_same f b [] e = omega arith
  sum_same f b (x ∷ xs) e = omega (arith, e x (Memᴰ.head refl), sum_same f b xs (λ y m. e y (Memᴰ.tail m)))

  pub sum_most : (f : A → ℕ) (b : ℕ) (xs : List A) → ((x : A) → f x ≤ b) → sum (map f xs) ≤ b * length xs
  sum_most f b [] h = omega arith
  sum_most f b (x ∷ xs) h = omega (arith, h x, sum_most f b xs h)

  pub sum_le : (f f' : A → ℕ) (xs : List A) → ((x : A) → Memᴰ x xs → f x ≤ f' x) → sum (map f xs) ≤ sum (map f' xs)
  sum_le f f' [] h = omega arith
  sum_le f f' (x ∷ xs) h = omega (arith, h x (Memᴰ.head refl), sum_le f f' xs (λ y m. h y (Memᴰ.tail m)))

  pub sum_lt : (f f' : A → ℕ) (xs : List A) {c : A} → ((x : A) → Memᴰ x xs → f x ≤ f' x) → Memᴰ c xs → f c < f' c → sum (map f xs) < sum (map f' xs)
  sum_lt f f' [] h m s = absurd (Memᴰ.not-nil m)
  sum_lt f f' (x ∷ xs) h m s =
      elim (Memᴰ.cases_cons m) [
        | inl e ↦ omega (arith, ap f e, ap f' e, sum_le f f' xs (λ y m. h y (Memᴰ.tail m)))
        | inr i ↦ omega (arith, h x (Memᴰ.head refl), sum_lt f f' xs (λ y m. h y (Memᴰ.tail m)) i s)
      ]

pub sum-append : {A : Type 0} (f : A → ℕ) (xs ys : List A) → sum (map f (xs ++ ys)) ≡ sum (map f xs) + sum (map f ys)
sum-append f [] ys = omega arith
sum-append f (x ∷ xs) ys = omega (arith, sum-append f xs ys)

pub sum-map : {A B : Type 0} (f : B → ℕ) (F : A → B) (xs : List A) → sum (map f (map F xs)) ≡ sum (map (λ x. f (F x)) xs)
sum-map f F [] = refl
sum-map f F (x ∷ xs) = ap (λ s. f (F x) + s) (sum-map f F xs)

pub count_sum : {A : Type 0} (q : A → Bool) (xs : List A) → count q xs ≡ sum (map (λ x. bit (q x)) xs)
count_sum q [] = refl
count_sum q (x ∷ xs) = elim (test (q x)) [ inl e ↦ rw e (omega (arith, count_sum q xs)) | inr e ↦ rw e (omega (arith, count_sum q xs)) ]

-- those that pass a test give what they give, and the others nothing
pub sum-filter : {A : Type 0} (f : A → ℕ) (q : A → Bool) (xs : List A) → sum (map f (filter q xs)) ≡ sum (map (λ x. cond (q x) (f x) 0) xs)
sum-filter f q [] = refl
sum-filter f q (x ∷ xs) = elim (test (q x)) [
  | inl e ↦ rw e (omega (arith, sum-filter f q xs))
  | inr e ↦ rw e (omega (arith, sum-filter f q xs))
]

pub sum_add : {A : Type 0} (f f' : A → ℕ) (xs : List A) → sum (map (λ x. f x + f' x) xs) ≡ sum (map f xs) + sum (map f' xs)
sum_add f f' [] = refl
sum_add f f' (x ∷ xs) = omega (arith, sum_add f f' xs)

-- in a list that has v once, v gives what it gives, and the others the rest
pub sum_cut : (f : ℕ → ℕ) (v : ℕ) (xs : List ℕ) → Distinct xs → Memᴰ v xs → sum (map f xs) ≡ f v + sum (map f (without v xs))
sum_cut f v [] d m = absurd (Memᴰ.not-nil m)
sum_cut f v (x ∷ xs) d m = elim (Memᴰ.cases_cons m) [
  | inl e ↦ rw (← e, eqb_same v, without_none v xs (λ i. d.0 (Memᴰ.cast (sym e) i))) refl
  | inr i ↦ rw (ne_eqb x v (λ e. d.0 (Memᴰ.cast e i))) (omega (arith, sum_cut f v xs d.1 i))
]

pub count_cut : (q : ℕ → Bool) (v : ℕ) (xs : List ℕ) → Distinct xs → Memᴰ v xs → count q xs ≡ bit (q v) + count q (without v xs)
count_cut q v xs d m =
    count_sum q xs ∙ sum_cut (λ x. bit (q x)) v xs d m ∙ ap (λ s. bit (q v) + s) (sym (count_sum q (without v xs)))

-- where each element gives b at most, and nothing if it fails a test, the sum is at most b for each that passes; and then only is it as much if each gives that
module _ {A : Type 0} (f : A → ℕ) (b : ℕ) (q : A → Bool) where
  step : (x : A) (xs : List A) → b * bit (q x) + b * count q xs ≡ b * count q (x ∷ xs)
  step x xs = elim (test (q x)) [ inl e ↦ rw e (omega arith) | inr e ↦ rw e (omega arith) ]

  pub sum_passed : (xs : List A) → ((x : A) → Memᴰ x xs → f x ≤ b * bit (q x)) → sum (map f xs) ≤ b * count q xs
  sum_passed [] h = omega arith
  sum_passed (x ∷ xs) h = omega (arith, step x xs, h x (Memᴰ.head refl), sum_passed xs (λ y m. h y (Memᴰ.tail m)))

  pub sum_each : (xs : List A) → ((x : A) → Memᴰ x xs → f x ≡ b * bit (q x)) → sum (map f xs) ≡ b * count q xs
  sum_each [] h = omega arith
  sum_each (x ∷ xs) h = omega (arith, step x xs, h x (Memᴰ.head refl), sum_each xs (λ y m. h y (Memᴰ.tail m)))

  pub sum_full : (xs : List A) → ((x : A) → Memᴰ x xs → f x ≤ b * bit (q x)) → sum (map f xs) ≡ b * count q xs
      → (x : A) → Memᴰ x xs → f x ≡ b * bit (q x)
  sum_full [] h e y m = absurd (Memᴰ.not-nil m)
  sum_full (x ∷ xs) h e y m =
      let here = h x (Memᴰ.head refl) in
      let most = sum_passed xs (λ z i. h z (Memᴰ.tail i)) in
      elim (Memᴰ.cases_cons m) [
        | inl d ↦ ap f d ∙ omega (arith, step x xs, here, most) ∙ ap (λ z. b * bit (q z)) (sym d)
        | inr i ↦ sum_full xs (λ z i. h z (Memᴰ.tail i)) (omega (arith, step x xs, here, most)) y i
      ]
