-- What a list and a concatenation have, and lists that have no element twice. Assumes nothing.
use mathlib.Core.Bool.{Bool, or-true, true, true≢false}
use mathlib.Core.List.Memᴰ
use mathlib.Core.List.{◌++◌, [], List, Memᴰ, map, ◌∷◌}
use mathlib.Core.Logic.{inl, inr}
use mathlib.Core.Path.{ap, fun_ext, refl, subst, sym, ◌≡◌}
use Prim.Native.Nat.{ℕ, ◌≤◌}
use native.Mathlib.Omega.{arith}
use borrow.Author.Tests.{eq-eqb, eqb-true}
use lib.Dec.{eqb}
use lib.ListN.{length}
use Rattle.arith.proofs.Filter.{mem_filter}
use Rattle.arith.proofs.Tests.{each, test}
use Rattle.arith.specs.Lists.{concat_map, Distinct, elem, filter, non_empty}

module _ {A B : Type 0} where
  pub concat_ext : {F F' : A → List B} (xs : List A) → ((x : A) → F x ≡ F' x) → concat_map F xs ≡ concat_map F' xs
  concat_ext xs e = ap (λ F. concat_map F xs) (fun_ext e)

  pub concat_mem : (F F' : A → List B) (xs : List A) → ((x : A) → Memᴰ x xs → F x ≡ F' x) → concat_map F xs ≡ concat_map F' xs
  concat_mem F F' [] e = refl
  concat_mem F F' (x ∷ xs) e = rw (e x (Memᴰ.head refl), concat_mem F F' xs (λ y m. e y (Memᴰ.tail m)))

module _ {A B : Type 0} (F : A → List B) where
  pub mem_concat : (xs : List A) {y : B} → Memᴰ y (concat_map F xs) → (x : A) × Memᴰ x xs × Memᴰ y (F x)
  mem_concat [] m = absurd (Memᴰ.not-nil m)
  mem_concat (x ∷ xs) {y} m =
      elim (Memᴰ.append_cases (F x) m) [
        | inl i ↦ (x, Memᴰ.head refl, i)
        | inr j ↦ let (z, a, b) = mem_concat xs j in (z, Memᴰ.tail a, b)
      ]

  pub concat_in : (xs : List A) {x : A} {y : B} → Memᴰ x xs → Memᴰ y (F x) → Memᴰ y (concat_map F xs)
  concat_in [] m i = absurd (Memᴰ.not-nil m)
  concat_in (z ∷ zs) {x} {y} m i =
      elim (Memᴰ.cases_cons m) [
        | inl e ↦ Memᴰ.append_left (concat_map F zs) (subst (λ w. Memᴰ y (F w)) e i)
        | inr j ↦ Memᴰ.append_right (F z) (concat_in zs j i)
      ]

module _ {A : Type 0} where
  pub any_mem : {x : A} {xs : List A} → Memᴰ x xs → non_empty xs ≡ true
  any_mem (Memᴰ.head e) = refl
  any_mem (Memᴰ.tail m) = refl

  pub mem_any : (xs : List A) → non_empty xs ≡ true → (x : A) × Memᴰ x xs
  mem_any [] e = absurd (true≢false (sym e))
  mem_any (x ∷ xs) e = (x, Memᴰ.head refl)

-- the test for an element
pub elem_mem : (x : ℕ) (xs : List ℕ) → elem x xs ≡ true → Memᴰ x xs
elem_mem x [] e = absurd (true≢false (sym e))
elem_mem x (y ∷ ys) e = elim (test (eqb y x)) [
  | inl t ↦ Memᴰ.head (sym (eqb-true y x t))
  | inr t ↦ Memᴰ.tail (elem_mem x ys (rw t at e))
]

pub mem_elem : {x : ℕ} {xs : List ℕ} → Memᴰ x xs → elem x xs ≡ true
mem_elem {x} (Memᴰ.head {x = y} e) = rw (eq-eqb y x (sym e))
mem_elem {x} (Memᴰ.tail {x = y} m) = rw (mem_elem m) (or-true (eqb y x))

pub mem-some {ℓ} : {A : Type ℓ} {x : A} {xs : List A} → Memᴰ x xs → 1 ≤ length xs
mem-some (Memᴰ.head e) = omega arith
mem-some (Memᴰ.tail m) = omega arith

module _ {A : Type 0} where
  pub distinct_append : (xs ys : List A) → Distinct xs → Distinct ys → ((z : A) → Memᴰ z xs → Memᴰ z ys → ⊥) → Distinct (xs ++ ys)
  distinct_append [] ys a b d = b
  distinct_append (x ∷ xs) ys a b d = (
    λ m. elim (Memᴰ.append_cases xs m) [ inl i ↦ a.0 i | inr j ↦ d x (Memᴰ.head refl) j ],
    distinct_append xs ys a.1 b (λ z i. d z (Memᴰ.tail i)),
  )

  pub distinct_filter : (f : A → Bool) (xs : List A) → Distinct xs → Distinct (filter f xs)
  distinct_filter f [] d = tt
  distinct_filter f (x ∷ xs) d =
      elim (test (f x)) [ inl e ↦ rw e (λ m. d.0 (mem_filter f xs m).0, distinct_filter f xs d.1) | inr e ↦ rw e (distinct_filter f xs d.1) ]

module _ {A B : Type 0} where
  pub distinct_map : (F : A → B) → ((x y : A) → F x ≡ F y → x ≡ y) → (xs : List A) → Distinct xs → Distinct (map F xs)
  distinct_map F inj [] d = tt
  distinct_map F inj (x ∷ xs) d =
      (λ m. let (a, i, e) = Memᴰ.of_map F xs m in d.0 (Memᴰ.cast (inj x a (sym e)) i), distinct_map F inj xs d.1)

  pub distinct_concat : (F : A → List B) → ((x : A) → Distinct (F x))
      → ((x y : A) (z : B) → Memᴰ z (F x) → Memᴰ z (F y) → x ≡ y) → (xs : List A) → Distinct xs → Distinct (concat_map F xs)
  distinct_concat F each far [] d = tt
  distinct_concat F each far (x ∷ xs) d =
      distinct_append (F x) (concat_map F xs) (each x) (distinct_concat F each far xs d.1)
      (λ z i j. let (y, a, b) = mem_concat F xs j in d.0 (Memᴰ.cast (far x y z i b) a))
