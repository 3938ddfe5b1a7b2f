-- Two lists that have the same elements, each once, have the same sums, counts and lengths. Assumes nothing.
use mathlib.Core.Bool.{Bool}
use mathlib.Core.List.Memᴰ
use mathlib.Core.List.{◌++◌, [], List, Memᴰ, map, ◌∷◌}
use mathlib.Core.Logic.{inl, inr, ◌↔◌}
use mathlib.Core.Path.{ap, refl, sym, ◌∙◌, ◌≡◌}
use Prim.Native.Nat.{ℕ, ◌≤◌}
use native.Mathlib.Nat.{le_antisymm}
use native.Mathlib.Omega.{arith}
use lib.ListN.{length}
use Rattle.arith.proofs.ListSums.{count_sum, sum-append, sum_same}
use Rattle.arith.specs.Lists.{count, Distinct, sum}
use Rattle.arith.specs.Sums.{bit}

module _ {A : Type 0} where
  -- where an element stands
  split : (ys : List A) {x : A} → Memᴰ x ys → (us : List A) × (vs : List A) × (ys ≡ us ++ x ∷ vs)
  split [] m = absurd (Memᴰ.not-nil m)
  split (y ∷ ys) {x} m = elim (Memᴰ.cases_cons m) [
    | inl e ↦ ([], ys, ap (λ z. z ∷ ys) (sym e))
    | inr i ↦ let (us, vs, q) = split ys i in (y ∷ us, vs, ap (λ l. y ∷ l) q)
  ]

  others : (us vs : List A) {x z : A} → (z ≡ x → ⊥) → Memᴰ z (us ++ x ∷ vs) → Memᴰ z (us ++ vs)
  others us vs d m = elim (Memᴰ.append_cases us m) [
    | inl i ↦ Memᴰ.append_left vs i
    | inr j ↦ elim (Memᴰ.cases_cons j) [ inl e ↦ absurd (d e) | inr k ↦ Memᴰ.append_right us k ]
  ]

  module _ (f : A → ℕ) where
    sum_within : (xs ys : List A) → Distinct xs → ((z : A) → Memᴰ z xs → Memᴰ z ys) → sum (map f xs) ≤ sum (map f ys)
    sum_within [] ys d h = omega arith
    sum_within (x ∷ xs) ys d h =
        let (us, vs, e) = split ys (h x (Memᴰ.head refl)) in
        let rest = sum_within xs (us ++ vs) d.1 (λ z m. others us vs (λ q. d.0 (Memᴰ.cast (sym q) m)) (rw e at (h z (Memᴰ.tail m)))) in
        rw e (omega (arith, rest, sum-append f us vs, sum-append f us (x ∷ vs)))

  module _ (xs ys : List A) (d : Distinct xs) (e : Distinct ys) (same : (z : A) → Memᴰ z xs ↔ Memᴰ z ys) where
    pub same_sum : (f : A → ℕ) → sum (map f xs) ≡ sum (map f ys)
    same_sum f = le_antisymm (sum_within f xs ys d (λ z. (same z).0)) (sum_within f ys xs e (λ z. (same z).1))

    pub same_count : (q : A → Bool) → count q xs ≡ count q ys
    same_count q = count_sum q xs ∙ same_sum (λ z. bit (q z)) ∙ sym (count_sum q ys)

    pub same_length : length xs ≡ length ys
    same_length = omega (arith, same_sum (λ z. 1), sum_same (λ z. 1) 1 xs (λ z m. refl), sum_same (λ z. 1) 1 ys (λ z m. refl))
