-- The pairs below n in the order of their bits. Assumes nothing.
use mathlib.Core.Bool.{Bool, false, true}
use mathlib.Core.List.{◌++◌, [], append_assoc, List, map, map-append, ◌∷◌}
use mathlib.Core.Path.{ap, ap₂, refl, sym, ◌∙◌, ◌≡◌}
use Prim.Native.Nat.{◌+◌, ◌<◌, suc, zero, zero-le, ℕ, ◌≤◌}
use native.Mathlib.Decide.{ℕ_discrete}
use native.Mathlib.Nat.{add-suc, add-zero, le_refl, zero-add}
use native.Mathlib.Omega.{arith}
use Rattle.arith.proofs.Filter.{filter-append}
use Rattle.arith.proofs.Range.{range-append, range_last}
use Rattle.arith.specs.Lists.{filter, range}
use Rattle.merge.specs.Single.{pairs_below}
use Rattle.packed.proofs.PairLaws.{pair_less, pairs_mono, pairs_suc}
use Rattle.packed.specs.Pairs.{pair_count, pair_index}

-- the pairs of b with the nodes below a
abbrev pub row_below : ℕ → ℕ → List (ℕ × ℕ)
row_below b a = map (λ (x : ℕ). (x, b)) (range 0 a)

-- one pair more
pub row_below_more : (b a : ℕ) → pairs_below b ++ row_below b (suc a) ≡ pairs_below b ++ row_below b a ++ (a, b) ∷ []
row_below_more b a =
    ap (λ xs. pairs_below b ++ map (λ (x : ℕ). (x, b)) xs) (range_last 0 a ∙ ap (λ x. range 0 a ++ x ∷ []) (zero-add a))
    ∙ ap (λ ps. pairs_below b ++ ps) (map-append (λ (x : ℕ). (x, b)) (range 0 a) (a ∷ []))
    ∙ sym (append_assoc (pairs_below b) (row_below b a) ((a, b) ∷ []))

row_numbers : (b k a : ℕ) → k + a ≤ b → map (λ (c : ℕ × ℕ). pair_index c.0 c.1) (map (λ (x : ℕ). (x, b)) (range k a)) ≡ range (pair_count b + k) a
row_numbers b k zero h = refl
row_numbers b k (suc a) h =
    rw (pair_less k b (omega arith))
    (ap (λ l. (pair_count b + k) ∷ l) (row_numbers b (suc k) a (omega arith) ∙ ap (λ i. range i a) (add-suc (pair_count b) k)))

-- THE PAIRS HAVE THE NUMBERS OF THEIR BITS, from 0 on.
pub pairs_in_order : (n : ℕ) → map (λ c. pair_index c.0 c.1) (pairs_below n) ≡ range 0 (pair_count n)
unfolding pairs_below
pairs_in_order zero = unfold pair_count in refl
pairs_in_order (suc b) =
    map-append (λ c. pair_index c.0 c.1) (pairs_below b) (row_below b b)
    ∙ ap₂ (λ xs ys. xs ++ ys) (pairs_in_order b)
    (row_numbers b 0 b (omega arith) ∙ ap (λ i. range i b) (add-zero (pair_count b) ∙ sym (zero-add (pair_count b))))
    ∙ range-append 0 (pair_count b) b ∙ ap (range 0) (sym (pairs_suc b))

-- ---- the first pair that passes a test

module _ (f : ℕ → ℕ → Bool) where
  abbrev passing : List (ℕ × ℕ) → List (ℕ × ℕ)
  passing = filter (λ c. f c.0 c.1)

  row_none : (b k m : ℕ) → ((x : ℕ) → k ≤ x → x < k + m → f x b ≡ false) → passing (map (λ (x : ℕ). (x, b)) (range k m)) ≡ []
  row_none b k zero none = refl
  row_none b k (suc m) none = rw (none k (le_refl k) (omega arith)) (row_none b (suc k) m (λ x h l. none x (omega arith) (omega arith)))

  pub none_passes : (n : ℕ) → ((a b : ℕ) → a < b → b < n → f a b ≡ false) → passing (pairs_below n) ≡ []
  unfolding pairs_below
  none_passes zero none = refl
  none_passes (suc b) none =
      filter-append (λ c. f c.0 c.1) (pairs_below b) (row_below b b)
      ∙ ap₂ (λ xs ys. xs ++ ys) (none_passes b (λ x y h l. none x y h (omega arith))) (row_none b 0 b (λ x h l. none x b (omega arith) (omega arith)))

  -- some pairs of which this is the first
  abbrev First : ℕ → ℕ → List (ℕ × ℕ) → Type 0
  First a b pairs = (rest : List (ℕ × ℕ)) × (pairs ≡ (a, b) ∷ rest)

  row_first : (a b k m : ℕ) → k ≤ a → a < k + m → f a b ≡ true → ((x : ℕ) → k ≤ x → x < a → f x b ≡ false)
      → First a b (passing (map (λ (x : ℕ). (x, b)) (range k m)))
  row_first a b k zero h l e none = absurd (omega arith)
  row_first a b k (suc m) h l e none = elim (ℕ_discrete k a) [
    | yes q ↦ rw (q, e) (_, refl)
    | no d ↦ rw (none k (le_refl k) (omega arith)) (row_first a b (suc k) m (omega arith) (omega arith) e (λ x i j. none x (omega arith) j))
  ]

  -- THE FIRST THAT PASSES is the one of the lowest number.
  pub first_passes : (n a b : ℕ) → a < b → b < n → f a b ≡ true → ((c d : ℕ) → c < d → pair_count d + c < pair_count b + a → f c d ≡ false)
      → First a b (passing (pairs_below n))
  unfolding pairs_below
  first_passes zero a b h l e lower = absurd (omega arith)
  first_passes (suc m) a b h l e lower = rw (filter-append (λ c. f c.0 c.1) (pairs_below m) (row_below m m)) (elim (ℕ_discrete b m) [
    | yes q ↦ rw (none_passes m (λ c d i j. lower c d i (omega (arith, pairs_suc d, pairs_mono {m = suc d} {n = b} (omega arith)))))
        (rw (← q) (row_first a b 0 b zero-le (omega arith) e (λ x i j. lower x b (omega arith) (omega arith))))
    | no d ↦
        let r = first_passes m a b h (omega arith) e lower in
        (_, ap (λ ps. ps ++ passing (row_below m m)) r.1)
  ])

-- tests that agree on the pairs a < b < n pass the same
module _ (f g : ℕ → ℕ → Bool) where
  row_alike : (b k m : ℕ) → ((x : ℕ) → x < k + m → f x b ≡ g x b)
      → passing f (map (λ (x : ℕ). (x, b)) (range k m)) ≡ passing g (map (λ (x : ℕ). (x, b)) (range k m))
  row_alike b k zero same = refl
  row_alike b k (suc m) same = rw (same k (omega arith), row_alike b (suc k) m (λ x l. same x (omega arith)))

  pub passing_alike : (n : ℕ) → ((a b : ℕ) → a < b → b < n → f a b ≡ g a b) → passing f (pairs_below n) ≡ passing g (pairs_below n)
  unfolding pairs_below
  passing_alike zero same = refl
  passing_alike (suc b) same =
      filter-append (λ c. f c.0 c.1) (pairs_below b) (row_below b b)
      ∙ ap₂ (λ xs ys. xs ++ ys) (passing_alike b (λ x y h l. same x y h (omega arith))) (row_alike b 0 b (λ x l. same x b (omega arith) (omega arith)))
      ∙ sym (filter-append (λ c. g c.0 c.1) (pairs_below b) (row_below b b))
