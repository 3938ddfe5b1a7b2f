-- The pairs of a list. Assumes nothing.
use mathlib.Core.Bool.{◌&&◌, Bool, cond, false, not}
use mathlib.Core.List.Memᴰ
use mathlib.Core.List.{[], List, Memᴰ, map, ◌∷◌}
use mathlib.Core.Logic.{inl, inr, ◌≢◌, ◌⊎◌}
use mathlib.Core.Path.{ap, refl, sym, ◌∙◌, ◌≡◌}
use Prim.Native.Nat.{◌*◌, ◌+◌, ◌-◌, ◌<◌, suc, zero, ℕ, ◌≤◌}
use native.Mathlib.Nat.{ne_of_lt}
use native.Mathlib.Omega.{arith}
use borrow.Author.Tests.{ne_eqb}
use lib.Dec.{eqb}
use lib.ListN.{length, length-append, length-map}
use Rattle.arith.proofs.Filter.{count_miss_two, filter_in, without, without_none}
use Rattle.arith.proofs.ListSums.{sum-append, sum_cut, sum-filter, sum-map, sum_same}
use Rattle.arith.proofs.Members.{distinct_append, distinct_filter, distinct_map, mem-some}
use Rattle.arith.proofs.Range.{count_range, length_range, mem_up, range_mem, Up, up_distinct}
use Rattle.arith.proofs.Tests.{eqb_same, test}
use Rattle.arith.specs.Lists.{Distinct, filter, pairs, range, sum}
use Rattle.arith.specs.Sums.{count_to}

module _ {A : Type 0} where
  -- each two that differ are a pair, one way round
  pub pairs_in : (xs : List A) {x y : A} → Memᴰ x xs → Memᴰ y xs → x ≢ y → Memᴰ (x, y) (pairs xs) ⊎ Memᴰ (y, x) (pairs xs)
  pairs_in [] m k d = absurd (Memᴰ.not-nil m)
  pairs_in (z ∷ zs) {x} {y} m k d = go (Memᴰ.cases_cons m) (Memᴰ.cases_cons k) (λ i j. pairs_in zs i j d)
    where
      go : (x ≡ z) ⊎ Memᴰ x zs → (y ≡ z) ⊎ Memᴰ y zs → (Memᴰ x zs → Memᴰ y zs → Memᴰ (x, y) (pairs zs) ⊎ Memᴰ (y, x) (pairs zs))
          → Memᴰ (x, y) (pairs (z ∷ zs)) ⊎ Memᴰ (y, x) (pairs (z ∷ zs))
      go (inl p) (inl q) r = absurd (d (p ∙ sym q))
      go (inl p) (inr j) r = inl (Memᴰ.append_left (pairs zs) (Memᴰ.cast (λ t. (p t, y)) (Memᴰ.map (λ (w : A). (z, w)) j)))
      go (inr i) (inl q) r = inr (Memᴰ.append_left (pairs zs) (Memᴰ.cast (λ t. (q t, x)) (Memᴰ.map (λ (w : A). (z, w)) i)))
      go (inr i) (inr j) r = elim (r i j) [
        | inl a ↦ inl (Memᴰ.append_right (map (λ w. (z, w)) zs) a)
        | inr a ↦ inr (Memᴰ.append_right (map (λ w. (z, w)) zs) a)
      ]

pub record OrderedPair (k : ℕ) (xs : List ℕ) (c : ℕ × ℕ) : Type 0 where
  pub first : Memᴰ c.0 xs
  pub second : Memᴰ c.1 xs
  pub less : c.0 < c.1
  pub two : 2 ≤ length xs

pub mem_pairs : (k : ℕ) (xs : List ℕ) {c : ℕ × ℕ} → Up k xs → Memᴰ c (pairs xs) → OrderedPair k xs c
mem_pairs k [] u m = absurd (Memᴰ.not-nil m)
mem_pairs k (x ∷ xs) {c} u m =
    elim (Memᴰ.append_cases (map (λ y. (x, y)) xs) m) [
      | inl d ↦
          let (a, i, e) = Memᴰ.of_map (λ (y : ℕ). (x, y)) xs d in
          record {
            first = Memᴰ.head (sym (ap (λ t. t.0) e));
            second = Memᴰ.tail (Memᴰ.cast (sym (ap (λ t. t.1) e)) i);
            less = omega (arith, mem_up xs u.1 i, ap (λ t. t.0) e, ap (λ t. t.1) e);
            two = omega (arith, mem-some i);
          }
      | inr d ↦ let r : OrderedPair (suc x) xs c = mem_pairs (suc x) xs u.1 d in
          record { first = Memᴰ.tail r.first; second = Memᴰ.tail r.second; less = r.less; two = omega (arith, r.two) }
    ]

-- no pair of a list that goes up stands there twice
pub pairs_distinct : (k : ℕ) (xs : List ℕ) → Up k xs → Distinct (pairs xs)
pairs_distinct k [] u = tt
pairs_distinct k (x ∷ xs) u =
    distinct_append (map (λ y. (x, y)) xs) (pairs xs) (distinct_map (λ (y : ℕ). (x, y)) (λ a b e. ap (λ t. t.1) e) xs (up_distinct (suc x) xs u.1))
    (pairs_distinct (suc x) xs u.1) (λ z i j.
    let (a, m, e) = Memᴰ.of_map (λ (y : ℕ). (x, y)) xs i in
    omega (arith, mem_up xs u.1 (mem_pairs (suc x) xs u.1 j).first, ap (λ t. t.0) e))

suc_sub_one : (d : ℕ) → suc d - 1 ≡ d
suc_sub_one d = omega arith

pairs_step : (d q : ℕ) → q * 2 ≡ d * (d - 1) → (d + q) * 2 ≡ suc d * (suc d - 1)
pairs_step zero q h = omega arith
pairs_step (suc d) q h = omega (arith, rw suc_sub_one at h, suc_sub_one (suc d), ap (λ k. suc (suc d) * k) (suc_sub_one (suc d)))

-- the number of pairs
pub pairs_twice : {A : Type 0} (xs : List A) → length (pairs xs) * 2 ≡ length xs * (length xs - 1)
pairs_twice [] = refl
pairs_twice {A} (x ∷ xs) = rw (length-append {A = A × A}, length-map {B = A × A}) (pairs_step (length xs) (length (pairs xs)) (pairs_twice xs))

-- where two of the numbers below n do not pass, at most the others do
pub count_to_miss_two : (f : ℕ → Bool) (n i j : ℕ) → i < j → j < n → f i ≡ false → f j ≡ false → count_to f n + 2 ≤ n
count_to_miss_two f n i j l h e d =
    let at = range_mem {q = i} 0 n (omega arith) (omega arith) in
    let other = range_mem {q = j} 0 n (omega arith) (omega arith) in
    let counted = count_range f n in
    let all = length_range 0 n in
    elim (pairs_in (range 0 n) at other (ne_of_lt l)) [
      | inl m ↦ omega (arith, count_miss_two f (range 0 n) m e d, counted, all)
      | inr m ↦ omega (arith, count_miss_two f (range 0 n) m d e, counted, all)
    ]

-- ---- sums over pairs

module _ {A : Type 0} (f : A × A → ℕ) where
  sum_pairs : (x : A) (xs : List A) → sum (map f (pairs (x ∷ xs))) ≡ sum (map (λ y. f (x, y)) xs) + sum (map f (pairs xs))
  sum_pairs x xs = sum-append f (map (λ (y : A). (x, y)) xs) (pairs xs) ∙ ap (λ s. s + sum (map f (pairs xs))) (sum-map f (λ (y : A). (x, y)) xs)

-- the pairs of those that pass a test are the pairs of which both pass it
module _ {A : Type 0} (f : A × A → ℕ) (q : A → Bool) where
  abbrev kept : A × A → ℕ
  kept c = cond (q c.0 && q c.1) (f c) 0

  with_first : (x : A) (xs : List A) → sum (map f (pairs (filter q xs))) ≡ sum (map kept (pairs xs))
      → sum (map f (pairs (filter q (x ∷ xs)))) ≡ sum (map (λ y. kept (x, y)) xs) + sum (map kept (pairs xs))
  with_first x xs rest = elim (test (q x)) [
    | inl e ↦ rw e (omega (arith, sum_pairs f x (filter q xs), sum-filter (λ y. f (x, y)) q xs, rest))
    | inr e ↦ rw e (omega (arith, sum_same (λ (y : A). 0) 0 xs (λ y m. refl), rest))
  ]

  pub pairs_filter : (xs : List A) → sum (map f (pairs (filter q xs))) ≡ sum (map kept (pairs xs))
  pairs_filter [] = refl
  pairs_filter (x ∷ xs) = with_first x xs (pairs_filter xs) ∙ sym (sum_pairs kept x xs)

-- where a pair gives the same both ways round: the pairs without v, and those of v with each other
module _ (f : ℕ × ℕ → ℕ) (turned : (x y : ℕ) → f (x, y) ≡ f (y, x)) where
  pub pairs_cut : (v : ℕ) (xs : List ℕ) → Distinct xs → Memᴰ v xs
      → sum (map f (pairs xs)) ≡ sum (map f (pairs (without v xs))) + sum (map (λ x. f (v, x)) (without v xs))
  pairs_cut v [] d m = absurd (Memᴰ.not-nil m)
  pairs_cut v (x ∷ xs) d m = elim (Memᴰ.cases_cons m) [
    | inl e ↦ rw (← e, eqb_same v, without_none v xs (λ i. d.0 (Memᴰ.cast (sym e) i))) (omega (arith, sum_pairs f v xs))
    | inr i ↦
        let row = sum_cut (λ y. f (x, y)) v xs d.1 i in
        let rest = pairs_cut v xs d.1 i in
        rw (ne_eqb x v (λ e. d.0 (Memᴰ.cast e i))) (omega (arith, sum_pairs f x xs, sum_pairs f x (without v xs), row, rest, turned x v))
  ]

  -- and where u and v are two: the pairs without them, that of both, and those of each with the rest
  pub pairs_cut_two : (u v : ℕ) (xs : List ℕ) → Distinct xs → Memᴰ u xs → Memᴰ v xs → u ≢ v
      → sum (map f (pairs xs)) ≡ sum (map f (pairs (without v (without u xs))))
      + (f (u, v) + (sum (map (λ x. f (u, x)) (without v (without u xs))) + sum (map (λ x. f (v, x)) (without v (without u xs)))))
  pairs_cut_two u v xs d i j apart =
      let rest = distinct_filter (λ x. not (eqb x u)) xs d in
      let m = filter_in (λ x. not (eqb x u)) xs j (ap not (ne_eqb v u (λ e. apart (sym e)))) in
      omega (arith, pairs_cut u xs d i, pairs_cut v (without u xs) rest m, sum_cut (λ x. f (u, x)) v (without u xs) rest m)
