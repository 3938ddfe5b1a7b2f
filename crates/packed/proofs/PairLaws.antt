-- The laws of the pairs' numbers: each pair of nodes below n has its own number below `pair_count n`, and each such number is a pair's. Assumes nothing.
use mathlib.Core.Bool.{and-false, false, or-false, or-true, true, ◌&&◌}
use mathlib.Core.List.{List}
use mathlib.Core.Logic.{inl, inr, ◌⊎◌, ◌≢◌}
use mathlib.Core.Path.{ap, ap₂, refl, subst, sym, ◌∙◌, ◌≡◌}
use Prim.Native.Nat.{◌*◌, ◌+◌, ◌-◌, ◌/◌, ◌<◌, max, min, suc, zero, zero-le, ℕ, ◌≤◌}
use native.Mathlib.Decide.{dec_lt, le_ind, ℕ_discrete}
use native.Mathlib.Nat.{le_of_lt, le_refl, le_trans, max_comm, max-eq_right, min_comm, min-eq_left, mul-one, mul-sub, mul-suc, suc-mul}
use native.Mathlib.Numerals.{sub-one}
use native.Mathlib.Omega.{arith}
use borrow.Author.Tests.{eq-eqb, eqb-true, ne_eqb}
use lib.Dec.{eqb}
use lib.ListN.{length}
use Rattle.arith.proofs.Tests.{and-true, same_test, test}
use Rattle.packed.specs.Pairs.{pair_count, pair_index, same_pair}
use Rattle.packed.specs.Inside.Room.{Room}

square : (n : ℕ) → n * (n - 1) + n ≡ n * n
square zero = refl
square (suc m) = rw (sub-one (suc m)) (sym (mul-suc (suc m) m))

-- one node more has a pair with each of the nodes before
pub pairs_suc : (n : ℕ) → pair_count (suc n) ≡ pair_count n + n
unfolding pair_count
pairs_suc n = rw (sub-one (suc n), suc-mul n n) (omega (arith, square n))

pairs_zero : pair_count 0 ≡ 0
unfolding pair_count
pairs_zero = refl

pub pairs_mono : {m n : ℕ} → m ≤ n → pair_count m ≤ pair_count n
pairs_mono {m} {n} h = le_ind (λ (k : ℕ). pair_count m ≤ pair_count k) (le_refl (pair_count m)) (λ k l ih. omega (arith, pairs_suc k)) n h

-- the pair of a and b has a number below the count of the pairs
pub pair_lt : (a b n : ℕ) → a ≢ b → a < n → b < n → pair_index a b < pair_count n
unfolding pair_index
pair_lt a b n d ha hb =
    let h : suc (max a b) ≤ n = omega arith in
    omega (arith, pairs_mono h, pairs_suc (max a b))

-- which is its own
pub pair_inj : (a b c d : ℕ) → a ≢ b → c ≢ d → pair_index a b ≡ pair_index c d → (max a b ≡ max c d) × (min a b ≡ min c d)
unfolding pair_index
pair_inj a b c d p q e = elim (dec_lt (max a b) (max c d)) [
  | yes h ↦ absurd (omega (arith, pairs_mono h, pairs_suc (max a b)))
  | no g ↦ elim (dec_lt (max c d) (max a b)) [
    | yes h ↦ absurd (omega (arith, pairs_mono h, pairs_suc (max c d)))
    | no h ↦ let t : max a b ≡ max c d = omega arith in (t, omega (arith, ap pair_count t))
  ]
]

pub pair_comm : (a b : ℕ) → pair_index a b ≡ pair_index b a
unfolding pair_index
pair_comm a b = ap₂ (λ (x y : ℕ). pair_count x + y) (max_comm a b) (min_comm a b)

pub pair_less : (a b : ℕ) → a < b → pair_index a b ≡ pair_count b + a
unfolding pair_index
pair_less a b h = rw (max-eq_right (le_of_lt h), min-eq_left (le_of_lt h))

-- the bit of a pair is within the bytes
pub pair_within : (a b n : ℕ) → a ≢ b → pair_count (max a b + 1) ≤ 8 * n → pair_index a b / 8 < n
pair_within a b n d h = omega (arith, pair_lt a b (max a b + 1) d (omega arith) (omega arith))

-- room for n nodes is room for fewer
pub room_mono : {m n : ℕ} {edges : List ℕ} → m ≤ n → Room n edges → Room m edges
room_mono h r = record { few = omega (arith, r.few); bits = le_trans (pairs_mono h) r.bits }

pub room_within : (a b n : ℕ) (edges : List ℕ) → a < n → b < n → Room n edges → Room (max a b + 1) edges
room_within a b n edges ha hb r = room_mono (omega arith) r

-- the bit of a pair is within the bytes that have room for its second node
pub pair_room : (a b : ℕ) (edges : List ℕ) → a < b → Room (b + 1) edges → pair_index a b / 8 < length edges
pair_room a b edges h r =
    pair_within a b (length edges) (omega arith) (subst (λ m. pair_count (m + 1) ≤ 8 * length edges) (sym (max-eq_right (le_of_lt h))) r.bits)

-- each number below `pair_count n` is that of a pair
pub pair_onto : (n i : ℕ) → i < pair_count n → (a : ℕ) × (b : ℕ) × (a < b) × (b < n) × (pair_index a b ≡ i)
unfolding pair_index
pair_onto zero i h = absurd (omega (arith, pairs_zero))
pair_onto (suc n) i h = elim (dec_lt i (pair_count n)) [
  | yes l ↦ let r = pair_onto n i l in (r.0, r.1, r.2, omega (arith, r.3), r.4)
  | no g ↦ let l : i - pair_count n < n = omega (arith, pairs_suc n) in
      (i - pair_count n, n, l, omega arith, rw (max-eq_right (le_of_lt l), min-eq_left (le_of_lt l)) (omega arith))
]

-- ---- the same pair, in either order

other_of : (x y a b : ℕ) → max x y ≡ max a b → min x y ≡ min a b → x ≡ a → y ≡ b
other_of x y a b p q e = omega arith

crossed : (x y a b : ℕ) → max x y ≡ max a b → min x y ≡ min a b → x ≢ a → (x ≡ b) × (y ≡ a)
crossed x y a b p q d = (omega arith, omega arith)

module _ (x y a b : ℕ) where
  pub same_first : x ≢ y → x ≡ a → eqb y b ≡ same_pair x y a b
  unfolding same_pair
  same_first d e = sym (rw (eq-eqb x a e, ne_eqb y a (λ q. d (e ∙ sym q)), and-false (eqb x b)) (or-false (eqb y b)))

  pub same_neither : x ≢ a → x ≢ b → false ≡ same_pair x y a b
  unfolding same_pair
  same_neither d e = sym (rw (ne_eqb x a d, ne_eqb x b e))

  same_of : same_pair x y a b ≡ true → ((x ≡ a) × (y ≡ b)) ⊎ ((x ≡ b) × (y ≡ a))
  unfolding same_pair
  same_of e = elim (test (eqb x a && eqb y b)) [
    | inl t ↦ let p = and-true (eqb x a) (eqb y b) t in inl (eqb-true x a p.0, eqb-true y b p.1)
    | inr t ↦ let p = and-true (eqb x b) (eqb y a) (rw t at e) in inr (eqb-true x b p.0, eqb-true y a p.1)
  ]

  same_by : ((x ≡ a) × (y ≡ b)) ⊎ ((x ≡ b) × (y ≡ a)) → same_pair x y a b ≡ true
  unfolding same_pair
  same_by (inl (p, q)) = rw (eq-eqb x a p, eq-eqb y b q)
  same_by (inr (p, q)) = rw (eq-eqb x b p, eq-eqb y a q) (or-true (eqb x a && eqb y b))

  same_forth : same_pair x y a b ≡ true → pair_index x y ≡ pair_index a b
  same_forth e = elim (same_of e) [
    | inl (p, q) ↦ ap₂ pair_index p q
    | inr (p, q) ↦ ap₂ pair_index p q ∙ pair_comm b a
  ]

  same_back : x ≢ y → a ≢ b → pair_index x y ≡ pair_index a b → same_pair x y a b ≡ true
  same_back d two e =
      let p = pair_inj x y a b d two e in
      elim (ℕ_discrete x a) [
        | yes q ↦ same_by (inl (q, other_of x y a b p.0 p.1 q))
        | no q ↦ same_by (inr (crossed x y a b p.0 p.1 q))
      ]

  -- two pairs are the same exactly if their numbers are
  pub same_number : x ≢ y → a ≢ b → same_pair x y a b ≡ eqb (pair_index x y) (pair_index a b)
  same_number d two =
      same_test (same_pair x y a b) (eqb (pair_index x y) (pair_index a b)) (λ e. eq-eqb (pair_index x y) (pair_index a b) (same_forth e))
      (λ e. same_back d two (eqb-true (pair_index x y) (pair_index a b) e))

-- no post is a pair with itself
pub same_self : (x y a : ℕ) → x ≢ y → same_pair x y a a ≡ false
same_self x y a d = elim (ℕ_discrete x a) [
  | yes e ↦ sym (same_first x y a a d e) ∙ ne_eqb y a (λ q. d (e ∙ sym q))
  | no e ↦ sym (same_neither x y a a e e)
]

pub same_trans : (x y c d a b : ℕ) → same_pair x y c d ≡ true → same_pair c d a b ≡ true → same_pair x y a b ≡ true
same_trans x y c d a b e f = same_by x y a b (join (same_of x y c d e) (same_of c d a b f))
  where
    join : ((x ≡ c) × (y ≡ d)) ⊎ ((x ≡ d) × (y ≡ c)) → ((c ≡ a) × (d ≡ b)) ⊎ ((c ≡ b) × (d ≡ a)) → ((x ≡ a) × (y ≡ b)) ⊎ ((x ≡ b) × (y ≡ a))
    join (inl (p, q)) (inl (r, s)) = inl (p ∙ r, q ∙ s)
    join (inl (p, q)) (inr (r, s)) = inr (p ∙ r, q ∙ s)
    join (inr (p, q)) (inl (r, s)) = inr (p ∙ s, q ∙ r)
    join (inr (p, q)) (inr (r, s)) = inl (p ∙ s, q ∙ r)

-- a product less one factor, as code computes it from a square
pub pred_square : (d : ℕ) → d * (d - 1) ≡ d * d - d
pred_square d = mul-sub d d 1 ∙ ap (λ x. d * d - x) (mul-one d)

pub le_square : (d : ℕ) → d ≤ d * d
le_square zero = zero-le
le_square (suc d) = omega (arith, suc-mul d (suc d))
