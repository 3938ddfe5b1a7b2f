-- The laws of a node's row and column: the bits of its pairs with the nodes below it follow one another, and the bit of its pair with each node
-- above it is that many bits after the one before. Assumes nothing.
use mathlib.Core.List.{List}
use mathlib.Core.Path.{ap, refl, sym, ◌∙◌, ◌≡◌}
use Prim.Native.Nat.{◌*◌, ◌+◌, ◌-◌, ◌/◌, ◌<◌, ℕ, ◌≤◌}
use native.Mathlib.Nat.{le_of_lt, max-eq_left, max-eq_right, min-eq_left, min-eq_right}
use native.Mathlib.Numerals.{add-one}
use native.Mathlib.Omega.{arith}
use lib.ListN.{length}
use Rattle.packed.proofs.EdgeLaws.{edge_two}
use Rattle.packed.proofs.PairLaws.{pairs_mono, pairs_suc, pred_square}
use Rattle.packed.proofs.RunLaws.{run_ext}
use Rattle.packed.specs.Bits.{bit_at, run_of, word_of}
use Rattle.packed.specs.Edges.{edge}
use Rattle.packed.specs.Pairs.{max_nodes, pair_count, pair_index}
use Rattle.packed.specs.Inside.Room.{Room}

-- ---- what the code computes: `(p * p - p) / 2`

pub start_is : (p : ℕ) → (p * p - p) / 2 ≡ pair_count p
unfolding pair_count
start_is p = ap (λ m. m / 2) (sym (pred_square p))

pairs_most : pair_count max_nodes ≡ 32640
unfolding pair_count
pairs_most = refl

-- no graph has more pairs
pub pairs_few : {n : ℕ} → n ≤ max_nodes → pair_count n ≤ 32640
pairs_few h = omega (arith, pairs_mono h, pairs_most)

-- ---- the row of p

pub row_few : (p : ℕ) {es : List ℕ} → Room (p + 1) es → pair_count p + p ≤ 32640
row_few p r = omega (arith, pairs_few r.few, pairs_suc p, ap pair_count (add-one p))

pub row_within : (p : ℕ) {es : List ℕ} → Room (p + 1) es → pair_count p + p ≤ 8 * length es
row_within p r = omega (arith, r.bits, pairs_suc p, ap pair_count (add-one p))

pub edge_below : (es : List ℕ) (p q : ℕ) → q < p → edge es p q ≡ bit_at es (pair_count p + q)
unfolding pair_index
edge_below es p q h = edge_two es p q (omega arith) ∙ rw (max-eq_left (le_of_lt h), min-eq_right (le_of_lt h))

-- its bits are a run
pub row_run : (es : List ℕ) (p at n : ℕ) → at + n ≤ p → run_of es (pair_count p + at) n ≡ word_of (edge es p) at n
row_run es p at n h =
    run_ext (bit_at es) (edge es p) (pair_count p + at) at n (λ k l. sym (edge_below es p (at + k) (omega arith) ∙ ap (bit_at es) (omega arith)))

-- ---- the column of p

pub edge_above : (es : List ℕ) (p q : ℕ) → p < q → edge es p q ≡ bit_at es (pair_count q + p)
unfolding pair_index
edge_above es p q h = edge_two es p q (omega arith) ∙ rw (max-eq_right (le_of_lt h), min-eq_left (le_of_lt h))

-- the bit of p and q is within the bytes
pub column_within : (n p q : ℕ) (es : List ℕ) → Room n es → p < q → q < n → (pair_count q + p) / 8 < length es
column_within n p q es r a b = omega (arith, r.bits, pairs_mono b, pairs_suc q)

-- the next bit is q bits on
pub column_more : (q p : ℕ) → pair_count q + p + q ≡ pair_count (q + 1) + p
column_more q p = omega (arith, pairs_suc q, ap pair_count (add-one q))
