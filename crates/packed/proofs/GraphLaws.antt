-- The edges of a graph as packed bits: the bit of each pair is as in the graph, and spare bits are 0. Assumes nothing.
use mathlib.Core.Bool.{Bool, false, true, ◌&&◌}
use mathlib.Core.Logic.{inl, inr, ◌≢◌}
use mathlib.Core.Path.{ap, refl, sym, ◌∙◌, ◌≡◌}
use Prim.Native.Nat.{◌*◌, ◌<◌, ℕ, ◌≤◌}
use native.Mathlib.Decide.{dec_lt, ℕ_discrete}
use native.Mathlib.Omega.{arith}
use borrow.Author.Tests.{eq-eqb, eqb-true}
use lib.Dec.{eqb}
use lib.ListN.{length}
use Rattle.arith.proofs.Sums.{any_to_here, some_of}
use Rattle.arith.proofs.Tests.{and-true, same_test, test}
use Rattle.arith.specs.Sums.{any_to}
use Rattle.packed.proofs.BitLaws.{bit-bytes_of, bit_past, bytes_bytes_of, length-bytes_of}
use Rattle.packed.proofs.EdgeLaws.{edge_comm, edge_self, edge_two}
use Rattle.packed.proofs.PairLaws.{pair_comm, pair_inj, pair_lt, pair_onto}
use Rattle.packed.specs.Bits.{bit_at, bytes_for, bytes_of}
use Rattle.packed.specs.Edges.{edge, edges_of}
use Rattle.packed.specs.Inside.Bytes.{Bytes}
use Rattle.packed.specs.Pairs.{any_pair, pair_count, pair_index}

-- ---- a test that some pair passes

module _ (f : ℕ → ℕ → Bool) (n : ℕ) where
  pub pair_here : (a b : ℕ) → a < b → b < n → f a b ≡ true → any_pair f n ≡ true
  unfolding any_pair
  pair_here a b ha hb e = any_to_here (λ b. any_to (λ a. f a b) b) n b hb (any_to_here (λ a. f a b) b a ha e)

  pub pair_some : any_pair f n ≡ true → (a : ℕ) × (b : ℕ) × (a < b) × (b < n) × (f a b ≡ true)
  unfolding any_pair
  pair_some e =
      let second = some_of (λ b. any_to (λ a. f a b) b) n e in
      let first = some_of (λ a. f a second.at) second.at second.passes in
      (first.at, second.at, first.inside, second.inside, first.passes)

-- ---- the bits

module _ (g : ℕ → ℕ → Bool) (n : ℕ) where
  abbrev numbered : ℕ → ℕ → ℕ → Bool
  numbered i a b = eqb (pair_index a b) i && g a b

  pub length-edges_of : length (edges_of g n) ≡ bytes_for (pair_count n)
  unfolding edges_of
  length-edges_of = length-bytes_of _ (bytes_for (pair_count n))

  pub bytes_edges_of : Bytes (edges_of g n)
  unfolding edges_of
  bytes_edges_of = bytes_bytes_of _ (bytes_for (pair_count n))

  pub bit-edges_of : (i : ℕ) → i < 8 * bytes_for (pair_count n) → bit_at (edges_of g n) i ≡ any_pair (λ a b. eqb (pair_index a b) i && g a b) n
  unfolding edges_of
  bit-edges_of i h = bit-bytes_of (λ i. any_pair (numbered i) n) (bytes_for (pair_count n)) i h

  -- the number of a pair is its own
  pub pair_numbered : (a b : ℕ) → a < b → b < n → any_pair (λ c d. eqb (pair_index c d) (pair_index a b) && g c d) n ≡ g a b
  pair_numbered a b ha hb = same_test _ (g a b)
      (λ e.
      let s = pair_some (numbered (pair_index a b)) n e in
      let q = and-true (eqb (pair_index s.0 s.1) (pair_index a b)) (g s.0 s.1) s.4 in
      let p = pair_inj s.0 s.1 a b (omega (arith, s.2)) (omega arith) (eqb-true _ _ q.0) in
      let first : s.0 ≡ a = omega (arith, p.0, p.1, s.2) in
      let second : s.1 ≡ b = omega (arith, p.0, p.1, s.2) in
      sym (ap (λ c. g c s.1) first ∙ ap (g a) second) ∙ q.1)
      (λ e. pair_here (numbered (pair_index a b)) n a b ha hb (rw (eq-eqb (pair_index a b) (pair_index a b) refl, e)))

  edges_by : (f : ℕ → Bool) → ((i : ℕ) → f i ≡ any_pair (λ a b. eqb (pair_index a b) i && g a b) n) → bytes_of f (bytes_for (pair_count n)) ≡ edges_of g n
  unfolding edges_of
  edges_by f h = λ j. bytes_of (λ i. h i j) (bytes_for (pair_count n))

  -- a bit past the pairs is 0
  pub spare_edges_of : (i : ℕ) → pair_count n ≤ i → bit_at (edges_of g n) i ≡ false
  spare_edges_of i h = elim (dec_lt i (8 * bytes_for (pair_count n))) [
    | yes l ↦ elim (test (any_pair (numbered i) n)) [
      | inl e ↦
          let s = pair_some (numbered i) n e in
          let at = eqb-true (pair_index s.0 s.1) i (and-true (eqb (pair_index s.0 s.1) i) (g s.0 s.1) s.4).0 in
          absurd (omega (arith, pair_lt s.0 s.1 n (omega (arith, s.2)) (omega (arith, s.2, s.3)) s.3, at))
      | inr e ↦ bit-edges_of i l ∙ e
    ]
    | no l ↦ bit_past (edges_of g n) i (omega (arith, length-edges_of))
  ]

  -- the edges are the graph's
  edge_below : (a b : ℕ) → a < b → b < n → edge (edges_of g n) a b ≡ g a b
  edge_below a b ha hb =
      let two : a ≢ b = omega arith in
      edge_two (edges_of g n) a b two
      ∙ bit-edges_of (pair_index a b) (omega (arith, pair_lt a b n two (omega arith) hb)) ∙ pair_numbered a b ha hb

  pub edge-edges_of : ((a b : ℕ) → g a b ≡ g b a) → ((a : ℕ) → g a a ≡ false) → (a b : ℕ) → a < n → b < n → edge (edges_of g n) a b ≡ g a b
  edge-edges_of comm self a b ha hb = elim (dec_lt a b) [
    | yes l ↦ edge_below a b l hb
    | no l ↦ elim (dec_lt b a) [
      | yes k ↦ edge_comm (edges_of g n) a b ∙ edge_below b a k ha ∙ comm b a
      | no k ↦ let same : a ≡ b = omega arith in edge_self (edges_of g n) a b same ∙ sym (ap (g a) (sym same) ∙ self a)
    ]
  ]

-- ---- the bits of a graph by the numbers of its pairs

-- f i is whether the pair of number i is linked, and is false past the pairs of n nodes
pub record Numbered (g : ℕ → ℕ → Bool) (n : ℕ) (f : ℕ → Bool) : Type 0 where
  pub two : (a b : ℕ) → a ≢ b → g a b ≡ f (pair_index a b)
  pub self : (a : ℕ) → g a a ≡ false
  pub within : (i : ℕ) → f i ≡ true → i < pair_count n

module _ {g : ℕ → ℕ → Bool} {n : ℕ} {f : ℕ → Bool} (h : Numbered g n f) where
  pub numbered_comm : (a b : ℕ) → g a b ≡ g b a
  numbered_comm a b = elim (ℕ_discrete a b) [
    | yes e ↦ ap (g a) (sym e) ∙ ap (λ x. g x a) e
    | no d ↦ h.two a b d ∙ ap f (pair_comm a b) ∙ sym (h.two b a (λ e. d (sym e)))
  ]

  number_bit : (i : ℕ) → f i ≡ any_pair (λ a b. eqb (pair_index a b) i && g a b) n
  number_bit i = same_test (f i) (any_pair (numbered g n i) n)
      (λ e.
      let (a, b, ha, hb, at) = pair_onto n i (h.within i e) in
      pair_here (numbered g n i) n a b ha hb (rw (eq-eqb (pair_index a b) i at) (h.two a b (omega arith) ∙ ap f at ∙ e)))
      (λ e.
      let (a, b, ha, hb, t) = pair_some (numbered g n i) n e in
      let q = and-true (eqb (pair_index a b) i) (g a b) t in
      ap f (sym (eqb-true (pair_index a b) i q.0)) ∙ sym (h.two a b (omega (arith, ha))) ∙ q.1)

  pub edges_numbered : bytes_of f (bytes_for (pair_count n)) ≡ edges_of g n
  edges_numbered = edges_by g n f number_bit

  -- of m bytes that hold them
  pub edge_numbered : (m : ℕ) → pair_count n ≤ 8 * m → (a b : ℕ) → a < n → b < n → edge (bytes_of f m) a b ≡ g a b
  edge_numbered m room a b ha hb = elim (ℕ_discrete a b) [
    | yes e ↦ edge_self _ a b e ∙ sym (ap (g a) (sym e) ∙ h.self a)
    | no d ↦ edge_two _ a b d ∙ bit-bytes_of f m (pair_index a b) (omega (arith, pair_lt a b n d ha hb)) ∙ sym (h.two a b d)
  ]
