-- The laws of edges: an edge that was written is read back, every other edge is as it was, and the bytes are known by the edges and by the
-- bits past them. Assumes nothing.
use mathlib.Core.Bool.{Bool, false}
use mathlib.Core.List.{List}
use mathlib.Core.Logic.{◌≢◌}
use mathlib.Core.Path.{ap, sym, ◌∙◌, ◌≡◌}
use Prim.Native.Nat.{◌/◌, ◌<◌, max, min, ℕ, ◌≤◌}
use native.Mathlib.Decide.{dec_lt, ℕ_discrete}
use native.Mathlib.Omega.{arith}
use borrow.Author.Tests.{eq-eqb, ne_eqb}
use lib.ListN.{length}
use Rattle.packed.proofs.BitLaws.{bit_with_other, bit_with_same, length_with_bit, same_bits}
use Rattle.packed.proofs.PairLaws.{pair_comm, pair_inj, pair_lt, pair_onto}
use Rattle.packed.specs.Bits.{bit_at, with_bit}
use Rattle.packed.specs.Inside.Bytes.{Bytes}
use Rattle.packed.specs.Edges.{edge, with_edge}
use Rattle.packed.specs.Pairs.{pair_count, pair_index}

pub edge_two : (es : List ℕ) (a b : ℕ) → a ≢ b → edge es a b ≡ bit_at es (pair_index a b)
unfolding edge
edge_two es a b d = rw (ne_eqb a b d)

pub edge_self : (es : List ℕ) (a b : ℕ) → a ≡ b → edge es a b ≡ false
unfolding edge
edge_self es a b e = rw (eq-eqb a b e)

pub edge_comm : (es : List ℕ) (a b : ℕ) → edge es a b ≡ edge es b a
unfolding edge
edge_comm es a b = elim (ℕ_discrete a b) [
  | yes e ↦ rw (eq-eqb a b e, eq-eqb b a (sym e))
  | no d ↦ rw (ne_eqb a b d, ne_eqb b a (λ e. d (sym e)), pair_comm a b)
]

pub with_two : (es : List ℕ) (a b : ℕ) (on : Bool) → a ≢ b → with_edge es a b on ≡ with_bit es (pair_index a b) on
unfolding with_edge
with_two es a b on d = rw (ne_eqb a b d)

pub with_self : (es : List ℕ) (a b : ℕ) (on : Bool) → a ≡ b → with_edge es a b on ≡ es
unfolding with_edge
with_self es a b on e = rw (eq-eqb a b e)

pub with_comm : (es : List ℕ) (a b : ℕ) (on : Bool) → with_edge es a b on ≡ with_edge es b a on
unfolding with_edge
with_comm es a b on = elim (ℕ_discrete a b) [
  | yes e ↦ rw (eq-eqb a b e, eq-eqb b a (sym e))
  | no d ↦ rw (ne_eqb a b d, ne_eqb b a (λ e. d (sym e)), pair_comm a b)
]

pub length_with_edge : (es : List ℕ) (a b : ℕ) (on : Bool) → length (with_edge es a b on) ≡ length es
length_with_edge es a b on = elim (ℕ_discrete a b) [
  | yes e ↦ ap length (with_self es a b on e)
  | no d ↦ ap length (with_two es a b on d) ∙ length_with_bit es (pair_index a b) on
]

pub edge_with_same : (es : List ℕ) (a b : ℕ) (on : Bool) → a ≢ b → pair_index a b / 8 < length es → edge (with_edge es a b on) a b ≡ on
edge_with_same es a b on d h = rw (with_two es a b on d, edge_two (with_bit es (pair_index a b) on) a b d) (bit_with_same es (pair_index a b) on h)

-- c and d are no pair of a and b
pub edge_with_other : (es : List ℕ) (a b : ℕ) (on : Bool) (c d : ℕ) → (max c d ≡ max a b → min c d ≡ min a b → ⊥)
    → edge (with_edge es a b on) c d ≡ edge es c d
edge_with_other es a b on c d far = elim (ℕ_discrete a b) [
  | yes e ↦ ap (λ (l : List ℕ). edge l c d) (with_self es a b on e)
  | no n ↦ elim (ℕ_discrete c d) [
    | yes e ↦ edge_self (with_edge es a b on) c d e ∙ sym (edge_self es c d e)
    | no m ↦ rw (with_two es a b on n, edge_two (with_bit es (pair_index a b) on) c d m, edge_two es c d m)
        (bit_with_other es (pair_index a b) (pair_index c d) on (λ e. let i = pair_inj c d a b m n e in far i.0 i.1))
  ]
]

-- the bits past the pairs of n nodes are kept
pub spare_with_edge : (es : List ℕ) (a b n : ℕ) (on : Bool) → a < n → b < n → (i : ℕ) → pair_count n ≤ i → bit_at (with_edge es a b on) i ≡ bit_at es i
spare_with_edge es a b n on ha hb i h = elim (ℕ_discrete a b) [
  | yes e ↦ ap (λ (l : List ℕ). bit_at l i) (with_self es a b on e)
  | no d ↦ ap (λ (l : List ℕ). bit_at l i) (with_two es a b on d) ∙ bit_with_other es (pair_index a b) i on (λ e. omega (arith, pair_lt a b n d ha hb))
]

-- the bytes are known by the edges and by the bits past them
pub same_edges : (es fs : List ℕ) (n : ℕ) → length es ≡ length fs → Bytes es → Bytes fs
    → ((a b : ℕ) → a < b → b < n → edge es a b ≡ edge fs a b)
    → ((i : ℕ) → pair_count n ≤ i → bit_at es i ≡ bit_at fs i) → es ≡ fs
same_edges es fs n e f g h past = same_bits es fs e f g (λ i b. elim (dec_lt i (pair_count n)) [
  | yes l ↦ let r = pair_onto n i l in
      let d : r.0 ≢ r.1 = omega (arith, r.2) in
      ap (bit_at es) (sym r.4) ∙ sym (edge_two es r.0 r.1 d) ∙ h r.0 r.1 r.2 r.3 ∙ edge_two fs r.0 r.1 d ∙ ap (bit_at fs) r.4
  | no l ↦ past i (omega arith)
])
