-- Bytes that agree in the bits in use, and bytes that agree in the spare bits: what is read and written in edges and marks. Assumes nothing.
use mathlib.Core.Bool.{Bool, false, true}
use mathlib.Core.List.{List}
use mathlib.Core.Logic.{inl, inr, ◌≢◌}
use mathlib.Core.Path.{ap, refl, subst, sym, ◌∙◌, ◌≡◌}
use Prim.Native.Nat.{◌*◌, ◌/◌, ◌<◌, suc, zero, ℕ, ◌≤◌}
use native.Mathlib.Decide.{dec_lt, ℕ_discrete}
use native.Mathlib.Omega.{arith}
use borrow.Author.Tests.{le-ltb}
use lib.Dec.{ltb}
use lib.ListN.{length}
use Rattle.arith.proofs.Tests.{test}
use Rattle.ego.proofs.Agreement.{Agree}
use Rattle.packed.proofs.BitLaws.{bit-bytes_of, bit_past, bit_with_other, bit_with_same, bit_zeros, length-bytes_of, length_with_bit, with_bit_past}
use Rattle.packed.proofs.EdgeLaws.{edge_self, edge_two, length_with_edge, spare_with_edge, with_self, with_two}
use Rattle.packed.proofs.PairLaws.{pair_lt}
use Rattle.packed.specs.Bits.{bit_at, with_bit}
use Rattle.packed.specs.Edges.{edge, with_edge}
use Rattle.packed.specs.Pairs.{pair_count, pair_index}
use Rattle.state.specs.Marks.{all_exact, all_stale, mark_bits, mark_bytes, stale, stale_to, with_mark}
use Rattle.state.specs.Outcome.{lengths}
use Rattle.state.specs.Spare.{Alike, SameAt, SameBits, SameSpare, SpareKept}
use Rattle.state.specs.State.{graph, size, State}

-- ---- bytes

module _ {places : ℕ → Type 0} where
  pub same_refl : (x : List ℕ) → SameAt places x x
  same_refl x = record { long = refl; bits = λ i h. refl }

  pub same_trans : {x y z : List ℕ} → SameAt places x y → SameAt places y z → SameAt places x z
  same_trans p q = record { long = p.long ∙ q.long; bits = λ i h. p.bits i h ∙ q.bits i h }

  -- a bit written in both
  pub same_with_bit : {x y : List ℕ} (i : ℕ) (on : Bool) → SameAt places x y → SameAt places (with_bit x i on) (with_bit y i on)
  same_with_bit {x} {y} i on e = record {
    long = length_with_bit x i on ∙ e.long ∙ sym (length_with_bit y i on);
    bits = λ j h. elim (ℕ_discrete j i) [
      | no d ↦ bit_with_other x i j on d ∙ e.bits j h ∙ sym (bit_with_other y i j on d)
      | yes q ↦ elim (dec_lt (i / 8) (length x)) [
        | yes l ↦ rw q (bit_with_same x i on l ∙ sym (bit_with_same y i on (rw e.long at l)))
        | no l ↦ rw (with_bit_past x i on (omega arith), with_bit_past y i on (omega (arith, e.long))) (e.bits j h)
      ]
    ];
  }

  -- a bit written elsewhere
  pub same_written : (x : List ℕ) (i : ℕ) (on : Bool) → ((j : ℕ) → places j → j ≢ i) → SameAt places x (with_bit x i on)
  same_written x i on far = record { long = sym (length_with_bit x i on); bits = λ j h. sym (bit_with_other x i j on (far j h)) }

  -- ---- edges

  pub same_with_edge : {x y : List ℕ} (a b : ℕ) (on : Bool) → SameAt places x y → SameAt places (with_edge x a b on) (with_edge y a b on)
  same_with_edge {x} {y} a b on e = elim (ℕ_discrete a b) [
    | yes q ↦ rw (with_self x a b on q, with_self y a b on q) e
    | no d ↦ rw (with_two x a b on d, with_two y a b on d) (same_with_bit (pair_index a b) on e)
  ]

  -- ---- marks

  pub same_with_mark : {x y : List ℕ} (p : ℕ) (on : Bool) → SameAt places x y → SameAt places (with_mark x p on) (with_mark y p on)
  unfolding with_mark
  same_with_mark p on e = same_with_bit p on e

  pub same_stale_to : {x y : List ℕ} (f g : ℕ → Bool) (n : ℕ) → ((p : ℕ) → p < n → f p ≡ g p) → SameAt places x y
      → SameAt places (stale_to f x n) (stale_to g y n)
  unfolding stale_to
  same_stale_to f g zero h e = e
  same_stale_to f g (suc n) h e =
      let r = same_stale_to f g n (λ p l. h p (omega arith)) e in
      rw (h n (omega arith)) (elim (test (g n)) [ inl t ↦ rw t (same_with_mark n true r) | inr t ↦ rw t r ])

-- the bits of the pairs below n say which of them are edges
pub same_agree : {n : ℕ} {x y : List ℕ} → SameBits (pair_count n) x y → Agree n (edge x) (edge y)
same_agree {n} {x} {y} e a b ha hb = elim (ℕ_discrete a b) [
  | yes q ↦ edge_self x a b q ∙ sym (edge_self y a b q)
  | no d ↦ edge_two x a b d ∙ e.bits (pair_index a b) (pair_lt a b n d ha hb) ∙ sym (edge_two y a b d)
]

pub spare_with_pair : (x : List ℕ) (n a b : ℕ) (on : Bool) → a < n → b < n → SameSpare (pair_count n) x (with_edge x a b on)
spare_with_pair x n a b on ha hb = record { long = sym (length_with_edge x a b on); bits = λ i h. sym (spare_with_edge x a b n on ha hb i h) }

pub same_stale : {n : ℕ} {x y : List ℕ} → SameBits (mark_bits n) x y → (p : ℕ) → p < n → stale x p ≡ stale y p
unfolding stale
same_stale e p h = e.bits p h

pub spare_with_mark : (x : List ℕ) (n p : ℕ) (on : Bool) → p < n → SameSpare (mark_bits n) x (with_mark x p on)
unfolding with_mark
spare_with_mark x n p on h = same_written x p on (λ j l. omega arith)

pub spare_stale_to : (x : List ℕ) (f : ℕ → Bool) (n m : ℕ) → m ≤ n → SameSpare (mark_bits n) x (stale_to f x m)
unfolding stale_to
spare_stale_to x f n zero h = same_refl x
spare_stale_to x f n (suc p) h =
    let r = spare_stale_to x f n p (omega arith) in
    elim (test (f p)) [ inl t ↦ rw t (same_trans r (spare_with_mark (stale_to f x p) n p true h)) | inr t ↦ rw t r ]

-- the marks that a clear and a load leave
pub exact_zero : (n i : ℕ) → bit_at (all_exact n) i ≡ false
unfolding all_exact
exact_zero n i = bit_zeros (mark_bytes n) i

pub stale_zero : (n i : ℕ) → mark_bits n ≤ i → bit_at (all_stale n) i ≡ false
unfolding all_stale
stale_zero n i h = elim (dec_lt i (8 * mark_bytes n)) [
  | yes l ↦ bit-bytes_of (λ j. ltb j n) (mark_bytes n) i l ∙ le-ltb i n h
  | no l ↦ bit_past _ i (omega (arith, length-bytes_of (λ j. ltb j n) (mark_bytes n)))
]

-- ---- states

pub alike_refl : (s : State) → Alike s s
alike_refl s = record { edges = same_refl s.edges; figures = refl; marks = same_refl s.marks }

-- the parts, where n is the number of nodes
pub alike_by : (s t : State) (n : ℕ) → size s ≡ n
    → SameBits (pair_count n) s.edges t.edges → s.figures ≡ t.figures → SameBits (mark_bits n) s.marks t.marks → Alike s t
alike_by s t n e edges figures marks = record { edges = rw e edges; figures = figures; marks = rw e marks }

pub spare_refl : (s : State) → SpareKept s s
spare_refl s = record { nodes = refl; edges = same_refl s.edges; marks = same_refl s.marks }

pub spare_trans : {s t u : State} → SpareKept s t → SpareKept t u → SpareKept s u
spare_trans {s} {t} {u} p q = record {
  nodes = p.nodes ∙ q.nodes;
  edges = same_trans p.edges (subst (λ n. SameSpare (pair_count n) t.edges u.edges) (sym p.nodes) q.edges);
  marks = same_trans p.marks (subst (λ n. SameSpare (mark_bits n) t.marks u.marks) (sym p.nodes) q.marks);
}

module _ {s t : State} (h : Alike s t) where
  pub alike_nodes : size s ≡ size t
  alike_nodes = ap length h.figures

  pub alike_links : Agree (size s) (graph s) (graph t)
  alike_links = same_agree h.edges

  pub alike_lengths : lengths s ≡ lengths t
  unfolding lengths
  alike_lengths = rw (alike_nodes, h.edges.long, h.marks.long)
