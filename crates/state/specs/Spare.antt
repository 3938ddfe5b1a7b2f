-- Spare bits: those of the edges and the marks that are not in use. Assumes nothing.
use Rattle.std.specs.Prelude.{false, List, ◌≡◌, ℕ, ◌≤◌, ◌<◌, length}
use Rattle.packed.specs.Bits.{bit_at}
use Rattle.packed.specs.Pairs.{pair_count}
use Rattle.state.specs.Marks.{mark_bits}
use Rattle.state.specs.State.{State, size}

-- bytes of the same length with the same bits at some places
pub record SameAt (places : ℕ → Type 0) (x y : List ℕ) : Type 0 where
  pub long : length x ≡ length y
  pub bits : (i : ℕ) → places i → bit_at x i ≡ bit_at y i

-- The first m bits are in use, and the others spare.
abbrev pub SameBits : ℕ → List ℕ → List ℕ → Type 0
SameBits m x y = SameAt (λ i. i < m) x y

abbrev pub SameSpare : ℕ → List ℕ → List ℕ → Type 0
SameSpare m x y = SameAt (λ i. m ≤ i) x y

-- Two states differ in spare bits at most.
pub record Alike (s t : State) : Type 0 where
  pub edges : SameBits (pair_count (size s)) s.edges t.edges
  pub figures : s.figures ≡ t.figures
  pub marks : SameBits (mark_bits (size s)) s.marks t.marks

-- t has the spare bits of s, and its lengths.
pub record SpareKept (s t : State) : Type 0 where
  pub nodes : size s ≡ size t
  pub edges : SameSpare (pair_count (size s)) s.edges t.edges
  pub marks : SameSpare (mark_bits (size s)) s.marks t.marks

-- The spare bits are 0.
pub record SpareZero (s : State) : Type 0 where
  pub edges : (i : ℕ) → pair_count (size s) ≤ i → bit_at s.edges i ≡ false
  pub marks : (i : ℕ) → mark_bits (size s) ≤ i → bit_at s.marks i ≡ false
