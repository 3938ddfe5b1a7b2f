-- The marks: a bit a node, 1 for stale (01's open) and 0 for exact (01's settled). Assumes nothing.
use Rattle.std.specs.Prelude.{Bool, true, cond, List, ℕ, zero, suc, ltb, replicate}
use Rattle.packed.specs.Bits.{bit_at, with_bit, bytes_of, bytes_for}

-- how many bits the marks of n nodes have in use
abbrev pub mark_bits : ℕ → ℕ
mark_bits n = n

abbrev pub mark_bytes : ℕ → ℕ
mark_bytes n = bytes_for (mark_bits n)

-- node p is stale
unfoldable pub stale : List ℕ → ℕ → Bool
stale marks p = bit_at marks p

unfoldable pub with_mark : List ℕ → ℕ → Bool → List ℕ
with_mark marks p on = with_bit marks p on

-- the nodes below n that pass a test made stale, the others as they were
unfoldable pub stale_to : (ℕ → Bool) → List ℕ → ℕ → List ℕ
stale_to f marks zero = marks
stale_to f marks (suc p) = cond (f p) (with_mark (stale_to f marks p) p true) (stale_to f marks p)

-- n nodes, all exact, and all stale; spare bits 0
unfoldable pub all_exact : ℕ → List ℕ
all_exact n = replicate (mark_bytes n) 0

unfoldable pub all_stale : ℕ → List ℕ
all_stale n = bytes_of (λ i. ltb i n) (mark_bytes n)
