-- Sets of nodes as words of 32 bits, and the neighbours of a node as such a set. Assumes nothing.
use Rattle.std.specs.Prelude.{Bool, cond, ◌&&◌, List, ℕ, ◌+◌, ◌-◌, ◌*◌, ◌/◌, ◌%◌, ◌^◌, ltb, get_or, replicate, set}
use Rattle.std.specs.Int.Bits.{bit_and, bit_or}
use Rattle.arith.specs.Digits.{bit_of}
use Rattle.arith.specs.Lists.{filter, range}
use Rattle.arith.specs.Sums.{pack_to, tabulate}
use Rattle.arith.specs.Inside.Fill.{fill_to}
use Rattle.packed.specs.Edges.{edge}
use Rattle.packed.specs.Pairs.{max_nodes}

-- the words of a set, and those that hold the first n nodes
abbrev pub row_words : ℕ
row_words = 8

abbrev pub words_for : ℕ → ℕ
words_for n = (n + 31) / 32

-- node q is in the set: bit 31 - q % 32 of word q / 32
unfoldable pub in_set : List ℕ → ℕ → Bool
in_set row q = bit_of (get_or row (q / 32) 0) (31 - q % 32)

-- the set of the nodes that pass a test
unfoldable pub set_of : (ℕ → Bool) → List ℕ
set_of f = tabulate (λ k. pack_to (λ j. f (32 * k + (31 - j))) 32) row_words

-- a set with node q
unfoldable pub with_node : List ℕ → ℕ → List ℕ
with_node row q = set row (q / 32) (bit_or (get_or row (q / 32) 0) (2 ^ (31 - q % 32)))

-- the nodes that two sets have in common
unfoldable pub both_of : List ℕ → List ℕ → List ℕ
both_of x y = tabulate (λ k. bit_and (get_or x k 0) (get_or y k 0)) row_words

-- the nodes that one of two sets has, or both
unfoldable pub either_of : List ℕ → List ℕ → List ℕ
either_of x y = tabulate (λ k. bit_or (get_or x k 0) (get_or y k 0)) row_words

-- the nodes of a set below m, in order
unfoldable pub members_of : List ℕ → ℕ → List ℕ
members_of row m = filter (in_set row) (range 0 m)

-- node q is in a word whose first node is `first`, and the nodes of the word
unfoldable pub in_word : ℕ → ℕ → ℕ → Bool
in_word word first q = bit_of word (first + 31 - q)

unfoldable pub members_in : ℕ → ℕ → List ℕ
members_in word first = filter (in_word word first) (range first 32)

-- the neighbours of p below n
unfoldable pub row_of : List ℕ → ℕ → ℕ → List ℕ
row_of edges n p = set_of (λ q. ltb q n && edge edges p q)

-- the neighbours of q below q, where the set has q, and none elsewhere; and so for each of n nodes
unfoldable pub row_within : List ℕ → List ℕ → ℕ → List ℕ
row_within edges set q = cond (in_set set q) (row_of edges q q) (replicate row_words 0)

unfoldable pub rows_within : List ℕ → ℕ → List ℕ → List (List ℕ)
rows_within edges n set = fill_to (row_within edges set) (replicate max_nodes (replicate row_words 0)) n
