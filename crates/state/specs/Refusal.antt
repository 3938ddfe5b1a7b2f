-- The conditions under which a call turns back, in 01's order and with its numbers. Assumes nothing.
use Rattle.std.specs.Prelude.{Bool, true, not, cond, ◌&&◌, ◌||◌, List, [], ◌∷◌, ◌++◌, map, ℕ, ◌+◌, ◌-◌, ◌*◌, ◌%◌, ◌^◌, eqb, ltb, leb, length, get_or, drop}
use Rattle.arith.specs.Sums.{any_to}
use Rattle.packed.specs.Bits.{bit_at}
use Rattle.packed.specs.Pairs.{any_pair, max_nodes, pair_count}
use Rattle.ego.specs.Limits.{limit}
use Rattle.ego.specs.Graph.{Graph, degree}
use Rattle.state.specs.Sizes.{edge_bytes, scratch_bytes, snapshot_bytes}

-- a condition: its number, and whether it applies
abbrev pub Condition : Type 0
Condition = ℕ × Bool

-- the number of the first condition that applies, and 0 where none does
unfoldable pub refusal : List Condition → ℕ
refusal [] = 0
refusal (c ∷ cs) = cond c.1 c.0 (refusal cs)

-- the refusal number and the number beside it as one: that number, or 2 ^ 64 less the refusal number
unfoldable pub one_number : ℕ → ℕ → ℕ
one_number refusal value = cond (eqb refusal 0) value (2 ^ 64 - refusal)

-- 1. n is 0 or above 256.
unfoldable pub node_count : ℕ → Condition
node_count n = (1, eqb n 0 || ltb max_nodes n)

-- 2. A links, marks or written-sheet buffer has another length than n requires.
unfoldable pub buffer_length : ℕ → ℕ → Condition
buffer_length required actual = (2, not (eqb actual required))

-- 3. The scratch is shorter than n bits, rounded up to bytes.
unfoldable pub scratch_length : ℕ → ℕ → Condition
scratch_length n actual = (3, ltb actual (scratch_bytes n))

-- 4. A post number is n or more.
unfoldable pub node_number : ℕ → ℕ → Condition
node_number n p = (4, leb n p)

-- 5. The two posts are the same.
unfoldable pub same_nodes : ℕ → ℕ → Condition
same_nodes a b = (5, eqb a b)

-- 4 and 5 of some pairs, each tested over all of them
unfoldable pub pair_conditions : ℕ → List (ℕ × ℕ) → List Condition
pair_conditions n pairs =
    map (λ p. node_number n p.0) pairs ++ map (λ p. node_number n p.1) pairs ++ map (λ p. same_nodes p.0 p.1) pairs

-- 6. An add names a link that exists.
unfoldable pub edge_present : Graph → ℕ → ℕ → Condition
edge_present g a b = (6, g a b)

-- 7. A remove names a link that does not exist.
unfoldable pub edge_absent : Graph → ℕ → ℕ → Condition
edge_absent g a b = (7, not (g a b))

-- 8. k is 0 or above n.
unfoldable pub list_length : ℕ → ℕ → Condition
list_length n k = (8, eqb k 0 || ltb n k)

-- 9. A sheet is empty, has another length than its first byte requires or spare bits that are not 0.
-- A sheet is a byte n - 1, then the link bits, spare bits 0.
abbrev pub snapshot_nodes : List ℕ → ℕ
snapshot_nodes snapshot = get_or snapshot 0 0 + 1

abbrev pub snapshot_edges : List ℕ → List ℕ
snapshot_edges snapshot = drop 1 snapshot

-- a bit past the pairs of n nodes is set
unfoldable pub spare_set : ℕ → List ℕ → Bool
spare_set n edges = any_to (λ i. leb (pair_count n) i && bit_at edges i) (8 * edge_bytes n)

unfoldable pub bad_snapshot : List ℕ → Condition
bad_snapshot snapshot =
    let n = snapshot_nodes snapshot in
    (9, eqb (length snapshot) 0 || (not (eqb (length snapshot) (snapshot_bytes n)) || spare_set n (snapshot_edges snapshot)))

-- 10. A sheet's post count differs from the slate's.
unfoldable pub other_count : ℕ → List ℕ → Condition
other_count n snapshot = (10, not (eqb (snapshot_nodes snapshot) n))

-- One of the nodes that are looked at has more than 40 links.
unfoldable pub too_many : Graph → ℕ → (ℕ → Bool) → Bool
too_many g n which = any_to (λ p. which p && ltb limit (degree g n p)) n

-- which nodes are looked at: every one; the ends of a pair; the ends and their common neighbours, the posts linked to both
abbrev pub everyone : ℕ → Bool
everyone p = true

unfoldable pub ends : ℕ → ℕ → ℕ → Bool
ends a b p = eqb p a || eqb p b

unfoldable pub touched : Graph → ℕ → ℕ → ℕ → Bool
touched g a b p = ends a b p || (g a p && g b p)

-- 11. Before the call, a post has more than 40 links; g is the graph before the call.
unfoldable pub crowded_before : Graph → ℕ → (ℕ → Bool) → Condition
crowded_before g n which = (11, too_many g n which)

-- 12. After the call a post would have more than 40; g is the graph after the call.
unfoldable pub crowded_after : Graph → ℕ → (ℕ → Bool) → Condition
crowded_after g n which = (12, too_many g n which)

-- 13. A record's from is not below its to. It is tested after 5.
unfoldable pub no_hours : ℕ → ℕ → Condition
no_hours from to = (13, leb to from)

-- 14. A survey is not a whole number of records. It is tested after 2 and before 4.
unfoldable pub part_record : ℕ → ℕ → Condition
part_record required actual = (14, not (eqb (actual % required) 0))

-- 15. Both editors have spoken on a pair and left it different; `conflict` says of which pairs so. It is tested after 11 and before 12.
unfoldable pub some_conflict : Graph → ℕ → Condition
some_conflict conflict n = (15, any_pair conflict n)
