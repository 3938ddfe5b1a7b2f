-- Small boards and their nearest listed posts, by computing the definitions. Assumes nothing.
use mathlib.Core.Bool.{◌&&◌, false, ◌||◌}
use mathlib.Core.List.{[], List, ◌∷◌}
use mathlib.Core.Path.{refl, ◌≡◌}
use Prim.Native.Nat.{ℕ}
use lib.Dec.{eqb}
use Rattle.arith.specs.Digits.{bit_of, digit}
use Rattle.arith.specs.Sums.{any_to}
use Rattle.ego.specs.Graph.{degree, Graph, neighbours, walks}
use Rattle.nearest.specs.declared.search.Near.{Near}
use Rattle.state.specs.Answers.{At, Found, Refused}
use Rattle.std.proofs.Common.{None, Option, Some}
use Rattle.nearest.specs.Nearest.{fewest_links, lowest_at, near, nearest_call, nearest_of}
use Rattle.nearest.specs.Paths.{any_at, listed_at, reaches}
use Rattle.packed.specs.Bits.{bit_at}
use Rattle.packed.specs.Edges.{edge}
use Rattle.packed.specs.Pairs.{pair_count, pair_index}
use Rattle.state.specs.Refusal.{buffer_length, crowded_before, node_count, node_number, refusal, too_many}

-- the edges of a list
abbrev graph_of : List (ℕ × ℕ) → Graph
graph_of [] a b = false
graph_of ((x, y) ∷ l) a b = eqb a x && eqb b y || (eqb a y && eqb b x || graph_of l a b)

-- an answer by the definition
nearest : List (ℕ × ℕ) → ℕ → ℕ → List ℕ → ℕ → Option Near
unfolding nearest_of fewest_links lowest_at any_at listed_at reaches walks any_to
nearest links n p listed limit = nearest_of (graph_of links) n p listed limit

-- a line 0 – 1 – 2 – 3 – 4, and 5 – 6 apart from it
abbrev line : List (ℕ × ℕ)
line = (0, 1) ∷ (1, 2) ∷ (2, 3) ∷ (3, 4) ∷ (5, 6) ∷ []

-- a listed seat is 0 hops away, with a limit of 0 too
seat : nearest line 7 2 (4 ∷ 2 ∷ 1 ∷ []) 0 ≡ Some (near 2 0)
unfolding nearest
seat = refl

-- 1 and 3 are as near: the lower number, wherever it stands in the list
tie : nearest line 7 2 (3 ∷ 1 ∷ []) 9 ≡ Some (near 1 1)
unfolding nearest
tie = refl

-- 0 has the lower number, and 3 the fewer links
fewer : nearest line 7 2 (0 ∷ 3 ∷ []) 9 ≡ Some (near 3 1)
unfolding nearest
fewer = refl

-- 4 is 4 links away
at_limit : nearest line 7 0 (4 ∷ []) 4 ≡ Some (near 4 4)
unfolding nearest
at_limit = refl

past_limit : nearest line 7 0 (4 ∷ []) 3 ≡ None
unfolding nearest
past_limit = refl

-- no path leads to the other piece
apart : nearest line 7 0 (5 ∷ 6 ∷ []) 6 ≡ None
unfolding nearest
apart = refl

none_listed : nearest line 7 0 [] 6 ≡ None
unfolding nearest
none_listed = refl

-- a number twice in the list is as once
twice : nearest line 7 6 (5 ∷ 5 ∷ 0 ∷ []) 1 ≡ Some (near 5 1)
unfolding nearest
twice = refl

-- the call on bytes: of three posts 0 – 1 and 1 – 2 are linked, and the last five bits of the byte are spare
called : ℕ → ℕ → List ℕ → Found Near
unfolding nearest_call refusal node_count buffer_length node_number crowded_before too_many degree neighbours edge bit_at bit_of digit pair_index pair_count nearest_of fewest_links lowest_at any_at listed_at reaches walks any_to
called byte p listed = nearest_call (byte ∷ []) 3 p listed 255

call_found : called 160 0 (2 ∷ []) ≡ At (near 2 2)
unfolding called
call_found = refl

call_spare : called 191 0 (2 ∷ []) ≡ At (near 2 2)
unfolding called
call_spare = refl

call_node : called 160 3 (2 ∷ []) ≡ Refused 4
unfolding called
call_node = refl

call_listed : called 160 0 (2 ∷ 3 ∷ []) ≡ Refused 4
unfolding called
call_listed = refl
