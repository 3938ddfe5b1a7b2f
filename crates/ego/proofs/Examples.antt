-- Small graphs, their scores and bounds by computing the definitions. Assumes nothing.
use mathlib.Core.Bool.{◌&&◌, false, ◌||◌}
use mathlib.Core.List.{[], List, ◌∷◌}
use mathlib.Core.Path.{refl, ◌≡◌}
use Prim.Native.Nat.{◌*◌, ℕ}
use lib.Dec.{eqb}
use Rattle.ego.specs.Bound.{bound, unlinked}
use Rattle.ego.specs.Graph.{distance, ego, Graph, inner, neighbours, shortest, walks}
use Rattle.ego.specs.Limits.{unit}
use Rattle.ego.specs.Score.{score, share}

-- the edges of a list
abbrev graph_of : List (ℕ × ℕ) → Graph
graph_of [] a b = false
graph_of ((x, y) ∷ l) a b = eqb a x && eqb b y || (eqb a y && eqb b x || graph_of l a b)

-- a score by the definition
scored : List (ℕ × ℕ) → ℕ → ℕ → ℕ
unfolding score share shortest distance walks ego neighbours inner
scored l n p = score (graph_of l) n p

-- a bound by the definition
bounded : List (ℕ × ℕ) → ℕ → ℕ → ℕ
unfolding bound unlinked neighbours
bounded l n p = bound (graph_of l) n p

-- a star: the middle lies between each two of the others
abbrev star : List (ℕ × ℕ)
star = (0, 1) ∷ (0, 2) ∷ (0, 3) ∷ []

star_middle : scored star 4 0 ≡ 3 * unit
unfolding scored
star_middle = refl

star_end : scored star 4 1 ≡ 0
unfolding scored
star_end = refl

star_bounds : bounded star 4 0 ∷ bounded star 4 1 ∷ [] ≡ 3 * unit ∷ 0 ∷ []
unfolding bounded
star_bounds = refl

-- a ring of four: the way round by the far node is outside the ego network, so each node scores 1 and not 1/2
abbrev ring : List (ℕ × ℕ)
ring = (0, 1) ∷ (1, 2) ∷ (2, 3) ∷ (3, 0) ∷ []

ring_each : scored ring 4 0 ∷ scored ring 4 1 ∷ scored ring 4 2 ∷ scored ring 4 3 ∷ [] ≡ unit ∷ unit ∷ unit ∷ unit ∷ []
unfolding scored
ring_each = refl

ring_bound : bounded ring 4 0 ≡ unit
unfolding bounded
ring_bound = refl

-- all six edges of four nodes but 2 – 3: the paths from 2 to 3 are by way of 0 and of 1
abbrev almost : List (ℕ × ℕ)
almost = (0, 1) ∷ (0, 2) ∷ (0, 3) ∷ (1, 2) ∷ (1, 3) ∷ []

almost_each : scored almost 4 0 ∷ scored almost 4 1 ∷ scored almost 4 2 ∷ scored almost 4 3 ∷ [] ≡ 2671465728531600 ∷ 2671465728531600 ∷ 0 ∷ 0 ∷ []
unfolding scored
almost_each = refl

-- where each score is half of 1, the bound is 1; and 0 where all neighbours are linked
almost_bounds : bounded almost 4 0 ∷ bounded almost 4 2 ∷ [] ≡ unit ∷ 0 ∷ []
unfolding bounded
almost_bounds = refl

almost_paths : shortest (graph_of almost) (ego (graph_of almost) 4 0) 2 3 ≡ (2 ∷ 0 ∷ 3 ∷ []) ∷ (2 ∷ 1 ∷ 3 ∷ []) ∷ []
unfolding shortest distance walks ego neighbours
almost_paths = refl

-- document 000, Example 1: the ego d is 6, its neighbours a b c g h i are 0 to 5; 14/3
abbrev document : List (ℕ × ℕ)
document =
    (6, 0) ∷ (6, 1) ∷ (6, 2) ∷ (6, 3) ∷ (6, 4) ∷ (6, 5) ∷
    (0, 1) ∷ (0, 2) ∷ (1, 2) ∷ (2, 3) ∷ (2, 4) ∷ (3, 5) ∷ (4, 5) ∷ []

document_ego : scored document 7 6 ≡ 24933680132961600
unfolding scored
document_ego = refl

-- of the 15 pairs of its neighbours 7 are linked
document_bound : bounded document 7 6 ≡ 8 * unit
unfolding bounded
document_bound = refl

document_thirds : ◌≡◌ {A = ℕ} (3 * 24933680132961600) (14 * unit)
document_thirds = refl
