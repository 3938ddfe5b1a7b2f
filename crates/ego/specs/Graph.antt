-- Graphs, ego networks, walks and shortest paths. Assumes nothing.
use Rattle.std.specs.Prelude.{◌≡◌, Bool, true, false, ℕ, zero, suc, ◌≤◌, eqb, length}
use mathlib.Core.List.{List, [], ◌∷◌, map, tail, drop_last, Memᴰ}
use Rattle.arith.specs.Lists.{cons_if, filter, concat_map, range, elem, least_from, non_empty}

-- Whether two nodes (01's posts) are linked.
abbrev pub Graph : Type 0
Graph = ℕ → ℕ → Bool

-- An edge is an unordered pair of different nodes.
pub record Simple (g : Graph) : Type 0 where
  pub symmetric : (a b : ℕ) → g a b ≡ g b a
  pub loopless : (a : ℕ) → g a a ≡ false

-- The neighbours of p among the nodes below n, in order.
unfoldable pub neighbours : Graph → ℕ → ℕ → List ℕ
neighbours g n p = filter (g p) (range 0 n)

-- How many edges p has.
unfoldable pub degree : Graph → ℕ → ℕ → ℕ
degree g n p = length (neighbours g n p)

-- The nodes of p's ego network (01's neighbourhood): p and its neighbours. Its edges are those of the graph among these.
unfoldable pub ego : Graph → ℕ → ℕ → List ℕ
ego g n p = p ∷ neighbours g n p

-- The walks of k edges from u to v inside a network: lists of k + 1 nodes, each linked to the next.
unfoldable pub walks : Graph → List ℕ → ℕ → ℕ → ℕ → List (List ℕ)
walks g inside zero u v = cons_if (eqb u v) (u ∷ []) []
walks g inside (suc k) u v = concat_map (λ w. map (λ l. u ∷ l) (walks g inside k w v)) (filter (g u) inside)

-- The distance: the least number of edges of a walk. (A shortest walk meets no node twice, so it has fewer edges than there are nodes.)
unfoldable pub distance : Graph → List ℕ → ℕ → ℕ → ℕ
distance g inside u v = least_from (λ k. non_empty (walks g inside k u v)) 0 (length inside)

-- The shortest paths from u to v: the walks of that many edges.
unfoldable pub shortest : Graph → List ℕ → ℕ → ℕ → List (List ℕ)
shortest g inside u v = walks g inside (distance g inside u v) u v

-- p is an inner node of the path: neither its first nor its last.
unfoldable pub inner : ℕ → List ℕ → Bool
inner p l = elem p (drop_last (tail l))

-- THE SAME WITH NO LIST OF THEM. A walk from u to v: each node after the first is inside, and each is linked to the next.
pub data Walk (g : Graph) (inside : List ℕ) : ℕ → ℕ → List ℕ → Type 0 where
  stay : {u v : ℕ} → u ≡ v → Walk g inside u v (u ∷ [])
  step : {u w v : ℕ} {l : List ℕ} → g u w ≡ true → Memᴰ w inside → Walk g inside w v l → Walk g inside u v (u ∷ l)

-- A shortest walk: no walk from u to v has fewer nodes.
pub record Shortest (g : Graph) (inside : List ℕ) (u v : ℕ) (l : List ℕ) : Type 0 where
  pub walk : Walk g inside u v l
  pub minimal : (l' : List ℕ) → Walk g inside u v l' → length l ≤ length l'
