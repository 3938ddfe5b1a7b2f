-- The neighbourhoods of the two ends of an edge, with the edge present. Assumes nothing.
use Rattle.std.specs.Prelude.{cond, true, List, ◌≢◌, ◌≡◌, ℕ, ◌≤◌, ◌<◌, get_or, length, replicate}
use Rattle.arith.specs.Digits.{bit_of}
use Rattle.arith.specs.Sums.{pack_to}
use Rattle.arith.specs.Inside.Fill.{fill_to, padded}
use Rattle.packed.specs.Edges.{edge, with_edge}
use Rattle.packed.specs.Inside.Room.{Room}
use Rattle.ego.specs.Graph.{degree, neighbours}
use Rattle.ego.specs.Limits.{limit}
use Rattle.ego.specs.Inside.Words.{Ascending, link_at, word_count, WordsFrom}
use Rattle.preview.specs.declared.ends.End.{End}
use Rattle.preview.specs.declared.ends.Ends.{Ends}

-- a and b are two nodes, linked or not, and p keeps to the limit where they are
pub record Affected (edges : List ℕ) (n a b p : ℕ) : Type 0 where
  pub first_below : a < n
  pub second_below : b < n
  pub apart : a ≢ b
  pub below : p < n
  pub room : Room n edges
  pub few : degree (edge (with_edge edges a b true)) n p ≤ limit

-- the end u of the edge u, v, which the graph has
pub record EndOf (edges : List ℕ) (n u v : ℕ) (e : End) : Type 0 where
  pub first : e.near.nodes ≡ padded limit (neighbours (edge edges) n u)
  pub all : e.near.count ≡ length (neighbours (edge edges) n u)
  pub few : e.near.count ≤ limit
  pub words : WordsFrom (link_at edges e.near.nodes) e.near.count 0 e.words
  pub inside : e.at < e.near.count
  pub other : get_or e.near.nodes e.at 0 ≡ v

-- the nodes of both ends can be read
pub record Crossable (edges : List ℕ) (from to : End) : Type 0 where
  pub start : Ascending edges from.near.nodes from.near.count
  pub stop : Ascending edges to.near.nodes to.near.count
  pub inside : from.at < from.near.count

-- for each neighbour of the one end that is not linked to the other, which of the other's neighbours are linked to it; 0 for the others
unfoldable pub crossing_of : List ℕ → End → End → List ℕ
crossing_of edges from to =
    let near = get_or from.words from.at 0 in
    let linked : ℕ → ℕ = λ k. pack_to (λ j. edge edges (get_or from.near.nodes k 0) (get_or to.near.nodes j 0)) to.near.count in
    fill_to (λ k. cond (bit_of near k) 0 (linked k)) (replicate word_count 0) from.near.count

-- both ends of the edge a, b
pub record BothEnds (edges : List ℕ) (n a b : ℕ) (e : Ends) : Type 0 where
  pub first : EndOf (with_edge edges a b true) n a b e.first
  pub second : EndOf (with_edge edges a b true) n b a e.second
  pub forth : e.forth ≡ crossing_of edges e.first e.second
  pub back : e.back ≡ crossing_of edges e.second e.first
