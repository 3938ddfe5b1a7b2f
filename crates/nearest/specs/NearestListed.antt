-- What the nearest listed post is, as a relation between a post, a hop count and the paths, and what the call says of it. Assumes nothing.
use Rattle.std.specs.Prelude.{true, ◌↔◌, ◌≢◌, ◌≡◌, ℕ, ◌+◌, ◌≤◌, ◌<◌, length}
use mathlib.Core.List.{List, [], Memᴰ}
use Rattle.arith.specs.Lists.{range}
use Rattle.packed.specs.Edges.{edge, with_edge}
use Rattle.ego.specs.Graph.{Graph, Walk}
use Rattle.state.specs.Refusal.{refusal}
use Rattle.state.specs.Answers.{At, Nowhere, Refused}
use Rattle.nearest.specs.Nearest.{near, nearest_call, nearest_conditions}

-- A path of h links leads from u to v over the whole board: a walk of h + 1 nodes, inside all n of them.
pub record Path (g : Graph) (n h u v : ℕ) : Type 0 where
  pub nodes : List ℕ
  pub walk : Walk g (range 0 n) u v nodes
  pub links : length nodes ≡ h + 1

-- A path of at most as many links as the limit leads to a listed post.
abbrev pub Reached : Graph → ℕ → ℕ → List ℕ → ℕ → Type 0
Reached g n p listed limit = (q : ℕ) × (h : ℕ) × Memᴰ q listed × (h ≤ limit) × Path g n h p q

-- q is the nearest listed post, h links away
pub record Answers (g : Graph) (n p : ℕ) (listed : List ℕ) (limit q h : ℕ) : Type 0 where
  pub listed_is : Memᴰ q listed
  pub within : h ≤ limit
  pub path : Path g n h p q
  -- No listed post has a path of fewer links,
  pub fewest : (r k : ℕ) → Memᴰ r listed → Path g n k p r → h ≤ k
  -- and none of a lower number has one of as many.
  pub lowest : (r : ℕ) → Memᴰ r listed → Path g n h p r → q ≤ r

-- THE NEAREST LISTED POST. proofs/NearestListed has its proof. What is said of the call is said where it is not refused, but for the last sentence.
pub record NearestListed : Type 0 where
  -- At most one post and hop count is the answer,
  pub one : (g : Graph) (n p : ℕ) (listed : List ℕ) (limit q h r k : ℕ) → Answers g n p listed limit q h → Answers g n p listed limit r k
      → (q ≡ r) × (h ≡ k)
  -- and one is exactly if a path within the limit leads to a listed post.
  pub some : (g : Graph) (n p : ℕ) (listed : List ℕ) (limit : ℕ) → p < n
      → ((q : ℕ) × (h : ℕ) × Answers g n p listed limit q h) ↔ Reached g n p listed limit
  -- The call says it,
  pub found : (edges : List ℕ) (n p : ℕ) (listed : List ℕ) (limit q h : ℕ) → refusal (nearest_conditions edges n p listed) ≡ 0
      → (nearest_call edges n p listed limit ≡ At (near q h)) ↔ Answers (edge edges) n p listed limit q h
  -- none exactly if no path that short reaches a listed post,
  pub none : (edges : List ℕ) (n p : ℕ) (listed : List ℕ) (limit : ℕ) → refusal (nearest_conditions edges n p listed) ≡ 0
      → (nearest_call edges n p listed limit ≡ Nowhere) ↔ (Reached (edge edges) n p listed limit → ⊥)
  -- and otherwise it is refused.
  pub refused : (edges : List ℕ) (n p : ℕ) (listed : List ℕ) (limit : ℕ) → refusal (nearest_conditions edges n p listed) ≢ 0
      → nearest_call edges n p listed limit ≡ Refused (refusal (nearest_conditions edges n p listed))

-- WHAT A LIMIT, A LINK AND THE LIST CHANGE. proofs/NearestChanges has its proof.
pub record NearestChanges : Type 0 where
  -- A larger limit never loses an answer and never changes one.
  pub larger : (edges : List ℕ) (n p : ℕ) (listed : List ℕ) (limit more q h : ℕ) → limit ≤ more
      → nearest_call edges n p listed limit ≡ At (near q h) → nearest_call edges n p listed more ≡ At (near q h)
  -- Adding a link never lengthens.
  pub added : (edges : List ℕ) (n p : ℕ) (listed : List ℕ) (limit a b q h : ℕ) → a < n → b < n
      → refusal (nearest_conditions (with_edge edges a b true) n p listed) ≡ 0 → nearest_call edges n p listed limit ≡ At (near q h)
      → (r : ℕ) × (k : ℕ) × (nearest_call (with_edge edges a b true) n p listed limit ≡ At (near r k)) × (k ≤ h)
  -- A listed seat is 0 hops away, whatever the limit.
  pub seat : (edges : List ℕ) (n p : ℕ) (listed : List ℕ) (limit : ℕ) → refusal (nearest_conditions edges n p listed) ≡ 0 → Memᴰ p listed
      → nearest_call edges n p listed limit ≡ At (near p 0)
  -- An empty list gives none.
  pub empty : (edges : List ℕ) (n p limit : ℕ) → refusal (nearest_conditions edges n p []) ≡ 0 → nearest_call edges n p [] limit ≡ Nowhere
  -- A limit of 255 finds every post that can be reached: where it finds none, no path of any length leads to a listed post.
  pub far : (edges : List ℕ) (n p : ℕ) (listed : List ℕ) (h : ℕ) → nearest_call edges n p listed 255 ≡ Nowhere
      → (q : ℕ) → Memᴰ q listed → Path (edge edges) n h p q → ⊥
