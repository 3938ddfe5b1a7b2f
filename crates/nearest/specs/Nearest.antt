-- The listed post reachable over the fewest links, within a limit, the lower number first at a tie, and its hop count. Assumes nothing.
use Rattle.std.specs.Prelude.{Bool, true, false, cond, List, [], ◌∷◌, ◌++◌, map, ℕ, ◌+◌, eqb, ltb, length, Option, Some, None, Ok}
use Rattle.arith.specs.Lists.{least_from}
use Rattle.packed.specs.Edges.{edge}
use Rattle.ego.specs.Graph.{Graph}
use Rattle.state.specs.Answers.{Found, At, Nowhere, Refused, found}
use Rattle.state.specs.Outcome.{edge_lengths}
use Rattle.state.specs.Refusal.{Condition, refusal, node_number, crowded_before, everyone}
use Rattle.nearest.specs.Paths.{any_at, listed_at}
use Rattle.nearest.specs.declared.search.Near.{Near}

-- the fewest links of a path to a listed post, and 1 more than the limit where no path within it leads to one
unfoldable pub fewest_links : Graph → ℕ → ℕ → List ℕ → ℕ → ℕ
fewest_links g n p listed limit = least_from (any_at g n p listed) 0 (limit + 1)

-- the lowest number of a listed post to which a path of h links leads
unfoldable pub lowest_at : Graph → ℕ → ℕ → List ℕ → ℕ → ℕ
lowest_at g n p listed h = least_from (listed_at g n p listed h) 0 n

-- a post and its hop count
abbrev pub near : ℕ → ℕ → Near
near node hops = record { node = node; hops = hops }

unfoldable pub nearest_of : Graph → ℕ → ℕ → List ℕ → ℕ → Option Near
nearest_of g n p listed limit =
    let h : ℕ = fewest_links g n p listed limit in
    cond (ltb limit h) None (Some (near (lowest_at g n p listed h) h))

-- 1 and 2; 4 of the post and of each number in the list; 11 of any post
abbrev pub nearest_conditions : List ℕ → ℕ → ℕ → List ℕ → List Condition
nearest_conditions edges n p listed =
    edge_lengths n (length edges) ++ node_number n p ∷ map (node_number n) listed ++ crowded_before (edge edges) n everyone ∷ []

-- the answer
unfoldable pub nearest_call : List ℕ → ℕ → ℕ → List ℕ → ℕ → Found Near
nearest_call edges n p listed limit =
    let r : ℕ = refusal (nearest_conditions edges n p listed) in
    cond (eqb r 0) (found (Ok (nearest_of (edge edges) n p listed limit))) (Refused r)

-- 02's numbers: the refusal number, whether there is such a post, the post and its hop count; with a refusal, or with none, 0 beside it
pub record Answer : Type 0 where
  pub refusal : ℕ
  pub some : Bool
  pub node : ℕ
  pub hops : ℕ

unfoldable pub answer_of : List ℕ → ℕ → ℕ → List ℕ → ℕ → Answer
answer_of edges n p listed limit =
    let r : ℕ = refusal (nearest_conditions edges n p listed) in
    let h : ℕ = fewest_links (edge edges) n p listed limit in
    cond (eqb r 0)
    (cond (ltb limit h)
    (record { refusal = 0; some = false; node = 0; hops = 0 })
    (record { refusal = 0; some = true; node = lowest_at (edge edges) n p listed h; hops = h }))
    (record { refusal = r; some = false; node = 0; hops = 0 })

-- these numbers for each case of the answer
unfoldable pub numbers_of : Found Near → Answer
numbers_of (At x) = record { refusal = 0; some = true; node = x.node; hops = x.hops }
numbers_of Nowhere = record { refusal = 0; some = false; node = 0; hops = 0 }
numbers_of (Refused r) = record { refusal = r; some = false; node = 0; hops = 0 }
