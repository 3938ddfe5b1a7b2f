-- What the nodes are that are found as a node's neighbours. Assumes nothing.
use mathlib.Core.Bool.{◌&&◌, true}
use mathlib.Core.List.{[], List}
use mathlib.Core.Path.{ap, ap₂, refl, sym, ◌∙◌, ◌≡◌}
use Prim.Native.Nat.{◌*◌, ◌+◌, ◌<◌, ℕ, ◌≤◌}
use native.Mathlib.Nat.{zero-add}
use native.Mathlib.Omega.{arith}
use lib.ListN.{get_or, length, replicate}
use lib.Seq.{sets}
use Rattle.arith.proofs.Filter.{count_most, mem_filter}
use Rattle.arith.proofs.Padded.{get_or_padded, padded_none, sets_padded}
use Rattle.arith.proofs.Places.{count_places, pairs_places}
use Rattle.arith.proofs.Range.{count_range, length_range, mem_place, mem_range, place_of, up_places}
use Rattle.arith.proofs.Sums.{count_to_ext, sum_to_ext}
use Rattle.arith.specs.Lists.{range}
use Rattle.arith.specs.Sums.{count_to, sum_to}
use Rattle.arith.specs.Inside.Fill.{padded}
use Rattle.ego.proofs.Shares.{derived, neighbours_in, neighbours_linked, neighbours_up}
use Rattle.ego.specs.Inside.Derived.{common, pair_score, portion}
use Rattle.ego.specs.Graph.{degree, Graph, neighbours, Simple}
use Rattle.ego.specs.Limits.{limit}
use Rattle.ego.specs.Score.{score}
use Rattle.ego.specs.Inside.Words.{Ascending, first_members, first_neighbours, link_at, score_at}
use Rattle.ego.specs.declared.neighbours.Neighbours.{Neighbours}
use Rattle.packed.proofs.EdgeLaws.{edge_comm, edge_self}
use Rattle.packed.proofs.PairLaws.{room_mono}
use Rattle.packed.proofs.SetLaws.{row_members}
use Rattle.packed.specs.Inside.Rows.{members_of, row_of, words_for}
use Rattle.packed.specs.Edges.{edge}
use Rattle.packed.specs.Pairs.{max_nodes}
use Rattle.packed.specs.Inside.Room.{Room}

pub simple_edges : (es : List ℕ) → Simple (edge es)
simple_edges es = record { symmetric = edge_comm es; loopless = λ a. edge_self es a a refl }

-- a degree is a count of the nodes below n
pub degree_is : (g : Graph) (n p : ℕ) → degree g n p ≡ count_to (g p) n
unfolding neighbours degree
degree_is g n p = count_range (g p) n

-- ---- what is found

-- the neighbours of p below q, as they are held
pub record Found (es : List ℕ) (q p : ℕ) (nodes : List ℕ) (count : ℕ) : Type 0 where
  pub first : nodes ≡ padded limit (neighbours (edge es) q p)
  pub all : count ≡ length (neighbours (edge es) q p)

pub found_few : {es nodes : List ℕ} {q p count : ℕ} → Found es q p nodes count → count ≤ q
unfolding neighbours
found_few {es} {q = q} {p = p} f = omega (arith, f.all, count_most (edge es p) (range 0 q), length_range 0 q)

-- ---- the struct that holds what was found

-- the members of a row, written to an array
pub members_are : (row : List ℕ) (n : ℕ) {nodes : List ℕ} {words count : ℕ} → words ≡ words_for n
    → (nodes ≡ sets (replicate limit 0) 0 (members_of row (32 * words))) × (count ≡ 0 + length (members_of row (32 * words)))
    → ◌≡◌ {A = Neighbours} (record { nodes = nodes; count = count }) (first_members row n)
unfolding first_members
members_are row n m w =
    let all = ap (λ words. members_of row (32 * words)) m in
    rw (w.0 ∙ ap₂ (λ l xs. sets l 0 xs) (padded_none limit) all ∙ sets_padded limit [] (members_of row (32 * words_for n)), w.1 ∙ zero-add _ ∙ ap length all)

-- those of p's row are the neighbours of p
pub found_is : (es : List ℕ) (n p : ℕ) {row : List ℕ} → n ≤ max_nodes → row ≡ row_of es n p → first_members row n ≡ first_neighbours es n p
unfolding degree first_members first_neighbours neighbours
found_is es n p h e =
    let all = ap (λ row. members_of row (32 * words_for n)) e ∙ row_members es n p (32 * words_for n) (omega arith) (omega arith) in
    ap (λ xs. record { nodes = padded limit xs; count = length xs }) all

pub found_of : {es : List ℕ} {n p : ℕ} {r : Neighbours} → r ≡ first_neighbours es n p → Found es n p r.nodes r.count
unfolding degree first_neighbours
found_of e = record { first = ap (λ r. r.nodes) e; all = ap (λ r. r.count) e }

pub found_degree : {es nodes : List ℕ} {n p count : ℕ} → Found es n p nodes count → count ≡ degree (edge es) n p
unfolding degree
found_degree f = f.all

-- ---- the nodes that were found

module _ {es nodes : List ℕ} {n p d : ℕ} (f : Found es n p nodes d) (few : d ≤ limit) where
  pub node_is : (i : ℕ) → i < d → get_or nodes i 0 ≡ get_or (neighbours (edge es) n p) i 0
  node_is i h = ap (λ xs. get_or xs i 0) f.first ∙ get_or_padded limit (neighbours (edge es) n p) i (omega arith)

  pub below : (i : ℕ) → i < d → get_or nodes i 0 < n
  unfolding neighbours
  below i h =
      let m = mem_place (neighbours (edge es) n p) i (omega (arith, f.all)) in
      omega (arith, node_is i h, mem_range 0 n (mem_filter (edge es p) (range 0 n) m).0)

  pub node_linked : (i : ℕ) → i < d → edge es p (get_or nodes i 0) ≡ true
  node_linked i h =
      ap (edge es p) (node_is i h) ∙ neighbours_linked (edge es) (simple_edges es) n p (mem_place (neighbours (edge es) n p) i (omega (arith, f.all)))

  -- a neighbour has a place
  pub node_place : (q : ℕ) → q < n → edge es p q ≡ true → (i : ℕ) × (i < d) × (get_or nodes i 0 ≡ q)
  node_place q h e =
      let r = place_of (neighbours (edge es) n p) (neighbours_in (edge es) n p e h) in
      let l : r.at < d = omega (arith, f.all, r.inside) in
      (r.at, l, node_is r.at l ∙ r.same)

  pub found_ascending : Room n es → Ascending es nodes d
  found_ascending r = record {
    few = few;
    up = λ i j l h. omega (
      arith,
      node_is i (omega arith),
      node_is j h,
      up_places 0 (neighbours (edge es) n p) (neighbours_up (edge es) n p) i j l
          (omega (arith, f.all)),
    );
    room = λ i h. room_mono (omega (arith, below i h)) r;
  }

  pub common_at : (i j : ℕ) → i < d → j < d
      → common (edge es) (neighbours (edge es) n p) (get_or (neighbours (edge es) n p) i 0) (get_or (neighbours (edge es) n p) j 0)
      ≡ count_to (λ k. link_at es nodes i k && link_at es nodes j k) d
  unfolding common link_at
  common_at i j hi hj =
      let N = neighbours (edge es) n p in
      count_places 0 (λ w. edge es (get_or N i 0) w && edge es (get_or N j 0) w) N
      ∙ ap (count_to (λ k. edge es (get_or N i 0) (get_or N k 0) && edge es (get_or N j 0) (get_or N k 0))) (sym f.all)
      ∙ count_to_ext (λ k. edge es (get_or N i 0) (get_or N k 0) && edge es (get_or N j 0) (get_or N k 0)) (λ k. link_at es nodes i k && link_at es nodes j k) d
      (λ k h. rw (node_is i hi, node_is j hj, node_is k h))

  -- THE SCORE is the sum over the found nodes.
  pub found_score : score_at (link_at es nodes) d ≡ score (edge es) n p
  unfolding score_at link_at pair_score
  found_score =
      let N = neighbours (edge es) n p in
      sum_to_ext _ _ d (λ j hj. sum_to_ext _ _ j (λ i hi.
      let hi' : i < d = omega arith in
      ap₂ portion (ap₂ (edge es) (node_is i hi') (node_is j hj)) (sym (common_at i j hi' hj))))
      ∙ ap (sum_to (λ j. sum_to (λ i. pair_score (edge es) N (get_or N i 0, get_or N j 0)) j)) f.all
      ∙ sym (derived (edge es) (simple_edges es) n p ∙ pairs_places 0 (pair_score (edge es) N) N)
