-- The score of a node depends on its neighbourhood alone, and so does its bound. Assumes nothing.
use mathlib.Core.Bool.{not}
use mathlib.Core.List.{List, Memᴰ, map, ◌∷◌}
use mathlib.Core.Path.{ap, fun_ext, refl, ◌∙◌, ◌≡◌}
use Prim.Native.Nat.{◌*◌, ◌/◌, ◌<◌, suc, zero, ℕ}
use native.Mathlib.Nat.{zero-add}
use lib.ListN.{length}
use Rattle.arith.proofs.Filter.{filter_mem, mem_filter}
use Rattle.arith.proofs.ListSums.{sum_mem}
use Rattle.arith.proofs.Members.{concat_mem}
use Rattle.arith.proofs.Pairs.{mem_pairs}
use Rattle.arith.proofs.Range.{mem_range}
use Rattle.arith.specs.Lists.{count, filter, least_from, non_empty, pairs, range, sum}
use Rattle.ego.proofs.Shares.{neighbours_up}
use Rattle.ego.specs.Bound.{bound, unlinked}
use Rattle.ego.specs.Graph.{distance, ego, Graph, inner, neighbours, shortest, walks}
use Rattle.ego.specs.Limits.{unit}
use Rattle.ego.specs.Score.{score, share}

module _ (g g' : Graph) (h : List ℕ) (same : (a b : ℕ) → Memᴰ a h → Memᴰ b h → g a b ≡ g' a b) where
  walks_same : (k u v : ℕ) → Memᴰ u h → walks g h k u v ≡ walks g' h k u v
  unfolding walks
  walks_same zero u v m = refl
  walks_same (suc k) u v m =
      rw (filter_mem (g u) (g' u) h (λ b. same u b m))
      (concat_mem _ _ (filter (g' u) h) (λ w i. ap (map (λ l. u ∷ l)) (walks_same k w v (mem_filter (g' u) h i).0)))

  pub shortest_same : (u v : ℕ) → Memᴰ u h → shortest g h u v ≡ shortest g' h u v
  unfolding shortest distance
  shortest_same u v m =
      rw (walks_same _ u v m)
      (ap (λ f. walks g' h (least_from f 0 (length h)) u v) (fun_ext (λ k. ap non_empty (walks_same k u v m))))

module _ (g g' : Graph) (n p : ℕ) (near : (q : ℕ) → q < n → g p q ≡ g' p q)
    (among : (a b : ℕ) → Memᴰ a (ego g n p) → Memᴰ b (ego g n p) → g a b ≡ g' a b) where
  neighbours_same : neighbours g n p ≡ neighbours g' n p
  unfolding neighbours
  neighbours_same = filter_mem (g p) (g' p) (range 0 n) (λ q m. near q (rw zero-add at (mem_range 0 n m).1))

  pub score_same : score g n p ≡ score g' n p
  unfolding score share ego
  score_same =
      sum_mem (share g n p) (share g' n p) (pairs (neighbours g n p)) (λ c m.
      let r = mem_pairs 0 (neighbours g n p) (neighbours_up g n p) m in
      ap (λ s. unit * count (inner p) s / length s) (shortest_same g g' (ego g n p) among c.0 c.1 (Memᴰ.tail r.first)
      ∙ ap (λ l. shortest g' (p ∷ l) c.0 c.1) neighbours_same))
      ∙ ap (λ l. sum (map (share g' n p) (pairs l))) neighbours_same

  pub bound_same : bound g n p ≡ bound g' n p
  unfolding bound unlinked ego
  bound_same =
      ap (λ l. unit * length l) (filter_mem (unlinked g) (unlinked g') (pairs (neighbours g n p)) (λ c m.
      let r = mem_pairs 0 (neighbours g n p) (neighbours_up g n p) m in
      ap not (among c.0 c.1 (Memᴰ.tail r.first) (Memᴰ.tail r.second))))
      ∙ ap (λ l. unit * count (unlinked g') (pairs l)) neighbours_same
