-- Of a pair of p's neighbours, the list `shortest` has every shortest walk inside p's ego network, no other, and each once. Assumes nothing.
use mathlib.Core.Bool.{◌&&◌, true≢false}
use mathlib.Core.List.Memᴰ
use mathlib.Core.List.{[], List, Memᴰ, ◌∷◌}
use mathlib.Core.Logic.{inl, inr, ◌↔◌, ◌≢◌}
use mathlib.Core.Path.{ap, refl, sym, ◌∙◌}
use Prim.Native.Nat.{◌<◌, ℕ}
use native.Mathlib.Omega.{arith}
use lib.ListN.{length}
use Rattle.arith.proofs.Filter.{mem_filter}
use Rattle.arith.proofs.Range.{up_distinct}
use Rattle.arith.proofs.Tests.{and-true, test}
use Rattle.arith.specs.Lists.{Distinct, filter, pairs}
use Rattle.ego.proofs.Complete.{all_shortest, once, shortest_are}
use Rattle.ego.proofs.Shares.{first_linked, neighbours_linked, neighbours_up, pair_apart, pair_of, paths_count, paths_linked, paths_unlinked, second_linked}
use Rattle.ego.specs.Graph.{ego, Graph, neighbours, Shortest, shortest, Simple, stay, step, Walk}

ends : (u v : ℕ) → u ≢ v → Distinct (u ∷ v ∷ [])
ends u v d = (λ m. d (Memᴰ.eq_of_singleton m), (λ m. Memᴰ.not-nil m, tt))

mid : (u w v : ℕ) → u ≢ v → u ≢ w → w ≢ v → Distinct (u ∷ w ∷ v ∷ [])
mid u w v a b c = (λ m. elim (Memᴰ.cases_cons m) [ inl e ↦ b e | inr k ↦ a (Memᴰ.eq_of_singleton k) ], ends w v c)

module _ (g : Graph) (simple : Simple g) (n p : ℕ) where
  ego_distinct : Distinct (ego g n p)
  unfolding ego
  ego_distinct =
      (λ m. true≢false (sym (neighbours_linked g simple n p m) ∙ simple.loopless p), up_distinct 0 (neighbours g n p) (neighbours_up g n p))

  -- u, v is a pair of p's neighbours
  module _ {u v : ℕ} (m : Memᴰ (u, v) (pairs (neighbours g n p))) where
    pub each_once : Distinct (shortest g (ego g n p) u v)
    unfolding shortest
    each_once = once g (ego g n p) _ u v ego_distinct

    -- the walk by way of p
    way : Walk g (ego g n p) u v (u ∷ p ∷ v ∷ [])
    unfolding ego
    way =
        step (first_linked g simple n p m) (Memᴰ.head refl)
        (step (second_linked g simple n p m) (Memᴰ.tail (pair_of g simple n p m).second) (stay refl))

    pub just_these : (l : List ℕ) → Memᴰ l (shortest g (ego g n p) u v) ↔ Shortest g (ego g n p) u v l
    unfolding ego
    just_these l = (
      shortest_are g (ego g n p) u v,
      all_shortest g (ego g n p) u v {o = u ∷ p ∷ v ∷ []} way (omega (arith, (pair_of g simple n p m).two)),
    )

    -- there is one at least
    pub some_path : 0 < length (shortest g (ego g n p) u v)
    some_path = elim (test (g u v)) [
      | inl e ↦ rw (paths_linked g simple n p m e) (omega arith)
      | inr e ↦ rw (paths_unlinked g simple n p m e) (omega (arith, paths_count g simple n p m))
    ]

    -- and none meets a node twice
    pub no_repeat : (l : List ℕ) → Memᴰ l (shortest g (ego g n p) u v) → Distinct l
    no_repeat l i =
        elim (test (g u v)) [
          | inl e ↦ rw (Memᴰ.eq_of_singleton (rw (paths_linked g simple n p m e) at i)) (ends u v (pair_apart g simple n p m))
          | inr e ↦
              let (w, k, q) = Memᴰ.of_map (λ w. u ∷ w ∷ v ∷ []) (filter (λ w. g u w && g w v) (ego g n p)) (rw (paths_unlinked g simple n p m e) at i) in
              let r = and-true (g u w) (g w v) (mem_filter (λ w. g u w && g w v) (ego g n p) k).1 in
              rw (← q) (mid u w v (pair_apart g simple n p m)
              (λ s. true≢false (sym r.0 ∙ ap (g u) (sym s) ∙ simple.loopless u))
              (λ s. true≢false (sym r.1 ∙ ap (λ x. g x v) s ∙ simple.loopless v)))
        ]
