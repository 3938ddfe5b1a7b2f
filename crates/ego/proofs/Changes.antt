-- What one edge more does to scores: each common neighbour of its ends scores less, and every node but these and the ends scores the same.
-- Read from g' to g, it is what a removal does. Assumes nothing.
use mathlib.Core.Bool.{◌&&◌, and_comm, false, not, true, true≢false}
use mathlib.Core.List.Memᴰ
use mathlib.Core.List.{List, Memᴰ}
use mathlib.Core.Logic.{inl, inr, ◌≢◌}
use mathlib.Core.Path.{ap, sym, ◌∙◌, ◌≡◌}
use Prim.Native.Nat.{◌+◌, ◌/◌, ◌<◌, ℕ, ◌≤◌}
use native.Mathlib.Decide.{ℕ_discrete}
use native.Mathlib.Nat.{div-mul-le_self, le-div_iff_mul-le, le_trans, mul-le-mul_left}
use native.Mathlib.Omega.{arith}
use lib.ListN.{length}
use Rattle.arith.proofs.Filter.{count_le, count_most, count_one_more, filter_ext}
use Rattle.arith.proofs.ListSums.{sum_le, sum_lt}
use Rattle.arith.proofs.Pairs.{mem_pairs, pairs_distinct, pairs_in}
use Rattle.arith.proofs.Tests.{and-true, test}
use Rattle.arith.specs.Lists.{count, pairs, range}
use Rattle.ego.proofs.Local.{score_same}
use Rattle.ego.proofs.Shares.{derived, neighbours_in, neighbours_linked, neighbours_up}
use Rattle.ego.specs.Bound.{bound, unlinked}
use Rattle.ego.specs.Inside.Gains.{Gains}
use Rattle.ego.specs.Inside.Derived.{common, pair_score, portion}
use Rattle.ego.specs.Graph.{degree, ego, Graph, neighbours}
use Rattle.ego.specs.Limits.{limit, unit}
use Rattle.ego.specs.Score.{score}

-- more divides to less
pub div_down : (a b c : ℕ) → b ≤ c → a / (c + 1) ≤ a / (b + 1)
div_down a b c h =
    (le-div_iff_mul-le {k = b + 1} (omega arith)).1 (le_trans (mul-le-mul_left {m = b + 1} {n = c + 1} (a / (c + 1)) (omega arith)) (div-mul-le_self a (c + 1)))

-- with more edges no pair gives more
pair_score_down : (g g' : Graph) (nodes : List ℕ) → ((a b : ℕ) → g a b ≡ true → g' a b ≡ true) → (c : ℕ × ℕ) → pair_score g' nodes c ≤ pair_score g nodes c
unfolding pair_score portion common
pair_score_down g g' nodes more c =
    elim (test (g' c.0 c.1)) [
      | inl e ↦ rw e (omega arith)
      | inr e ↦ elim (test (g c.0 c.1)) [
        | inl d ↦ absurd (true≢false (sym (more c.0 c.1 d) ∙ e))
        | inr d ↦ rw (e, d) (div_down unit _ _ (count_le _ _ nodes (λ w a.
            let r = and-true (g c.0 w) (g c.1 w) a in rw (more c.0 w r.0, more c.1 w r.1))))
      ]
    ]

module _ (g g' : Graph) (u v : ℕ) (change : Gains g g' u v) where
  pub ends_apart : u ≢ v
  ends_apart e = true≢false (sym change.present ∙ ap (g' u) (sym e) ∙ change.new.loopless u)

  pub gains_more : (a b : ℕ) → g a b ≡ true → g' a b ≡ true
  gains_more a b e = elim (ℕ_discrete a u) [
    | yes p ↦ elim (ℕ_discrete b v) [
      | yes q ↦ ap (λ x. g' x b) p ∙ ap (g' u) q ∙ change.present
      | no q ↦ sym (change.others a b (λ x y. q y) (λ x y. ends_apart (sym p ∙ x))) ∙ e
    ]
    | no p ↦ elim (ℕ_discrete a v) [
      | yes q ↦ elim (ℕ_discrete b u) [
        | yes r ↦ ap (λ x. g' x b) q ∙ ap (g' v) r ∙ change.new.symmetric v u ∙ change.present
        | no r ↦ sym (change.others a b (λ x y. p x) (λ x y. r y)) ∙ e
      ]
      | no q ↦ sym (change.others a b (λ x y. p x) (λ x y. q x)) ∙ e
    ]
  ]

  -- a node that is not an end has the links that it had
  pub gains_links : (w : ℕ) → w ≢ u → w ≢ v → (q : ℕ) → g w q ≡ g' w q
  gains_links w wu wv q = change.others w q (λ x y. wu x) (λ x y. wv x)

  pub gains_near : (n w : ℕ) → w ≢ u → w ≢ v → neighbours g n w ≡ neighbours g' n w
  unfolding neighbours
  gains_near n w wu wv = filter_ext (range 0 n) (gains_links w wu wv)

  pub gains_degree : (n w : ℕ) → w ≢ u → w ≢ v → degree g n w ≡ degree g' n w
  unfolding degree
  gains_degree n w wu wv = ap length (gains_near n w wu wv)

  -- no node but the ends scores more with the edge, whatever its degree
  pub common_at_most : (n w : ℕ) → w ≢ u → w ≢ v → score g' n w ≤ score g n w
  common_at_most n w wu wv = rw (derived g change.old n w, derived g' change.new n w, ← gains_near n w wu wv)
      (sum_le _ _ (pairs (neighbours g n w)) (λ c i. pair_score_down g g' (neighbours g n w) gains_more c))

  module _ (n w : ℕ) (wu : g w u ≡ true) (wv : g w v ≡ true) (un : u < n) (vn : v < n) where
    pub near : neighbours g n w ≡ neighbours g' n w
    near = gains_near n w
        (λ e. true≢false (sym wu ∙ ap (λ x. g x u) e ∙ change.old.loopless u))
        (λ e. true≢false (sym wv ∙ ap (λ x. g x v) e ∙ change.old.loopless v))

    lost : degree g n w ≤ limit → (a b : ℕ) → g a b ≡ false → g' a b ≡ true
        → pair_score g' (neighbours g n w) (a, b) < pair_score g (neighbours g n w) (a, b)
    unfolding pair_score portion common degree
    lost few a b e d = rw (d, e) ((le-div_iff_mul-le {k = common g (neighbours g n w) a b + 1} (omega arith)).1
        (omega (arith, count_most (λ x. g a x && g b x) (neighbours g n w))))

    -- A COMMON NEIGHBOUR of the ends scores less with the edge, and more without it.
    pub common_lower : degree g n w ≤ limit → score g' n w < score g n w
    common_lower few = rw (derived g change.old n w, derived g' change.new n w, ← near)
        (elim (pairs_in (neighbours g n w) (neighbours_in g n w wu un) (neighbours_in g n w wv vn) ends_apart) [
          | inl m ↦ sum_lt _ _ (pairs (neighbours g n w)) (λ c i. pair_score_down g g' (neighbours g n w) gains_more c) m
              (lost few u v change.absent change.present)
          | inr m ↦ sum_lt _ _ (pairs (neighbours g n w)) (λ c i. pair_score_down g g' (neighbours g n w) gains_more c) m
              (lost few v u (change.old.symmetric v u ∙ change.absent) (change.new.symmetric v u ∙ change.present))
        ])

    fewer : (a b : ℕ) → Memᴰ (a, b) (pairs (neighbours g n w)) → g a b ≡ false → g' a b ≡ true
        → ((x y : ℕ) → x < y → (x ≡ a → y ≡ b → ⊥) → g x y ≡ g' x y)
        → count (unlinked g) (pairs (neighbours g n w)) ≡ count (unlinked g') (pairs (neighbours g n w)) + 1
    unfolding unlinked
    fewer a b m e d other =
        let nodes = neighbours g n w in
        let up = neighbours_up g n w in
        count_one_more (unlinked g') (unlinked g) (pairs nodes) (pairs_distinct 0 nodes up) m (rw d) (rw e) (λ c i q.
        ap not (sym (other c.0 c.1 (mem_pairs 0 nodes up i).less (λ x y. q (λ t. (x t, y t))))))

    -- ITS BOUND falls by 1, in grains.
    pub bound_lower : bound g n w ≡ bound g' n w + unit
    unfolding bound
    bound_lower =
        let nodes = neighbours g n w in
        let up = neighbours_up g n w in
        let ends = pairs_in nodes (neighbours_in g n w wu un) (neighbours_in g n w wv vn) ends_apart in
        let lower : count (unlinked g) (pairs nodes) ≡ count (unlinked g') (pairs nodes) + 1 = elim ends [
          | inl m ↦ fewer u v m change.absent change.present
              (λ x y l q. change.others x y q (λ a b. omega (arith, (mem_pairs 0 nodes up m).less)))
          | inr m ↦ fewer v u m (change.old.symmetric v u ∙ change.absent) (change.new.symmetric v u ∙ change.present)
              (λ x y l q. change.others x y (λ a b. omega (arith, (mem_pairs 0 nodes up m).less)) q)
        ] in
        omega (arith, lower, ap (λ l. count (unlinked g') (pairs l)) near)

  module _ (n w : ℕ) (wu : w ≢ u) (wv : w ≢ v) (not_both : (g w u && g w v) ≡ false) where
    in_ego : (a : ℕ) → w ≢ a → Memᴰ a (ego g n w) → g w a ≡ true
    unfolding ego
    in_ego a d m = elim (Memᴰ.cases_cons m) [ inl e ↦ absurd (d (sym e)) | inr i ↦ neighbours_linked g change.old n w i ]

    not_ends : (x y a b : ℕ) → w ≢ x → w ≢ y → (g w x && g w y) ≡ false → Memᴰ a (ego g n w) → Memᴰ b (ego g n w) → a ≡ x → b ≡ y → ⊥
    not_ends x y a b wx wy h i j p q =
        true≢false (sym (rw (in_ego x wx (Memᴰ.cast (sym p) i), in_ego y wy (Memᴰ.cast (sym q) j))) ∙ h)

    -- EVERY OTHER NODE scores the same.
    pub others_same : score g n w ≡ score g' n w
    others_same =
        score_same g g' n w (λ q h. gains_links w wu wv q)
        (λ a b i j. change.others a b (not_ends u v a b wu wv not_both i j) (not_ends v u a b wv wu (and_comm (g w v) (g w u) ∙ not_both) i j))
