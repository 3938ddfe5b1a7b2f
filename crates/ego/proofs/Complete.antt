-- The list of the walks has every walk, and each once; so has that of the shortest. Assumes nothing.
use mathlib.Core.Bool.{Bool}
use mathlib.Core.List.Memᴰ
use mathlib.Core.List.{[], List, Memᴰ, map, tail-eq_of_cons-eq, ◌∷◌}
use mathlib.Core.Logic.{inl, inr}
use mathlib.Core.Path.{ap, refl, sym, ◌∙◌, ◌≡◌}
use Prim.Native.Nat.{suc, suc-le-suc, zero, zero-le, ℕ, ◌≤◌}
use native.Mathlib.Nat.{le_antisymm, suc_inj}
use native.Mathlib.Omega.{arith}
use borrow.Author.Tests.{eqb-true}
use lib.Dec.{eqb}
use lib.ListN.{length}
use Rattle.arith.proofs.Filter.{filter_in, mem_filter}
use Rattle.arith.proofs.Least.{least_from_le, least_from_passes}
use Rattle.arith.proofs.Members.{any_mem, concat_in, distinct_concat, distinct_filter, distinct_map, mem_any, mem_concat}
use Rattle.arith.proofs.Tests.{eqb_same, test}
use Rattle.arith.specs.Lists.{Distinct, filter, least_from, non_empty}
use Rattle.ego.specs.Graph.{distance, Graph, Shortest, shortest, stay, step, Walk, walks}

module _ (g : Graph) (h : List ℕ) where
  pub sound : (k u v : ℕ) {l : List ℕ} → Memᴰ l (walks g h k u v) → Walk g h u v l × (length l ≡ suc k)
  unfolding walks
  sound zero u v {l} m =
      elim (test (eqb u v)) [
        | inl e ↦ elim (Memᴰ.cases_cons (rw e at m)) [
          | inl p ↦ rw p (stay (eqb-true u v e), refl)
          | inr i ↦ absurd (Memᴰ.not-nil i)
        ]
        | inr e ↦ absurd (Memᴰ.not-nil (rw e at m))
      ]
  sound (suc k) u v {l} m =
      let (w, a, b) = mem_concat (λ w. map (λ l. u ∷ l) (walks g h k w v)) (filter (g u) h) m in
      let (l', c, e) = Memᴰ.of_map (λ l. u ∷ l) (walks g h k w v) b in
      let r : Walk g h w v l' × (length l' ≡ suc k) = sound k w v c in
      let q = mem_filter (g u) h a in
      rw (← e) (step q.1 q.0 r.0, ap suc r.1)

  walk_some : {u v : ℕ} {l : List ℕ} → Walk g h u v l → 1 ≤ length l
  walk_some (stay e) = omega arith
  walk_some (step e m w) = omega arith

  pub complete : {u v : ℕ} {l : List ℕ} → Walk g h u v l → (k : ℕ) → length l ≡ suc k → Memᴰ l (walks g h k u v)
  unfolding walks
  complete {u} {v} (stay e) zero n = rw (← e, eqb_same u) (Memᴰ.head refl)
  complete (stay e) (suc k) n = absurd (let z : ⊥ = omega arith in z)
  complete (step e m w) zero n = absurd (let z : ⊥ = omega (arith, walk_some w) in z)
  complete (step {u = u} {w = x} {v = v} e m w) (suc k) n =
      concat_in (λ w. map (λ l. u ∷ l) (walks g h k w v)) (filter (g u) h) (filter_in (g u) h m e) (Memᴰ.map (λ l. u ∷ l) (complete w k (suc_inj n)))

  -- each once

  starts : (k w w' v : ℕ) (l : List ℕ) → Memᴰ l (walks g h k w v) → Memᴰ l (walks g h k w' v) → w ≡ w'
  starts k w w' v l i j = first (sound k w v i).0 ∙ sym (first (sound k w' v j).0)
    where
      head_or : List ℕ → ℕ
      head_or [] = 0
      head_or (x ∷ xs) = x

      first : {u v : ℕ} {l : List ℕ} → Walk g h u v l → u ≡ head_or l
      first (stay e) = refl
      first (step e m w) = refl

  pub once : (k u v : ℕ) → Distinct h → Distinct (walks g h k u v)
  unfolding walks
  once zero u v d = elim (test (eqb u v)) [ inl e ↦ rw e (λ m. Memᴰ.not-nil m, tt) | inr e ↦ rw e tt ]
  once (suc k) u v d =
      distinct_concat (λ w. map (λ l. u ∷ l) (walks g h k w v))
      (λ w. distinct_map (λ l. u ∷ l) (λ x y e. tail-eq_of_cons-eq e) (walks g h k w v) (once k w v d))
      (λ w w' l i j.
      let (a, x, e) = Memᴰ.of_map (λ l. u ∷ l) (walks g h k w v) i in
      let (b, y, f) = Memᴰ.of_map (λ l. u ∷ l) (walks g h k w' v) j in
      starts k w w' v a x (Memᴰ.cast (tail-eq_of_cons-eq (e ∙ sym f)) y))
      (filter (g u) h) (distinct_filter (g u) h d)

  -- the shortest

  pub distance_le : (u v : ℕ) {l : List ℕ} → Walk g h u v l → suc (distance g h u v) ≤ length l
  unfolding distance
  distance_le u v {l} w = go (length l) refl
    where
      go : (n : ℕ) → length l ≡ n → suc (least_from (λ k. non_empty (walks g h k u v)) 0 (length h)) ≤ length l
      go zero e = absurd (let z : ⊥ = omega (arith, walk_some w) in z)
      go (suc k) e = rw e (suc-le-suc (least_from_le (λ k. non_empty (walks g h k u v)) 0 (length h) k zero-le (any_mem (complete w k e))))

  pub shortest_are : (u v : ℕ) {l : List ℕ} → Memᴰ l (shortest g h u v) → Shortest g h u v l
  unfolding shortest
  shortest_are u v {l} m =
      let r = sound (distance g h u v) u v m in
      record { walk = r.0; minimal = λ l' w. omega (arith, r.1, distance_le u v w) }

  -- where there is a walk that has no more nodes than h
  pub all_shortest : (u v : ℕ) {o l : List ℕ} → Walk g h u v o → length o ≤ length h → Shortest g h u v l → Memᴰ l (shortest g h u v)
  unfolding shortest distance
  all_shortest u v {o} {l} w short s =
      let f : ℕ → Bool = λ k. non_empty (walks g h k u v) in
      let (k, n) = pred_of (length o) (walk_some w) in
      let some = least_from_passes f 0 (length h) k zero-le (omega arith) (any_mem (complete w k n)) in
      let (l', m) = mem_any (walks g h (distance g h u v) u v) some in
      let r = sound (distance g h u v) u v m in
      complete s.walk (distance g h u v) (le_antisymm (omega (arith, r.1, s.minimal l' r.0)) (distance_le u v s.walk))
    where
      pred_of : (n : ℕ) → 1 ≤ n → (k : ℕ) × (n ≡ suc k)
      pred_of zero h = absurd (let z : ⊥ = omega arith in z)
      pred_of (suc k) h = (k, refl)
