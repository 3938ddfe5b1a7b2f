-- Paths: what the test for one says, one link more at either end, and paths in a graph that has more links. Assumes nothing.
use mathlib.Core.Bool.{true}
use mathlib.Core.List.{[], List, ◌∷◌}
use mathlib.Core.Path.{ap, refl, sym, ◌∙◌, ◌≡◌}
use Prim.Native.Nat.{◌+◌, ◌<◌, suc, zero, zero-le, ℕ}
use native.Mathlib.Nat.{zero-add}
use native.Mathlib.Numerals.{add-one}
use native.Mathlib.Omega.{arith}
use borrow.Author.Tests.{eq-eqb, eqb-true}
use lib.Dec.{eqb}
use lib.ListN.{length}
use Rattle.arith.proofs.Members.{any_mem, mem_any}
use Rattle.arith.proofs.Range.{mem_range, range_mem}
use Rattle.arith.proofs.Tests.{eqb_same, same_test}
use Rattle.arith.specs.Lists.{range}
use Rattle.ego.proofs.Agreement.{Agree}
use Rattle.ego.proofs.Complete.{complete, sound}
use Rattle.ego.proofs.Within.{Within}
use Rattle.ego.specs.Graph.{Graph, stay, step, Walk, walks}
use Rattle.nearest.specs.NearestListed.{Path}
use Rattle.nearest.specs.Paths.{reaches}

module _ (g : Graph) (n : ℕ) where
  pub reaches_path : (h u v : ℕ) → reaches g n h u v ≡ true → Path g n h u v
  unfolding reaches
  reaches_path h u v e =
      let (l, m) = mem_any (walks g (range 0 n) h u v) e in
      let r = sound g (range 0 n) h u v m in
      record { nodes = l; walk = r.0; links = r.1 ∙ sym (add-one h) }

  pub path_reaches : (h u v : ℕ) → Path g n h u v → reaches g n h u v ≡ true
  unfolding reaches
  path_reaches h u v p = any_mem (complete g (range 0 n) p.walk h (p.links ∙ add-one h))

  pub reaches_zero : (u v : ℕ) → reaches g n 0 u v ≡ eqb u v
  reaches_zero u v = same_test _ (eqb u v)
      (λ e. let p = reaches_path 0 u v e in eq-eqb u v (alone p.walk p.links))
      (λ e. path_reaches 0 u v (record { nodes = u ∷ []; walk = stay (eqb-true u v e); links = refl }))
    where
      alone : {l : List ℕ} → Walk g (range 0 n) u v l → length l ≡ 1 → u ≡ v
      alone (stay e) h = e
      alone (step e m (stay d)) h = absurd (omega arith)
      alone (step e m (step d i w)) h = absurd (omega arith)

  pub reaches_self : (u : ℕ) → reaches g n 0 u u ≡ true
  reaches_self u = reaches_zero u u ∙ eqb_same u

  pub reaches_same : (u v : ℕ) → reaches g n 0 u v ≡ true → u ≡ v
  reaches_same u v e = eqb-true u v (sym (reaches_zero u v) ∙ e)

  -- a link more, as the laws below have it and as a recursion has it
  one_more : (h u v : ℕ) → reaches g n (h + 1) u v ≡ reaches g n (suc h) u v
  one_more h u v = ap (λ k. reaches g n k u v) (add-one h)

  -- one link more at the start

  reaches_from : (h u w v : ℕ) → w < n → g u w ≡ true → reaches g n h w v ≡ true → reaches g n (h + 1) u v ≡ true
  reaches_from h u w v l t e =
      let p = reaches_path h w v e in
      path_reaches (h + 1) u v (record { nodes = u ∷ p.nodes; walk = step t (range_mem 0 n zero-le (omega arith)) p.walk; links = omega (arith, p.links) })

  from_reaches : (h u v : ℕ) → reaches g n (h + 1) u v ≡ true → (w : ℕ) × (w < n) × (g u w ≡ true) × (reaches g n h w v ≡ true)
  from_reaches h u v e = let p = reaches_path (h + 1) u v e in next p.walk p.links
    where
      next : {l : List ℕ} → Walk g (range 0 n) u v l → length l ≡ h + 1 + 1 → (w : ℕ) × (w < n) × (g u w ≡ true) × (reaches g n h w v ≡ true)
      next (stay d) q = absurd (omega arith)
      next (step {w = w} {l = l} t m r) q =
          (w, rw zero-add at (mem_range 0 n m).1, t, path_reaches h w v (record { nodes = l; walk = r; links = omega arith }))

  -- one link more at the end

  pub reaches_to : (h u w v : ℕ) → reaches g n h u w ≡ true → g w v ≡ true → v < n → reaches g n (h + 1) u v ≡ true
  reaches_to zero u w v e t l =
      let d = reaches_same u w e in
      reaches_from 0 u v v l (ap (λ x. g x v) d ∙ t) (reaches_self v)
  reaches_to (suc h) u w v e t l =
      let (x, lx, tx, r) = from_reaches h u w (one_more h u w ∙ e) in
      reaches_from (suc h) u x v lx tx (sym (one_more h x v) ∙ reaches_to h x w v r t l)

  pub to_reaches : (h u v : ℕ) → u < n → reaches g n (h + 1) u v ≡ true
      → (w : ℕ) × (w < n) × (reaches g n h u w ≡ true) × (g w v ≡ true) × (v < n)
  to_reaches zero u v l e =
      let (w, lw, t, r) = from_reaches 0 u v e in
      let d = reaches_same w v r in
      (u, l, reaches_self u, ap (g u) (sym d) ∙ t, omega arith)
  to_reaches (suc h) u v l e =
      let (w, lw, t, r) = from_reaches (suc h) u v e in
      let (x, lx, q, s, k) = to_reaches h w v lw (one_more h w v ∙ r) in
      (x, lx, sym (one_more h u x) ∙ reaches_from h u w x lw t q, s, k)

  pub reaches_inside : (h u v : ℕ) → u < n → reaches g n h u v ≡ true → v < n
  reaches_inside zero u v l e = let d = reaches_same u v e in omega arith
  reaches_inside (suc h) u v l e = (to_reaches h u v l (one_more h u v ∙ e)).4

pub reaches_more : {n : ℕ} (g g' : Graph) → Within n g g' → (h u v : ℕ) → u < n → reaches g n h u v ≡ true → reaches g' n h u v ≡ true
reaches_more {n} g g' more zero u v l e = reaches_zero g' n u v ∙ sym (reaches_zero g n u v) ∙ e
reaches_more {n} g g' more (suc h) u v l e =
    let (w, lw, t, r) = from_reaches g n h u v (one_more g n h u v ∙ e) in
    sym (one_more g' n h u v) ∙ reaches_from g' n h u w v lw (more u w l lw t) (reaches_more g g' more h w v lw r)

pub reaches_agree : {n : ℕ} (g g' : Graph) → Agree n g g' → (h u v : ℕ) → u < n → reaches g n h u v ≡ reaches g' n h u v
reaches_agree g g' same h u v l = same_test _ _
    (reaches_more g g' (λ a b x y t. sym (same a b x y) ∙ t) h u v l)
    (reaches_more g' g (λ a b x y t. same a b x y ∙ t) h u v l)
