-- The levels of a breadth-first search: the first, the next, the end, and how many there are. Assumes nothing.
use mathlib.Core.Bool.{◌&&◌, Bool, false, not, not-eq-not, true, true≢false, ◌||◌}
use mathlib.Core.Path.{ap, refl, sym, ◌∙◌, ◌≡◌}
use Prim.Native.Nat.{◌+◌, ◌<◌, suc, zero, zero-le, ℕ, ◌≤◌}
use native.Mathlib.Decide.{dec_lt}
use native.Mathlib.Numerals.{add-one}
use native.Mathlib.Omega.{arith}
use borrow.Author.Tests.{lt-ltb, ltb-true, not-true}
use lib.Dec.{eqb, ltb}
use Rattle.arith.proofs.Counts.{count_fewer}
use Rattle.arith.proofs.Least.{least_from_le}
use Rattle.arith.proofs.Sums.{any_to_false, any_to_here, any_to_never, count_to_le, some_of}
use Rattle.arith.proofs.Tests.{and_all, and-true, eqb_turned, same_test}
use Rattle.arith.specs.Lists.{least_from}
use Rattle.arith.specs.Sums.{any_to, count_to}
use Rattle.ego.specs.Graph.{Graph}
use Rattle.nearest.proofs.PathLaws.{reaches_inside, reaches_self, reaches_to, reaches_zero, to_reaches}
use Rattle.nearest.specs.Inside.Levels.{among, new_at, within}
use Rattle.nearest.specs.Paths.{reaches}
use Rattle.packed.proofs.FirstLaws.{least_first}
use Rattle.packed.specs.Pairs.{max_nodes}

-- ---- what the tests say

module _ (g : Graph) (n : ℕ) where
  among_all : (x y : ℕ) → among g n x y ≡ true → (x < n) × (y < n) × (g x y ≡ true)
  unfolding among
  among_all x y e =
      let r = and-true (ltb x n) (ltb y n && g x y) e in
      let s = and-true (ltb y n) (g x y) r.1 in
      (ltb-true x n r.0, ltb-true y n s.0, s.1)

  all_among : (x y : ℕ) → x < n → y < n → g x y ≡ true → among g n x y ≡ true
  unfolding among
  all_among x y a b e = rw (lt-ltb x n a, lt-ltb y n b, e)

module _ (g : Graph) (n u : ℕ) where
  -- over at most h links
  reaches_within : (h k v : ℕ) → k ≤ h → reaches g n k u v ≡ true → within g n u h v ≡ true
  unfolding within
  reaches_within h k v l e = any_to_here _ (h + 1) k (omega arith) e

  pub within_reaches : (h v : ℕ) → within g n u h v ≡ true → (k : ℕ) × (k ≤ h) × (reaches g n k u v ≡ true)
  unfolding within
  within_reaches h v e = let s = some_of _ (h + 1) e in (s.at, omega (arith, s.inside), s.passes)

  -- over h links and over no fewer
  pub new_reaches : (h v : ℕ) → new_at g n u h v ≡ true → reaches g n h u v ≡ true
  unfolding new_at
  new_reaches h v e = (and-true (reaches g n h u v) (not (any_to (λ k. reaches g n k u v) h)) e).0

  new_fewest : (h v : ℕ) → new_at g n u h v ≡ true → (k : ℕ) → k < h → reaches g n k u v ≡ false
  unfolding new_at
  new_fewest h v e = any_to_false _ h (not-true _ (and-true (reaches g n h u v) (not (any_to (λ k. reaches g n k u v) h)) e).1)

  reaches_new : (h v : ℕ) → reaches g n h u v ≡ true → ((k : ℕ) → k < h → reaches g n k u v ≡ false) → new_at g n u h v ≡ true
  unfolding new_at
  reaches_new h v e none = rw (e, any_to_never (λ k. reaches g n k u v) h none)

  new_within : (h v : ℕ) → new_at g n u h v ≡ true → within g n u h v ≡ true
  new_within h v e = reaches_within h h v (omega arith) (new_reaches h v e)

  -- a node that is reached is new at some level
  pub reached_new : (h v : ℕ) → reaches g n h u v ≡ true → (k : ℕ) × (k ≤ h) × (new_at g n u k v ≡ true)
  reached_new h v e =
      let f : ℕ → Bool = λ k. reaches g n k u v in
      let k : ℕ = least_from f 0 (h + 1) in
      let first = least_first f 0 (h + 1) in
      let few : k ≤ h = least_from_le f 0 (h + 1) h zero-le e in
      (k, few, reaches_new k v (first.some (omega arith)) (λ j l. first.none j zero-le l))

  -- ---- the first level

  pub level_first : (v : ℕ) → new_at g n u 0 v ≡ eqb v u
  unfolding new_at any_to
  level_first v = and_all (reaches g n 0 u v) ∙ reaches_zero g n u v ∙ eqb_turned u v

  pub within_first : (v : ℕ) → within g n u 0 v ≡ eqb v u
  unfolding within any_to
  within_first v = reaches_zero g n u v ∙ eqb_turned u v

  -- ---- a level and the one before

  one_more : (h v : ℕ) → new_at g n u (h + 1) v ≡ new_at g n u (suc h) v
  one_more h v = ap (λ k. new_at g n u k v) (add-one h)

  -- what the next level adds
  next_is : (h v : ℕ) → new_at g n u (h + 1) v ≡ (reaches g n (h + 1) u v && not (within g n u h v))
  unfolding new_at within
  next_is h v = refl

  pub within_next : (h v : ℕ) → within g n u (h + 1) v ≡ (within g n u h v || new_at g n u (h + 1) v)
  unfolding within new_at any_to
  within_next h v = rw (add-one (h + 1)) (either (any_to (λ k. reaches g n k u v) (h + 1)) (reaches g n (h + 1) u v))
    where
      either : (a b : Bool) → (a || b) ≡ (a || b && not a)
      either true b = refl
      either false true = refl
      either false false = refl

  new_not_within : (h v : ℕ) → new_at g n u (h + 1) v ≡ true → within g n u h v ≡ false
  new_not_within h v e = not-true _ (and-true (reaches g n (h + 1) u v) _ (sym (next_is h v) ∙ e)).1

  within_more : (h v : ℕ) → within g n u h v ≡ true → within g n u (h + 1) v ≡ true
  within_more h v e = within_next h v ∙ ap (λ b. b || new_at g n u (h + 1) v) e

module _ (g : Graph) (n u : ℕ) (hu : u < n) where
  pub new_inside : (h v : ℕ) → new_at g n u h v ≡ true → v < n
  new_inside h v e = reaches_inside g n h u v hu (new_reaches g n u h v e)

  -- a node of a level has a neighbour in the one before
  next_from : (h v : ℕ) → new_at g n u (h + 1) v ≡ true → (x : ℕ) × (new_at g n u h x ≡ true) × (among g n x v ≡ true)
  next_from h v e =
      let (x, lx, r, t, lv) = to_reaches g n h u v hu (new_reaches g n u (h + 1) v e) in (
        x,
        reaches_new g n u h x r (λ k l. (not-eq-not {b = false}).0 (λ s.
            true≢false (sym (reaches_to g n k u x v s t lv) ∙ new_fewest g n u (h + 1) v e (k + 1) (omega arith)))),
        all_among g n x v lx lv t,
      )

  pub level_next : n ≤ max_nodes → (h v : ℕ)
      → new_at g n u (h + 1) v ≡ (any_to (λ x. new_at g n u h x && among g n x v) max_nodes && not (within g n u h v))
  level_next few h v =
      let f : ℕ → Bool = λ x. new_at g n u h x && among g n x v in
      same_test _ (any_to f max_nodes && not (within g n u h v))
      (λ e.
      let (x, new, link) = next_from h v e in
      rw (any_to_here f max_nodes x (omega (arith, new_inside h x new)) (rw (new, link)), new_not_within g n u h v e))
      (λ e.
      let r = and-true (any_to f max_nodes) (not (within g n u h v)) e in
      let s = some_of f max_nodes r.0 in
      let (new, link) = and-true (new_at g n u h s.at) (among g n s.at v) s.passes in
      let (lx, lv, t) = among_all g n s.at v link in
      next_is g n u h v ∙ rw (reaches_to g n h u s.at v (new_reaches g n u h s.at new) t lv) r.1)

  -- and each level before it has a node
  level_before : (i h v : ℕ) → i ≤ h → new_at g n u h v ≡ true → (x : ℕ) × (new_at g n u i x ≡ true)
  level_before i zero v l e = let d : i ≡ 0 = omega arith in (v, ap (λ k. new_at g n u k v) d ∙ e)
  level_before i (suc h) v l e = elim (dec_lt h i) [
    | yes a ↦ let d : i ≡ suc h = omega arith in (v, ap (λ k. new_at g n u k v) d ∙ e)
    | no a ↦ level_before i h (next_from h v (one_more g n u h v ∙ e)).0 (omega arith) (next_from h v (one_more g n u h v ∙ e)).1
  ]

  -- where a level is empty, no path leads further
  pub dead_end : (h : ℕ) → ((v : ℕ) → new_at g n u (h + 1) v ≡ false) → (k v : ℕ) → reaches g n k u v ≡ true → within g n u h v ≡ true
  dead_end h none k v e =
      let (j, _, new) = reached_new g n u k v e in
      elim (dec_lt h j) [
        | yes l ↦ let (x, t) = level_before (h + 1) j v (omega arith) new in absurd (true≢false (sym t ∙ none x))
        | no l ↦ reaches_within g n u h j v (omega arith) (new_reaches g n u j v new)
      ]

  -- ---- how many levels

  levels_grow : (h v : ℕ) → new_at g n u (h + 1) v ≡ true → count_to (within g n u h) n < count_to (within g n u (h + 1)) n
  levels_grow h v e = count_fewer (within g n u h) (within g n u (h + 1)) n v (λ q _. within_more g n u h q)
      (new_inside (h + 1) v e) (new_not_within g n u h v e) (new_within g n u (h + 1) v e)

  levels_count : (h v : ℕ) → new_at g n u h v ≡ true → h < count_to (within g n u h) n
  levels_count zero v e = omega (
    arith,
    count_fewer (λ _. false) (within g n u 0) n u (λ q _ z. absurd (true≢false (sym z))) hu refl
        (reaches_within g n u 0 0 u (omega arith) (reaches_self g n u)),
  )
  levels_count (suc h) v e =
      let d = one_more g n u h v ∙ e in
      let (x, new, _) = next_from h v d in
      omega (arith, levels_count h x new, levels_grow h v d, ap (λ k. count_to (within g n u k) n) (add-one h))

  pub far_few : (h v : ℕ) → new_at g n u h v ≡ true → h < n
  far_few h v e = omega (arith, levels_count h v e, count_to_le (within g n u h) n)
