-- The least score and the largest: of a node without edges, and of a node no two of whose neighbours are linked. Assumes nothing.
use mathlib.Core.Bool.{◌&&◌, Bool, false, true}
use mathlib.Core.List.{[], Memᴰ, map}
use mathlib.Core.Path.{ap, refl, ◌∙◌, ◌≡◌}
use Prim.Native.Nat.{◌*◌, ◌+◌, ◌<◌, suc, ℕ}
use native.Mathlib.Nat.{suc-ne-zero, zero-add}
use native.Mathlib.Omega.{arith}
use borrow.Author.Tests.{ne_eqb, not-true}
use lib.Dec.{eqb}
use lib.ListN.{length}
use Rattle.arith.proofs.Counts.{count_all}
use Rattle.arith.proofs.Filter.{filter_none, mem_filter}
use Rattle.arith.proofs.ListSums.{sum_same}
use Rattle.arith.proofs.Pairs.{pairs_twice}
use Rattle.arith.proofs.Range.{mem_range}
use Rattle.arith.proofs.Sums.{sum_to_first}
use Rattle.arith.specs.Lists.{pairs, range, sum}
use Rattle.arith.specs.Sums.{bit}
use Rattle.ego.proofs.FoundLaws.{degree_is}
use Rattle.ego.proofs.Shares.{derived, pair_of}
use Rattle.ego.specs.Inside.Derived.{common, pair_score, portion}
use Rattle.ego.specs.Graph.{degree, Graph, neighbours, Simple}
use Rattle.ego.specs.Limits.{limit, unit}
use Rattle.ego.specs.Score.{score, share}
use Rattle.packed.specs.Bits.{differ}
use Rattle.packed.specs.Pairs.{pair_count}

-- ---- a node without edges

module _ (g : Graph) (n p : ℕ) (none : (q : ℕ) → q < n → g p q ≡ false) where
  alone : neighbours g n p ≡ []
  unfolding neighbours
  alone = filter_none (g p) (range 0 n) (λ q m. none q (rw zero-add at (mem_range 0 n m).1))

  pub edgeless_degree : degree g n p ≡ 0
  unfolding degree
  edgeless_degree = rw alone

  -- NO LINKS: SCORE 0.
  pub edgeless_score : score g n p ≡ 0
  unfolding score
  edgeless_score = ap (λ l. sum (map (share g n p) (pairs l))) alone

-- ---- a node no two of whose neighbours are linked

abbrev pub Apart : Graph → ℕ → ℕ → Type 0
Apart g n p = (u v : ℕ) → u < n → v < n → g p u ≡ true → g p v ≡ true → g u v ≡ false

module _ (g : Graph) (simple : Simple g) (n p : ℕ) (apart : Apart g n p) where
  apart_near : {u v : ℕ} → Memᴰ u (neighbours g n p) → Memᴰ v (neighbours g n p) → g u v ≡ false
  unfolding neighbours
  apart_near {u} {v} i j =
      let a = mem_filter (g p) (range 0 n) i in
      let b = mem_filter (g p) (range 0 n) j in
      apart u v (rw zero-add at (mem_range 0 n a.0).1) (rw zero-add at (mem_range 0 n b.0).1) a.1 b.1

  -- each pair of its neighbours gives 1
  gives_one : {c : ℕ × ℕ} → Memᴰ c (pairs (neighbours g n p)) → pair_score g (neighbours g n p) c ≡ unit
  unfolding pair_score portion common
  gives_one {c} m =
      let r = pair_of g simple n p m in
      rw (
        apart_near r.first r.second,
        filter_none (λ w. g c.0 w && g c.1 w) (neighbours g n p) (λ w i. rw (apart_near r.first i)),
      )

  -- ITS SCORE IS 1 FOR EACH PAIR OF ITS NEIGHBOURS.
  pub apart_score : score g n p ≡ unit * length (pairs (neighbours g n p))
  apart_score = derived g simple n p ∙ sum_same (pair_score g (neighbours g n p)) unit (pairs (neighbours g n p)) (λ c. gives_one)

  pub apart_pairs : score g n p ≡ unit * pair_count (degree g n p)
  unfolding pair_count degree
  apart_pairs = omega (arith, apart_score, pairs_twice (neighbours g n p))

  -- WITH AS MANY EDGES AS A NODE MAY HAVE it is the largest score, 780 times 1.
  pub apart_most : degree g n p ≡ limit → score g n p ≡ 4167486536509296000
  unfolding pair_count
  apart_most e = apart_pairs ∙ rw e

pub largest_is : ◌≡◌ {A = ℕ} (780 * unit) 4167486536509296000
largest_is = refl

-- ---- a graph that has such a node

-- Node 0 is linked to every other, and no others are linked: of the two ends one is 0, and not both.
unfoldable pub star : Graph
star a b = differ (eqb a 0) (eqb b 0)

pub star_simple : Simple star
unfolding star
star_simple = record { symmetric = λ a b. swap (eqb a 0) (eqb b 0); loopless = λ a. none (eqb a 0) }
  where
    swap : (x y : Bool) → differ x y ≡ differ y x
    swap true true = refl
    swap true false = refl
    swap false true = refl
    swap false false = refl

    none : (x : Bool) → differ x x ≡ false
    none true = refl
    none false = refl

pub star_apart : (n : ℕ) → Apart star n 0
unfolding star
star_apart n u v hu hv e d = rw (not-true (eqb u 0) e, not-true (eqb v 0) d)

pub star_degree : (n : ℕ) → degree star (suc n) 0 ≡ n
unfolding star
star_degree n =
    degree_is star (suc n) 0 ∙ sum_to_first (λ q. bit (star 0 q)) n ∙ zero-add _
    ∙ count_all (λ q. star 0 (suc q)) n (λ q h. rw (ne_eqb (suc q) 0 (suc-ne-zero q)))

-- THE LARGEST SCORE IS REACHED: the middle of a star with as many edges as a node may have.
pub star_most : score star (limit + 1) 0 ≡ 4167486536509296000
star_most = apart_most star star_simple (limit + 1) 0 (star_apart (limit + 1)) (star_degree limit)
