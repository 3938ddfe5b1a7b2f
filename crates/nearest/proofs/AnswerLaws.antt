-- The answer by the paths to the listed nodes: what is found, and none. Assumes nothing.
use mathlib.Core.Bool.{◌&&◌, false, true}
use mathlib.Core.List.{List}
use mathlib.Core.Logic.{inl, inr}
use mathlib.Core.Path.{◌∙◌, ◌≡◌}
use Prim.Native.Nat.{◌+◌, ◌<◌, zero-le, ℕ, ◌≤◌}
use native.Mathlib.Nat.{sub-zero}
use native.Mathlib.Omega.{arith}
use borrow.Author.Tests.{le-ltb, lt-ltb}
use Rattle.arith.proofs.Sums.{any_to_here, any_to_never}
use Rattle.arith.proofs.Tests.{and_all, and-false, test}
use Rattle.arith.specs.Lists.{elem}
use Rattle.ego.specs.Graph.{Graph}
use Rattle.std.proofs.Common.{None, Some}
use Rattle.nearest.specs.Inside.Levels.{new_at}
use Rattle.nearest.specs.Nearest.{fewest_links, lowest_at, near, nearest_of}
use Rattle.nearest.specs.Paths.{any_at, listed_at, reaches}
use Rattle.packed.proofs.FirstLaws.{first_least}
use Rattle.packed.specs.Inside.Search.{FirstFrom}

module _ (g : Graph) (n p : ℕ) (listed : List ℕ) where
  -- a listed node is reached over h links, and none over fewer: it is new at level h
  pub listed_new : (h r : ℕ) → ((k : ℕ) → k < h → listed_at g n p listed k r ≡ false) → (new_at g n p h r && elem r listed) ≡ listed_at g n p listed h r
  unfolding listed_at new_at
  listed_new h r none = elim (test (elem r listed)) [
    | inl e ↦ rw (e, any_to_never (λ k. reaches g n k p r) h (λ k l. rw e at (none k l))) (and_all _ ∙ and_all (reaches g n h p r))
    | inr e ↦ rw e (and-false (new_at g n p h r))
  ]

  none_at : (h : ℕ) → ((r : ℕ) → r < n → listed_at g n p listed h r ≡ false) → any_at g n p listed h ≡ false
  unfolding any_at
  none_at h none = any_to_never _ n none

module _ (g : Graph) (n p : ℕ) (listed : List ℕ) (limit : ℕ) where
  fewest_first : {h : ℕ} → FirstFrom (any_at g n p listed) 0 (limit + 1) h → h ≡ fewest_links g n p listed limit
  unfolding fewest_links
  fewest_first f = rw sub-zero at (first_least (any_at g n p listed) f)

  pub answer_at : (q h : ℕ) → h ≤ limit → q < n → listed_at g n p listed h q ≡ true → ((k r : ℕ) → k < h → r < n → listed_at g n p listed k r ≡ false)
      → ((r : ℕ) → r < q → listed_at g n p listed h r ≡ false) → Some (near q h) ≡ nearest_of g n p listed limit
  unfolding nearest_of lowest_at
  answer_at q h l lq e none lower =
      let links : h ≡ fewest_links g n p listed limit = fewest_first (record {
        start = zero-le;
        stop = omega arith;
        none = λ k _ a. none_at g n p listed k (λ r. none k r a);
        some = λ _. unfold any_at in (any_to_here _ n q lq e);
      }) in
      let first : FirstFrom (listed_at g n p listed h) 0 n q = record { start = zero-le; stop = omega arith; none = λ r _ a. lower r a; some = λ _. e } in
      rw (← links, le-ltb limit h l, ← (rw sub-zero at (first_least (listed_at g n p listed h) first)))

  pub answer_none : ((k r : ℕ) → k ≤ limit → r < n → listed_at g n p listed k r ≡ false) → None ≡ nearest_of g n p listed limit
  unfolding nearest_of
  answer_none none =
      let links : limit + 1 ≡ fewest_links g n p listed limit = fewest_first (record {
        start = zero-le;
        stop = omega arith;
        none = λ k _ a. none_at g n p listed k (λ r. none k r (omega arith));
        some = λ a. absurd (omega arith);
      }) in
      rw (← links, lt-ltb limit (limit + 1) (omega arith))
