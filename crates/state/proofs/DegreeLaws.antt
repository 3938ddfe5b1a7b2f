-- What the degrees of one pass say of a graph: whether a node has too many edges. Assumes nothing.
use mathlib.Core.Bool.{Bool, false, or-false, ◌||◌}
use mathlib.Core.List.{List, [], ◌∷◌}
use mathlib.Core.Path.{ap, sym, ◌∙◌, ◌≡◌}
use Prim.Native.Nat.{◌*◌, ◌+◌, ◌-◌, ◌<◌, min, suc, zero, ℕ, ◌≤◌}
use native.Mathlib.Decide.{dec_lt}
use native.Mathlib.Nat.{add-zero, zero-add}
use native.Mathlib.Omega.{arith}
use borrow.Author.Tests.{ltb-false}
use lib.Dec.{ltb}
use lib.ListN.{get_or, length, take}
use Rattle.std.specs.List.{list_any, range_with_len}
use Rattle.arith.proofs.Sums.{any_to_cat, any_to_ext, any_to_false, any_to_first, any_to_none}
use Rattle.arith.specs.Sums.{any_to}
use Rattle.ego.proofs.FoundLaws.{degree_is}
use Rattle.ego.specs.Graph.{degree}
use Rattle.ego.specs.Limits.{limit}
use Rattle.packed.proofs.DegreeLaws.{strip_at}
use Rattle.packed.specs.Inside.Degrees.{degrees_from, degrees_of}
use Rattle.packed.specs.Inside.Runs.{max_run}
use Rattle.packed.specs.Edges.{edge}
use Rattle.packed.specs.Pairs.{max_nodes}
use Rattle.state.specs.Refusal.{everyone, too_many}

-- a test over the first n of a list, place by place
pub any_listed : (f : ℕ → Bool) (xs : List ℕ) (n : ℕ) → n ≤ length xs → list_any f (take n xs) ≡ any_to (λ p. f (get_or xs p 0)) n
any_listed f xs zero h = sym (any_to_none _)
any_listed f [] (suc n) h = absurd (omega arith)
any_listed f (x ∷ xs) (suc n) h = ap (λ t. f x || t) (any_listed f xs n (omega arith)) ∙ sym (any_to_first _ n)

-- where none of the first n degrees is too many
pub within_by : (degrees : List ℕ) (n : ℕ) {t : Bool} → t ≡ any_to (λ p. ltb limit (get_or degrees p 0)) n → t ≡ false → (p : ℕ) → p < n → get_or degrees p 0 ≤ limit
within_by degrees n e z p h = ltb-false limit (get_or degrees p 0) (any_to_false _ n (sym e ∙ z) p h)

-- the degrees of a strip, the `size` nodes from `first` on, are tested as far as there are nodes
module _ (es : List ℕ) (first size n : ℕ) {degrees : List ℕ} (e : degrees ≡ degrees_from es first size n) where
  degree_of : (j : ℕ) → j < size → first + j < n → get_or degrees j 0 ≡ degree (edge es) n (first + j)
  degree_of j h l = ap (λ ds. get_or ds j 0) e ∙ strip_at es first size n j h l ∙ sym (degree_is _ _ _)

  pub strip_by : (m : ℕ) → m ≤ size → first + m ≤ n → {t : Bool} → t ≡ any_to (λ j. ltb limit (get_or degrees j 0)) m
      → t ≡ any_to (λ j. ltb limit (degree (edge es) n (first + j))) m
  strip_by m h l q = q ∙ any_to_ext _ _ m (λ j k. ap (ltb limit) (degree_of j (omega arith) (omega arith)))

-- the strip of all nodes
pub over_by : (es : List ℕ) (n : ℕ) {degrees : List ℕ} → n ≤ max_nodes → degrees ≡ degrees_of es n → {t : Bool} → t ≡ any_to (λ p. ltb limit (get_or degrees p 0)) n
    → t ≡ too_many (edge es) n everyone
unfolding too_many
over_by es n few e q = strip_by es 0 max_nodes n e n few (omega arith) q ∙ any_to_ext _ _ n (λ p h. ap (λ x. ltb limit (degree (edge es) n x)) (zero-add p))

-- ---- a test over n nodes, strip by strip

-- a test over the numbers from a on
any_ranged : (f : ℕ → Bool) (a n : ℕ) → list_any f (range_with_len a n) ≡ any_to (λ i. f (a + i)) n
any_ranged f a zero = sym (any_to_none _)
any_ranged f a (suc n) =
    ap (λ t. f a || t) (any_ranged f (a + 1) n ∙ any_to_ext _ _ n (λ i h. let e : a + 1 + i ≡ a + suc i = omega arith in ap f e))
    ∙ ap (λ p. f p || any_to (λ i. f (a + suc i)) n) (sym (add-zero a)) ∙ sym (any_to_first (λ i. f (a + i)) n)

module _ (f : ℕ → Bool) (n : ℕ) where
  -- a test of strip k, as far as there are nodes
  abbrev pub any_strip : ℕ → Bool
  any_strip k = any_to (λ j. f (max_run * k + j)) (min (n - max_run * k) max_run)

  any_strips : (k : ℕ) → any_to any_strip k ≡ any_to f (min n (max_run * k))
  unfolding any_to
  any_strips zero = let none : 0 ≡ min n (max_run * 0) = omega arith in ap (any_to f) none
  any_strips (suc k) = ap (λ t. t || any_strip k) (any_strips k) ∙ elim (dec_lt (max_run * k) n) [
    | yes h ↦
        let from : min n (max_run * k) ≡ max_run * k = omega arith in
        let to : max_run * k + min (n - max_run * k) max_run ≡ min n (max_run * suc k) = omega arith in
        ap (λ m. any_to f m || any_strip k) from ∙ sym (any_to_cat f (max_run * k) _) ∙ ap (any_to f) to
    | no h ↦
        let none : min (n - max_run * k) max_run ≡ 0 = omega arith in
        let same : min n (max_run * k) ≡ min n (max_run * suc k) = omega arith in
        ap (λ m. any_to f (min n (max_run * k)) || any_to (λ j. f (max_run * k + j)) m) none
        ∙ or-false _ ∙ ap (any_to f) same
  ]

  -- the strips of all nodes
  pub strips_all : (m : ℕ) → n ≤ max_run * m → list_any any_strip (range_with_len 0 m) ≡ any_to f n
  strips_all m h =
      let all : min n (max_run * m) ≡ n = omega arith in
      any_ranged any_strip 0 m ∙ any_to_ext _ _ m (λ k l. ap any_strip (zero-add k)) ∙ any_strips m ∙ ap (any_to f) all
