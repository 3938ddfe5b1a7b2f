-- The search, level by level: what its sets are, how it goes on, and how it ends. Assumes nothing.
use mathlib.Core.Bool.{◌&&◌, Bool, false, not, not-eq-not, or-true, true, true≢false, ◌||◌}
use mathlib.Core.List.{List}
use mathlib.Core.Path.{ap, ap₂, sym, ◌∙◌, ◌≡◌}
use Prim.Native.Nat.{◌+◌, ◌<◌, zero-le, ℕ, ◌≤◌}
use native.Mathlib.Decide.{ℕ_discrete}
use native.Mathlib.Omega.{arith}
use borrow.Author.Tests.{not-true}
use lib.Dec.{eqb}
use Rattle.arith.proofs.Counts.{count_fewer}
use Rattle.arith.proofs.Sums.{any_to_ext}
use Rattle.arith.proofs.Tests.{and-true}
use Rattle.arith.specs.Lists.{elem}
use Rattle.arith.specs.Sums.{any_to, count_to}
use Rattle.ego.specs.Graph.{Graph}
use Rattle.packed.specs.Pairs.{max_nodes}
use Rattle.packed.specs.Inside.Search.{FirstFrom}
use Rattle.nearest.proofs.AnswerLaws.{answer_at, answer_none, listed_new}
use Rattle.nearest.proofs.LevelLaws.{dead_end, level_first, level_next, new_inside, within_first, within_next, within_reaches}
use Rattle.nearest.proofs.SetLaws.{set_ext}
use Rattle.nearest.specs.Nearest.{near, nearest_of}
use Rattle.nearest.specs.Paths.{listed_at, reaches}
use Rattle.std.proofs.Common.{None, Some}
use Rattle.nearest.specs.Inside.Levels.{new_at, within}
use Rattle.nearest.specs.Inside.Search.{Searchable}
use Rattle.nearest.specs.Inside.Strips.{in_row, in_strips, places, SetOf}

-- ---- the sets of a turn, whatever graph they are of

-- the first node of a set
pub first_common : {s : List ℕ} {f : ℕ → Bool} {r : ℕ} → SetOf s f → FirstFrom (in_strips s) 0 places r → FirstFrom f 0 places r
first_common h e = record {
  start = e.start;
  stop = e.stop;
  none = λ i a b. sym (h.has i (omega (arith, e.stop))) ∙ e.none i a b;
  some = λ l. sym (h.has _ l) ∙ e.some l;
}

-- EACH LEVEL REACHES A NEW NODE.
pub level_new : (reached linked : List ℕ) {level more : List ℕ} {f : ℕ} → SetOf level (λ q. in_strips linked q && not (in_strips reached q))
    → SetOf more (λ q. in_strips reached q || in_strips level q) → FirstFrom (in_strips level) 0 places f → (f ≡ places → ⊥)
    → count_to (in_strips reached) places < count_to (in_strips more) places
level_new reached linked {level} {more} {f} l m e d =
    let inside : f < places = omega (arith, e.stop) in
    let new = and-true (in_strips linked f) (not (in_strips reached f)) (sym (l.has f inside) ∙ e.some inside) in
    count_fewer (in_strips reached) (in_strips more) places f (λ q b t. m.has q b ∙ ap (λ x. x || in_strips level q) t) inside (not-true _ new.1)
    (m.has f inside ∙ ap (λ x. in_strips reached f || x) (e.some inside) ∙ or-true (in_strips reached f))

-- ---- the levels of a graph

module _ (g : Graph) (n p : ℕ) (listed : List ℕ) where
  listed_here : (h r : ℕ) → listed_at g n p listed h r ≡ true → (elem r listed ≡ true) × (reaches g n h p r ≡ true)
  unfolding listed_at
  listed_here h r t = and-true (elem r listed) (reaches g n h p r) t

  here_listed : (h r : ℕ) → elem r listed ≡ true → reaches g n h p r ≡ true → listed_at g n p listed h r ≡ true
  unfolding listed_at
  here_listed h r a b = rw (a, b)

module _ {rows set : List ℕ} {p : ℕ} {g : Graph} {n : ℕ} {listed : List ℕ} (s : Searchable rows set p g n listed) where
  -- the level after so many hops, and that no listed node was in a level before
  pub record Fresh (level : List ℕ) (hops : ℕ) : Type 0 where
    pub new : SetOf level (new_at g n p hops)
    pub none : (k r : ℕ) → k < hops → r < n → listed_at g n p listed k r ≡ false

  -- and what is reached by then
  pub record Level (level reached : List ℕ) (hops : ℕ) : Type 0 where
    pub fresh : Fresh level hops
    pub all : SetOf reached (within g n p hops)

  pub first_level : {level : List ℕ} → SetOf level (λ q. eqb q p) → Level level level 0
  first_level h = record {
    fresh = record { new = set_ext h (λ q b. sym (level_first g n p q)); none = λ k r a. absurd (let z : ⊥ = omega arith in z) };
    all = set_ext h (λ q b. sym (within_first g n p q));
  }

  module _ {level : List ℕ} {hops : ℕ} (w : Fresh level hops) where
    pub level_inside : (q : ℕ) → q < places → in_strips level q ≡ true → q < max_nodes
    level_inside q b t = omega (arith, new_inside g n p s.inside hops q (sym (w.new.has q b) ∙ t), s.few)

    common : (r : ℕ) → r < n → (in_strips level r && in_strips set r) ≡ listed_at g n p listed hops r
    common r b =
        let few : r < places = omega (arith, s.few) in
        ap₂ (λ x y. x && y) (w.new.has r few) (s.set_is.has r few) ∙ listed_new g n p listed hops r (λ k a. w.none k r a b)

    -- none of the level is listed
    passed : FirstFrom (λ q. in_strips level q && in_strips set q) 0 places places → (k r : ℕ) → k ≤ hops → r < n → listed_at g n p listed k r ≡ false
    passed e k r a b = elim (ℕ_discrete k hops) [
      | yes h ↦ ap (λ k. listed_at g n p listed k r) h ∙ sym (common r b) ∙ e.none r zero-le (omega (arith, s.few))
      | no h ↦ w.none k r (omega arith) b
    ]

    pub found_at : (limit : ℕ) {node : ℕ} → hops ≤ limit → FirstFrom (λ q. in_strips level q && in_strips set q) 0 places node → node < places
        → Some (near node hops) ≡ nearest_of g n p listed limit
    found_at limit {node} l e inside =
        let here = e.some inside in
        let b : node < n = new_inside g n p s.inside hops node (sym (w.new.has node inside) ∙ (and-true (in_strips level node) _ here).0) in
        answer_at g n p listed limit node hops l b (sym (common node b) ∙ here) w.none
        (λ r a. sym (common r (omega arith)) ∙ e.none r zero-le a)

    pub none_within : FirstFrom (λ q. in_strips level q && in_strips set q) 0 places places → None ≡ nearest_of g n p listed hops
    none_within e = answer_none g n p listed hops (λ k r a b. passed e k r a b)

  module _ {level reached : List ℕ} {hops : ℕ} (w : Level level reached hops)
      (e : FirstFrom (λ q. in_strips level q && in_strips set q) 0 places places) {linked next : List ℕ}
      (to : SetOf linked (λ y. any_to (λ x. in_strips level x && in_row rows x y) max_nodes))
      (less : SetOf next (λ q. in_strips linked q && not (in_strips reached q))) where
    next_is : SetOf next (new_at g n p (hops + 1))
    next_is = set_ext less (λ q b.
        ap₂ (λ x y. x && not y)
        (to.has q b ∙ any_to_ext _ _ max_nodes (λ x c. ap₂ (λ u v. u && v) (w.fresh.new.has x (omega arith)) (s.rows_are.has x q b))) (w.all.has q b)
        ∙ sym (level_next g n p s.inside s.few hops q))

    pub next_fresh : Fresh next (hops + 1)
    next_fresh = record { new = next_is; none = λ k r a b. passed w.fresh e k r (omega arith) b }

    pub next_level : {more : List ℕ} → SetOf more (λ q. in_strips reached q || in_strips next q) → Level next more (hops + 1)
    next_level m = record {
      fresh = next_fresh;
      all = set_ext m (λ q b. ap₂ (λ x y. x || y) (w.all.has q b) (next_is.has q b) ∙ sym (within_next g n p hops q));
    }

    -- where nothing new is reached, nothing else ever is
    pub none_further : (limit : ℕ) → FirstFrom (in_strips next) 0 places places → None ≡ nearest_of g n p listed limit
    none_further limit f = answer_none g n p listed limit (λ k r a b. (not-eq-not {b = false}).0 (λ t.
        let here = listed_here g n p listed k r t in
        let (j, few, path) = within_reaches g n p hops r (dead_end g n p s.inside hops ended k r here.1) in
        true≢false (sym (here_listed g n p listed j r here.0 path) ∙ passed w.fresh e j r few b)))
      where
        ended : (v : ℕ) → new_at g n p (hops + 1) v ≡ false
        ended v = (not-eq-not {b = false}).0 (λ t.
            let b : v < places = omega (arith, new_inside g n p s.inside (hops + 1) v t, s.few) in
            true≢false (sym t ∙ sym (next_is.has v b) ∙ f.none v zero-le b))
