-- The laws of a spread: a set takes in the rows of a word's nodes, from the last on, and those of a set's, strip by strip. Assumes nothing.
use mathlib.Core.Bool.{◌&&◌, and_assoc, and-or_distrib_right, Bool, false, or_assoc, or-false, true, ◌||◌}
use mathlib.Core.List.{List}
use mathlib.Core.Path.{ap, sym, ◌∙◌, ◌≡◌}
use Prim.Native.Nat.{◌+◌, ◌/◌, ◌<◌, zero-le, ℕ, ◌≤◌}
use native.Mathlib.Decide.{ℕ_discrete}
use native.Mathlib.Omega.{arith}
use borrow.Author.Tests.{eqb-true, le-ltb, lt-ltb, ne_eqb}
use lib.Dec.{eqb, ltb}
use lib.ListN.{get_or, length}
use Rattle.arith.proofs.Sums.{any_to_ext, any_to_never, any_to_or, any_to_with}
use Rattle.arith.proofs.Tests.{and-true, ltb_more}
use Rattle.arith.specs.Sums.{any_to}
use Rattle.packed.specs.Pairs.{max_nodes}
use Rattle.packed.specs.Inside.Runs.{max_run}
use Rattle.nearest.proofs.SetLaws.{set_ext}
use Rattle.nearest.proofs.StripLaws.{last_few, last_node, last_node_lem, Nodes, rest, rest_nodes, strip_none}
use Rattle.nearest.specs.Inside.Strips.{in_row, in_strip, in_strips, Narrow, places, SetOf, strips}

-- ---- the rows of a word's nodes

-- y is in one of them
abbrev in_rows : List ℕ → ℕ → ℕ → ℕ → Bool
in_rows rows word k y = any_to (λ x. in_strip word k x && in_row rows x y) max_nodes

-- those of the nodes that are left are all that the set lacks
pub record Taken (rows set r : List ℕ) (word k left : ℕ) : Type 0 where
  pub nodes : Nodes left k
  pub long : length r ≡ strips
  pub narrow : Narrow r
  pub each : (y : ℕ) → y < places → in_strips r y || in_rows rows left k y ≡ in_strips set y || in_rows rows word k y

module _ {rows set r : List ℕ} {word k left : ℕ} (w : Taken rows set r word k left) where
  -- a turn takes in that of the last of them,
  pub taken_more : {more : List ℕ} → 0 < left → SetOf more (λ y. in_strips r y || in_row rows (last_node left k) y)
      → Taken rows set more word k (rest left)
  taken_more some e = record {
    nodes = rest_nodes w.nodes some;
    long = e.long;
    narrow = e.narrow;
    each = λ y b.
        let a : ℕ = last_node left k in
        let last : in_rows rows left k y ≡ in_row rows a y || in_rows rows (rest left) k y =
        any_to_ext _ _ max_nodes (λ x _. ap (λ t. t && in_row rows x y) (last_node_lem w.nodes some x))
        ∙ any_to_with (in_strip (rest left) k) (λ x. in_row rows x y) max_nodes a (last_few w.nodes some) in
        ap (λ t. t || in_rows rows (rest left) k y) (e.has y b) ∙ or_assoc (in_strips r y) (in_row rows a y) (in_rows rows (rest left) k y)
        ∙ ap (λ t. in_strips r y || t) (sym last) ∙ w.each y b;
  }

  -- and at last there is none
  pub taken_all : left ≡ 0 → SetOf r (λ y. in_strips set y || in_rows rows word k y)
  taken_all z = record {
    long = w.long;
    narrow = w.narrow;
    has = λ y b.
        let none : in_rows rows left k y ≡ false = any_to_never _ max_nodes (λ x _. rw (z, strip_none k x)) in
        sym (rw none (or-false (in_strips r y))) ∙ w.each y b;
  }

-- ---- the rows of a set's nodes

-- those of the nodes of the first k strips
abbrev pub Linked : List ℕ → List ℕ → List ℕ → ℕ → Type 0
Linked rows set r k = SetOf r (λ y. any_to (λ x. ltb (x / max_run) k && (in_strips set x && in_row rows x y)) max_nodes)

module _ (set : List ℕ) (k : ℕ) where
  -- a word of the set
  strip_of : (x : ℕ) → in_strip (get_or set k 0) k x ≡ eqb (x / max_run) k && in_strips set x
  unfolding in_strip in_strips
  strip_of x = elim (ℕ_discrete (x / max_run) k) [
    | yes e ↦ rw e
    | no d ↦ rw (ne_eqb (x / max_run) k d)
  ]

  pub strip_inside : k < strips → ((x : ℕ) → x < places → in_strips set x ≡ true → x < max_nodes)
      → (x : ℕ) → in_strip (get_or set k 0) k x ≡ true → x < max_nodes
  strip_inside h f x t = let b = and-true (eqb (x / max_run) k) (in_strips set x) (sym (strip_of x) ∙ t) in f x (omega (arith, eqb-true (x / max_run) k b.0)) b.1

module _ (rows set : List ℕ) where
  pub linked_none : {r : List ℕ} → SetOf r (λ q. false) → Linked rows set r 0
  linked_none s = set_ext s (λ y b. sym (any_to_never _ max_nodes (λ x c. rw (le-ltb (x / max_run) 0 zero-le))))

  pub linked_all : {r : List ℕ} (k : ℕ) → strips ≤ k → Linked rows set r k → SetOf r (λ y. any_to (λ x. in_strips set x && in_row rows x y) max_nodes)
  linked_all k h s = set_ext s (λ y b. any_to_ext _ _ max_nodes (λ x c. rw (lt-ltb (x / max_run) k (omega arith))))

  pub linked_more : (k : ℕ) {r more : List ℕ} → Linked rows set r k
      → SetOf more (λ y. in_strips r y || in_rows rows (get_or set k 0) k y) → Linked rows set more (k + 1)
  linked_more k s e = set_ext e (λ y b.
      ap (λ t. t || in_rows rows (get_or set k 0) k y) (s.has y b) ∙ sym (any_to_or _ _ max_nodes) ∙ any_to_ext _ _ max_nodes (λ x c.
      let t : Bool = in_strips set x && in_row rows x y in
      let here : in_strip (get_or set k 0) k x && in_row rows x y ≡ eqb (x / max_run) k && t =
      ap (λ t. t && in_row rows x y) (strip_of set k x) ∙ and_assoc (eqb (x / max_run) k) (in_strips set x) (in_row rows x y) in
      ap (λ u. (ltb (x / max_run) k && t) || u) here ∙ sym (ap (λ u. u && t) (ltb_more (x / max_run) k) ∙ and-or_distrib_right (ltb (x / max_run) k) (eqb (x / max_run) k) t)))
