-- The laws of the turns that put in a node's links to the nodes below it, a word of its row each. Assumes nothing.
use mathlib.Core.Bool.{◌&&◌, and-false, and-or_distrib_right, Bool, false, or-false, or-true, true, ◌||◌}
use mathlib.Core.List.{List}
use mathlib.Core.Path.{ap, ap₂, refl, sym, ◌∙◌, ◌≡◌}
use Prim.Native.Nat.{◌*◌, ◌+◌, ◌/◌, ◌<◌, ◌^◌, ℕ, zero-le, ◌≤◌}
use native.Mathlib.Decide.{dec_lt, ℕ_discrete}
use native.Mathlib.Omega.{arith}
use borrow.Author.Tests.{le-ltb, lt-ltb, ltb-true, ne_eqb}
use lib.Dec.{eqb, ltb}
use lib.ListN.{get_or, length, set}
use Rattle.arith.proofs.Tests.{and-true, eqb_same, ltb_more}
use Rattle.packed.proofs.RunLaws.{run_lt}
use Rattle.packed.specs.Bits.{word_of}
use Rattle.packed.specs.Pairs.{max_nodes}
use Rattle.packed.specs.Inside.Runs.{max_run}
use Rattle.ego.specs.Graph.{Graph, Simple}
use Rattle.nearest.proofs.StripLaws.{strip_run}
use Rattle.nearest.proofs.TableLaws.{row_set, table-set}
use Rattle.nearest.specs.Inside.Levels.{among}
use Rattle.nearest.specs.Inside.Strips.{in_row, in_strip, in_word, places, Rows, strips, Table, TableOf}

-- b is linked to x, a node below b in the first k strips
pub linked : Graph → ℕ → ℕ → ℕ → Bool
linked g b k x = ltb (x / max_run) k && (ltb x b && g b x)

-- the rows have the links among the nodes below b, and those of b to the nodes of the first k strips
pub record Linked (g : Graph) (b k : ℕ) (rows : List ℕ) : Type 0 where
  pub table : Table rows
  pub has : (x y : ℕ) → y < places → in_row rows x y ≡ among g b x y || ((eqb x b && linked g b k y) || (eqb y b && linked g b k x))

-- at first there are none of b,
pub link_none : {g : Graph} {b : ℕ} {rows : List ℕ} → Rows g b rows → Linked g b 0 rows
unfolding linked
link_none {g} {b} r = record {
  table = r.table;
  has = λ x y h. r.has x y h ∙ sym (rw (le-ltb (x / max_run) 0 zero-le, le-ltb (y / max_run) 0 zero-le, and-false (eqb x b), and-false (eqb y b)) (or-false (among g b x y)));
}

linked_more : (g : Graph) (b k x : ℕ) → linked g b (k + 1) x ≡ linked g b k x || (eqb (x / max_run) k && (ltb x b && g b x))
unfolding linked
linked_more g b k x = rw (ltb_more (x / max_run) k) (and-or_distrib_right (ltb (x / max_run) k) (eqb (x / max_run) k) (ltb x b && g b x))

-- the next word of the row is empty before
linked_none : (g : Graph) (b k y : ℕ) → y / max_run ≡ k → among g b b y || ((eqb b b && linked g b k y) || (eqb y b && linked g b k b)) ≡ false
unfolding among linked
linked_none g b k y e =
    rw (le-ltb b b (omega arith), eqb_same b, le-ltb (y / max_run) k (omega arith), and-false (ltb (b / max_run) k)) (and-false (eqb y b))

-- a turn puts in a word,
module _ {g : Graph} {b k word : ℕ} {rows : List ℕ} (r : Linked g b k rows) (hb : b < max_nodes) (hk : max_run * k < b)
    (e : word ≡ word_of (λ y. ltb y b && g b y) (max_run * k) max_run) where
  pub link_inside : strips * b + k < length rows
  link_inside = omega (arith, r.table.long)

  pub link_small : word < 2 ^ max_run
  link_small = rw e (run_lt (λ y. ltb y b && g b y) (max_run * k) max_run)

  has_strip : (x : ℕ) → in_strip word k x ≡ eqb (x / max_run) k && (ltb x b && g b x)
  has_strip x = ap (λ w. in_strip w k x) e ∙ strip_run (λ y. ltb y b && g b y) k x

  pub link_few : (x : ℕ) → in_strip word k x ≡ true → x < max_nodes
  link_few x q =
      let below = (and-true (ltb x b) (g b x) (and-true (eqb (x / max_run) k) _ (sym (has_strip x) ∙ q)).1).0 in
      omega (arith, ltb-true x b below)

  pub link_table : Table (set rows (strips * b + k) word)
  link_table = table-set rows b k word (omega arith) link_inside r.table link_small

  link_set : (x y : ℕ) → y < places → in_row (set rows (strips * b + k) word) x y ≡ in_row rows x y || (eqb x b && in_strip word k y)
  unfolding in_row in_strip
  link_set x y h = row_set rows b k word (omega arith) link_inside (in_word word) (λ y q.
      sym (ap (λ z. z || in_word word y) (ap (λ i. in_word (get_or rows (strips * b + i) 0) y) (sym q) ∙ r.has b y (omega arith) ∙ linked_none g b k y q))) x y h

  pub link_next : {rows' : List ℕ} → TableOf rows' (λ x y. in_row (set rows (strips * b + k) word) x y || (eqb y b && in_strip word k x))
      → Linked g b (k + 1) rows'
  link_next m = record {
    table = m.table;
    has = λ x y h. m.has x y h ∙ ap (λ z. z || (eqb y b && in_strip word k x)) (link_set x y h ∙ ap (λ z. z || (eqb x b && in_strip word k y)) (r.has x y h))
        ∙ both (among g b x y) (eqb x b) (eqb y b) (linked g b k y) (linked g b k x) (in_strip word k y) (in_strip word k x)
        ∙ ap₂ (λ u v. among g b x y || ((eqb x b && u) || (eqb y b && v))) (more y) (more x);
  }
    where
      more : (x : ℕ) → linked g b k x || in_strip word k x ≡ linked g b (k + 1) x
      more x = ap (λ z. linked g b k x || z) (has_strip x) ∙ sym (linked_more g b k x)

      both : (a p q u v s t : Bool) → ((a || ((p && u) || (q && v))) || (p && s)) || (q && t) ≡ a || ((p && (u || s)) || (q && (v || t)))
      both true p q u v s t = refl
      both false true q true v s t = refl
      both false true true false true s t = sym (or-true s)
      both false true true false false s t = refl
      both false true false false v s t = refl
      both false false true u true s t = refl
      both false false true u false s t = refl
      both false false false u v s t = refl

-- and at last b is one of the nodes
linked_all : (g : Graph) (b k x : ℕ) → b ≤ max_run * k → linked g b k x ≡ ltb x b && g b x
unfolding linked
linked_all g b k x h = elim (dec_lt x b) [
  | yes l ↦ rw (lt-ltb (x / max_run) k (omega arith))
  | no l ↦ rw (le-ltb x b (omega arith)) (and-false (ltb (x / max_run) k))
]

among_more : (g : Graph) → Simple g → (b x y : ℕ)
    → among g b x y || ((eqb x b && (ltb y b && g b y)) || (eqb y b && (ltb x b && g b x))) ≡ among g (b + 1) x y
unfolding among
among_more g s b x y = rw (ltb_more x b, ltb_more y b) (elim (ℕ_discrete x b) [
  | yes e ↦ rw (e, le-ltb b b (omega arith), eqb_same b, and-false (eqb y b)) (elim (ℕ_discrete y b) [
    | yes d ↦ rw (d, le-ltb b b (omega arith), s.loopless b, and-false (eqb b b))
    | no d ↦ rw (ne_eqb y b d, or-false (ltb y b)) (or-false (ltb y b && g b y))
  ])
  | no d ↦ rw (ne_eqb x b d, or-false (ltb x b)) (elim (ℕ_discrete y b) [
    | yes e ↦ rw (e, le-ltb b b (omega arith), eqb_same b, and-false (ltb x b)) (ap (λ t. ltb x b && t) (s.symmetric b x))
    | no e ↦ rw (ne_eqb y b e, or-false (ltb y b)) (or-false (ltb x b && (ltb y b && g x y)))
  ])
])

pub link_all : {g : Graph} {b k : ℕ} {rows : List ℕ} → Simple g → Linked g b k rows → b ≤ max_run * k → Rows g (b + 1) rows
link_all {g} {b} {k} s r h = record {
  table = r.table;
  has = λ x y l. r.has x y l ∙ ap₂ (λ u v. among g b x y || ((eqb x b && u) || (eqb y b && v))) (linked_all g b k y h) (linked_all g b k x h)
      ∙ among_more g s b x y;
}
