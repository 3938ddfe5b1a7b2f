-- The laws of the turns that let the nodes of a word, from the last on, take a node into their rows. Assumes nothing.
use mathlib.Core.Bool.{◌&&◌, and-false, Bool, false, or-false, true, ◌||◌}
use mathlib.Core.List.{List}
use mathlib.Core.Path.{ap, refl, sym, ◌∙◌, ◌≡◌}
use Prim.Native.Nat.{◌%◌, ◌*◌, ◌+◌, ◌-◌, ◌/◌, ◌<◌, ◌^◌, ℕ}
use native.Mathlib.Decide.{ℕ_discrete}
use native.Mathlib.Omega.{arith}
use borrow.Author.Tests.{eq-eqb, ne_eqb}
use lib.Bits.{bit_or, or_lt}
use lib.Dec.{eqb}
use lib.ListN.{get_or, length, set}
use lib.Pow.{pow-lt}
use Rattle.packed.specs.Pairs.{max_nodes}
use Rattle.packed.specs.Inside.Runs.{max_run}
use Rattle.nearest.proofs.StripLaws.{last_few, last_node, last_node_lem, Nodes, rest, rest_nodes, strip_none, word_with}
use Rattle.nearest.proofs.TableLaws.{row_set, table-set}
use Rattle.nearest.specs.Inside.Strips.{in_row, in_strip, places, strips, Table, TableOf}

-- the nodes that are left are all that the rows lack
pub record Mirrored (rows₀ rows : List ℕ) (word k b left : ℕ) : Type 0 where
  pub nodes : Nodes left k
  pub table : Table rows
  pub each : (x y : ℕ) → y < places → in_row rows x y || (eqb y b && in_strip left k x) ≡ in_row rows₀ x y || (eqb y b && in_strip word k x)

module _ {rows₀ rows : List ℕ} {word k b left : ℕ} (m : Mirrored rows₀ rows word k b left) where
  -- a turn takes the last of them,
  pub mirror_next : {bit : ℕ} → b < max_nodes → 0 < left → bit ≡ 2 ^ (max_run - 1 - b % max_run) →
      let i = strips * last_node left k + b / max_run in
      Mirrored rows₀ (set rows i (bit_or (get_or rows i 0) bit)) word k b (rest left)
  mirror_next {bit} hb some z =
      let a : ℕ = last_node left k in
      let i : ℕ = strips * a + b / max_run in
      let w : ℕ = bit_or (get_or rows i 0) bit in
      let s : b / max_run < strips = omega arith in
      let h : i < length rows = omega (arith, m.table.long, last_few m.nodes some) in
      record {
        nodes = rest_nodes m.nodes some;
        table = table-set rows a (b / max_run) w s h m.table
            (or_lt max_run (get_or rows i 0) bit (m.table.narrow i) (rw z (pow-lt {j = max_run} (omega arith))));
        each = λ x y q.
            let put = row_set rows a (b / max_run) w s h (λ y. eqb y b) (λ y v. rw z (word_with (get_or rows i 0) b y v)) x y q in
            ap (λ t. t || (eqb y b && in_strip (rest left) k x)) (put ∙ ap (λ t. in_row rows x y || (eqb x a && t)) (here y))
            ∙ either (in_row rows x y) (eqb x a) (eqb y b) (in_strip (rest left) k x)
            ∙ ap (λ t. in_row rows x y || (eqb y b && t)) (sym (last_node_lem m.nodes some x)) ∙ m.each x y q;
      }
    where
      either : (r p q z : Bool) → (r || (p && q)) || (q && z) ≡ r || (q && (p || z))
      either true p q z = refl
      either false true true z = refl
      either false true false z = refl
      either false false q z = refl

      here : (y : ℕ) → eqb (y / max_run) (b / max_run) && eqb y b ≡ eqb y b
      here y = elim (ℕ_discrete y b) [
        | yes d ↦ rw (eq-eqb (y / max_run) (b / max_run) (ap (λ z. z / max_run) d))
        | no d ↦ rw (ne_eqb y b d) (and-false (eqb (y / max_run) (b / max_run)))
      ]

  -- and at last there is none
  pub mirror_all : left ≡ 0 → TableOf rows (λ x y. in_row rows₀ x y || (eqb y b && in_strip word k x))
  mirror_all z = record {
    table = m.table;
    has = λ x y h. sym (rw (z, strip_none k x, and-false (eqb y b)) (or-false (in_row rows x y))) ∙ m.each x y h;
  }
