-- `packed::rows::append_word` meets its contract: the nodes before the word's top digit are written. Assumes nothing.
use mathlib.Core.Bool.{Bool}
use mathlib.Core.List.{List}
use Prim.Native.Nat.{◌%◌, ◌*◌, ◌+◌, ◌-◌, ◌<◌, ◌^◌, ℕ, ◌≤◌}
use native.Mathlib.Omega.{arith}
use lib.Count.{count_leading_zeros}
use lib.Pow.{pow_pos}
use Rattle.packed.proofs.FirstLaws.{Top, top_of, top_rest}
use Rattle.packed.proofs.SetLaws.{WrittenUpTo, written_all, written_few, written_full, written_next, written_none}
use Rattle.packed.specs.Inside.Rows.{members_in}
use Rattle.packed.proofs.rows.append_word.Goals as goal
use Rattle.packed.proofs.rows.append_word.Goals.{then-at-nodes, else-at-nodes}

-- ---- a turn: the next node, and what is taken from the word

module _ {f : ℕ → Bool} {first : ℕ} {nodes₀ nodes : List ℕ} {count left at q : ℕ} (w : WrittenUpTo f first nodes₀ nodes count left at q)
    (some : 0 < left) where
  turn : (count_leading_zeros 64 left ≤ 63)
      × Top f q (first + 32) left (first + 32 - 1 - (63 - count_leading_zeros 64 left)) (63 - count_leading_zeros 64 left)
  turn = top_of f q (first + 32) left w.stop (omega (arith, w.start)) w.rest some

  taken : let after : ℕ = 63 - count_leading_zeros 64 left in (0 < 1 * 2 ^ after % 2 ^ 64) × (1 * 2 ^ after % 2 ^ 64 ≤ left)
  taken =
      let after : ℕ = 63 - count_leading_zeros 64 left in
      let e = (top_rest turn.1 (omega arith)).0 in
      (omega (arith, e, pow_pos after), omega (arith, e, turn.1.after))

-- ---- the goals

pub loop-left-init : goal.loop-left-init
loop-left-init c = (c.args.first, written_none c.args.word c.args.first _ c.args.count c.ranges.word.fits)

pub overflow_cast-after : goal.overflow_cast-after
overflow_cast-after c = omega (arith, (turn c.loop-left.invariant.1 (omega arith)).0)

pub overflow_sub-after : goal.overflow_sub-after
overflow_sub-after c = omega (arith, (turn c.loop-left.invariant.1 (omega arith)).0)

pub overflow_sub-nodes-then-at-nodes : goal.overflow_sub-nodes-then-at-nodes
overflow_sub-nodes-then-at-nodes c = omega (arith, (turn c.loop-left.invariant.1 (omega arith)).1.places)

pub overflow_cast-nodes : goal.overflow_cast-nodes
overflow_cast-nodes c = omega (arith, c.requires.0)

pub overflow_add-at : goal.overflow_add-at
overflow_add-at c = omega (arith, written_few c.loop-left.invariant.1)

pub overflow_sub-left : goal.overflow_sub-left
overflow_sub-left c = omega (arith, taken c.loop-left.invariant.1 (omega arith))

pub loop-left-smaller : goal.loop-left-smaller
loop-left-smaller c = omega (arith, taken c.loop-left.invariant.1 (omega arith))

pub loop-left-preserved : goal.loop-left-preserved
loop-left-preserved c =
    let w = c.loop-left.invariant.1 in
    let t = (turn w (omega arith)).1 in (
      _,
      elim c.if-at-nodes.branch [
        | then-at-nodes v ↦ written_next w t (omega arith) v.nodes-is
        | else-at-nodes v ↦ written_full w t (omega arith) v.nodes-is v.if-at-nodes.false
      ],
    )

pub returns : goal.returns
unfolding members_in
returns c = written_all c.loop-left.invariant.1 c.loop-left-test.false
