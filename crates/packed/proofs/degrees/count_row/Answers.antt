-- `packed::degrees::count_row` meets its contract. The nodes before `at` are counted. Assumes nothing.
use mathlib.Core.Path.{ap, sym, ◌∙◌, ◌≡◌}
use Prim.Native.Nat.{◌*◌, ◌+◌}
use native.Mathlib.Nat.{le_antisymm}
use native.Mathlib.Omega.{arith}
use lib.ListN.{length}
use Rattle.arith.proofs.Sums.{count_to_le}
use Rattle.arith.specs.Sums.{count_to}
use Rattle.packed.proofs.DegreeLaws.{length_row, row_end, row_start}
use Rattle.packed.specs.Inside.Degrees.{degrees_to}
use Rattle.packed.specs.Inside.Runs.{max_run}
use Rattle.packed.specs.Edges.{edge}
use Rattle.packed.proofs.degrees.count_row.Goals as goal

pub overflow_mul-first : goal.overflow_mul-first
overflow_mul-first c = omega (arith, c.requires.0.after, c.requires.0.room.few)

pub ones_before-own-requires : goal.ones_before-own-requires
ones_before-own-requires c = (c.requires.0.room, c.requires.0.after)

pub loop-at-init : goal.loop-at-init
loop-at-init c = (omega arith, c.requires.0.after, c.requires.1 ∙ row_start _ _ _ _, c.ones_before-own.ensures)

pub overflow_add-end : goal.overflow_add-end
overflow_add-end c = omega (arith, c.min.ensures)

pub count_run-own-requires : goal.count_run-own-requires
count_run-own-requires c =
    let long : length c.loop-at.counts ≡ length c.args.counts.now = ap length c.loop-at.invariant.2 ∙ length_row _ _ _ _ _ in
    let r = c.min.ensures in (
      record {
        room = c.requires.0.room;
        some = omega (arith, r);
        short = omega (arith, r);
        below = omega (arith, r);
        after = c.loop-at.invariant.0;
        held = omega (arith, r, long, c.requires.0.held);
      },
      c.loop-at.invariant.2 ∙ ap (λ m. degrees_to c.args.edges.now (max_run * c.args.k) m c.args.b c.loop-at.at) (sym long),
    )

pub overflow_add-own : goal.overflow_add-own
overflow_add-own c =
    let next = c.loop-at.at + c.min.result in
    let total : c.loop-at.own + c.count_run-own.result ≡ count_to (edge c.args.edges.now c.args.b) next =
    ap (λ x. x + c.count_run-own.result) c.loop-at.invariant.3 ∙ c.count_run-own.ensures.mine in
    omega (arith, total, count_to_le (edge c.args.edges.now c.args.b) next, c.requires.0.room.few, c.min.ensures)

pub loop-at-smaller : goal.loop-at-smaller
loop-at-smaller c = omega (arith, c.min.ensures)

pub loop-at-preserved : goal.loop-at-preserved
loop-at-preserved c =
    let long : length c.loop-at.counts ≡ length c.args.counts.now = ap length c.loop-at.invariant.2 ∙ length_row _ _ _ _ _ in (
      omega (arith, c.min.ensures),
      omega (arith, c.min.ensures),
      c.count_run-own.ensures.each
          ∙ ap (λ m. degrees_to c.args.edges.now (max_run * c.args.k) m c.args.b (c.loop-at.at + c.min.result)) long,
      ap (λ x. x + c.count_run-own.result) c.loop-at.invariant.3 ∙ c.count_run-own.ensures.mine,
    )

pub overflow_sub-counts : goal.overflow_sub-counts
overflow_sub-counts c = c.requires.0.after

pub bounds-counts-b : goal.bounds-counts-b
bounds-counts-b c =
    let long : length c.loop-at.counts ≡ length c.args.counts.now = ap length c.loop-at.invariant.2 ∙ length_row _ _ _ _ _ in
    omega (arith, long, c.requires.0.held, c.requires.0.after)

pub returns : goal.returns
returns c =
    let e : c.loop-at.at ≡ c.args.b = le_antisymm c.loop-at.invariant.1 c.loop-at-test.false in
    row_end c.args.edges.now (max_run * c.args.k) (length c.args.counts.now) c.args.b c.requires.0.after c.requires.0.held
    (c.loop-at.invariant.2 ∙ ap (degrees_to _ _ _ _) e) (c.loop-at.invariant.3 ∙ ap (count_to (edge c.args.edges.now c.args.b)) e)
