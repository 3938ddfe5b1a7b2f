-- `packed::degrees::count_past` meets its contract. The counts are the degrees among the nodes before b. Assumes nothing.
use mathlib.Core.Path.{ap, sym, ◌∙◌, ◌≡◌}
use Prim.Native.Nat.{◌+◌, ◌≤◌}
use native.Mathlib.Omega.{arith}
use lib.ListN.{length}
use Rattle.packed.proofs.DegreeLaws.{length_strip, row_past, row_start}
use Rattle.packed.proofs.PairLaws.{room_mono}
use Rattle.packed.specs.Inside.Degrees.{degrees_to}
use Rattle.packed.specs.Inside.Runs.{max_run}
use Rattle.packed.proofs.degrees.count_past.Goals as goal

pub count_run-requires : goal.count_run-requires
count_run-requires c =
    let long : length c.loop-b.counts ≡ max_run = ap length c.loop-b.invariant.2 ∙ length_strip _ _ _ _ in
    let past : c.args.first + max_run ≤ c.loop-b.b = omega (arith, c.loop-b.invariant.0, c.loop-b-test.true) in (
      record {
        room = room_mono (omega (arith, c.loop-b-test.true)) c.requires.0;
        some = omega arith;
        short = omega arith;
        below = past;
        after = omega arith;
        held = omega (arith, long);
      },
      c.loop-b.invariant.2 ∙ row_start _ _ _ _ ∙ ap (λ m. degrees_to c.args.edges.now c.args.first m c.loop-b.b c.args.first) (sym long),
    )

pub loop-b-preserved : goal.loop-b-preserved
loop-b-preserved c =
    let long : length c.loop-b.counts ≡ max_run = ap length c.loop-b.invariant.2 ∙ length_strip _ _ _ _ in
    let past : c.args.first + max_run ≤ c.loop-b.b = omega (arith, c.loop-b.invariant.0, c.loop-b-test.true) in (
      omega arith,
      omega arith,
      c.count_run.ensures.each ∙ ap (λ m. degrees_to c.args.edges.now c.args.first m c.loop-b.b (c.args.first + max_run)) long
          ∙ row_past c.args.edges.now c.args.first max_run c.loop-b.b past,
    )
