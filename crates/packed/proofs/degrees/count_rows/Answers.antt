-- `packed::degrees::count_rows` meets its contract. The counts are the degrees among the nodes before b. Assumes nothing.
use mathlib.Core.Path.{ap, sym, ◌∙◌, ◌≡◌}
use Prim.Native.Nat.{◌*◌}
use native.Mathlib.Omega.{arith}
use lib.ListN.{length}
use Rattle.packed.proofs.DegreeLaws.{degrees_none, length_strip}
use Rattle.packed.proofs.PairLaws.{room_mono}
use Rattle.packed.specs.Inside.Degrees.{degrees_from}
use Rattle.packed.specs.Inside.Runs.{max_run}
use Rattle.packed.proofs.degrees.count_rows.Goals as goal

pub loop-b-init : goal.loop-b-init
loop-b-init c = (omega arith, c.requires.1, c.requires.3 ∙ degrees_none _ _ _)

pub count_row-requires : goal.count_row-requires
count_row-requires c =
    let long : length c.loop-b.counts ≡ length c.args.counts.now = ap length c.loop-b.invariant.2 ∙ length_strip _ _ _ _ in (
      record {
        room = room_mono (omega (arith, c.loop-b-test.true)) c.requires.0;
        after = c.loop-b.invariant.0;
        held = omega (arith, long, c.requires.2, c.loop-b-test.true);
      },
      c.loop-b.invariant.2 ∙ ap (λ m. degrees_from c.args.edges.now (max_run * c.args.k) m c.loop-b.b) (sym long),
    )
