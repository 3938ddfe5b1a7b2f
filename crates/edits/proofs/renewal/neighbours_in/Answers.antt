-- `edits::renewal::neighbours_in` meets its contract. Assumes nothing.
use mathlib.Core.Path.{ap, ◌∙◌}
use native.Mathlib.Omega.{arith}
use Rattle.std.proofs.lemmas.List.{get_or-take}
use Rattle.packed.specs.Inside.Rows.{either_of, row_of}
use Rattle.edits.proofs.RenewalLaws.{covers_next}
use Rattle.edits.proofs.renewal.neighbours_in.Goals as goal

pub loop-p-preserved : goal.loop-p-preserved
loop-p-preserved c =
    let t = c.args.touching.now in (
      covers_next c.args.edges.now c.args.n t.nodes c.loop-p.p-index c.loop-p.set c.requires.room.few c.loop-p.invariant.0
          (c.include.ensures ∙ ap (either_of c.loop-p.set)
          (c.row_of.ensures ∙ ap (row_of c.args.edges.now c.args.n) (get_or-take t.count t.nodes c.loop-p.p-index 0 (omega arith)))),
      c.include.auto.set ∙ c.loop-p.invariant.1,
    )
