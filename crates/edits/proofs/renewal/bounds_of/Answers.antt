-- `edits::renewal::bounds_of` meets its contract. Assumes nothing.
use mathlib.Core.Path.{ap, ◌∙◌}
use native.Mathlib.Omega.{arith}
use Prim.Native.Nat.{◌<◌}
use Rattle.std.proofs.lemmas.List.{get_or-take}
use lib.ListN.{get_or}
use Rattle.ego.specs.Bound.{bound}
use Rattle.packed.specs.Edges.{edge}
use Rattle.ego.proofs.LinkedLaws.{within_below}
use Rattle.edits.proofs.ListedLaws.{each_none, each_step}
use Rattle.edits.proofs.renewal.bounds_of.Goals as goal

pub loop-i-init : goal.loop-i-init
loop-i-init c = each_none _ _

pub bound_of-requires : goal.bound_of-requires
bound_of-requires c =
    let s = c.args in
    let t = s.touching.now in
    let i = c.loop-i.i in
    let here : i < t.count = omega arith in
    rw (get_or-take t.count t.nodes i 0 here) (
      c.requires.below i here,
      c.requires.room,
      c.requires.within i here,
      within_below s.edges.now s.n (get_or t.nodes i 0) c.neighbours_in.result c.requires.room.few c.rows_within-below.ensures
          (λ q h linked. c.neighbours_in.ensures i q here h linked),
    )

pub loop-i-preserved : goal.loop-i-preserved
loop-i-preserved c =
    let s = c.args in
    let t = s.touching.now in
    each_step _ _ c.loop-i.i c.loop-i.invariant
    (c.bound_of.ensures ∙ ap (bound (edge s.edges.now) s.n) (get_or-take t.count t.nodes c.loop-i.i 0 (omega arith)))
