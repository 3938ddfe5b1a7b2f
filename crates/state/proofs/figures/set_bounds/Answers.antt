-- `state::figures::set_bounds` meets its contract. After p turns the first p figures are bounds. Assumes nothing.
use mathlib.Core.Bool.{true}
use mathlib.Core.Path.{ap, ◌∙◌}
use native.Mathlib.Omega.{arith}
use lib.ListN.{length}
use Rattle.arith.proofs.Sums.{filling_all, filling_more, filling_none}
use Rattle.ego.proofs.LinkedLaws.{within_below}
use Rattle.packed.proofs.SetLaws.{in_set_lem}
use Rattle.packed.specs.Inside.Rows.{in_set}
use Rattle.state.proofs.figures.set_bounds.Goals as goal

pub loop-p-init : goal.loop-p-init
loop-p-init c = filling_none _ _

pub bound_of-requires : goal.bound_of-requires
bound_of-requires c = (
  c.loop-p-test.true,
  c.requires.room,
  c.requires.few c.loop-p.p c.loop-p-test.true,
  within_below c.args.edges.now (length c.args.figures.now) c.loop-p.p c.every_node.result c.requires.room.few c.rows_within-below.ensures
      (λ q h linked. ap (λ l. in_set l q) c.every_node.ensures ∙ in_set_lem (λ q. true) q (omega (arith, c.requires.room.few))),
)

pub loop-p-preserved : goal.loop-p-preserved
loop-p-preserved c = filling_more c.loop-p.invariant c.loop-p-test.true c.bound_of.ensures

pub returns : goal.returns
returns c = filling_all c.loop-p.invariant 0 c.loop-p-test.false
