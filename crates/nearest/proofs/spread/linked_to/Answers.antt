-- `nearest::spread::linked_to` meets its contract: after k turns the rows of the nodes of the first k strips are put in. Assumes nothing.
use Rattle.nearest.proofs.SpreadLaws.{linked_all, linked_more, linked_none, strip_inside}
use Rattle.nearest.proofs.spread.linked_to.Goals as goal

pub loop-k-init : goal.loop-k-init
loop-k-init c = linked_none _ _ c.empty-linked.ensures

pub loop-k-preserved : goal.loop-k-preserved
loop-k-preserved c = linked_more _ _ c.loop-k.k c.loop-k.invariant c.unite_rows.ensures

pub unite_rows-requires : goal.unite_rows-requires
unite_rows-requires c = (
  c.requires.1 c.loop-k.k,
  c.loop-k-test.true,
  strip_inside c.args.set c.loop-k.k c.loop-k-test.true c.requires.2,
  c.requires.0,
  c.loop-k.invariant.narrow,
)

pub returns : goal.returns
returns c = linked_all _ _ _ c.loop-k-test.false c.loop-k.invariant
