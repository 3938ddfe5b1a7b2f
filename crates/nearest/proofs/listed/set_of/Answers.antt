-- `nearest::listed::set_of` meets its contract. Assumes nothing.
use Rattle.nearest.proofs.ListedLaws.{listed_all, listed_more, listed_none}
use Rattle.nearest.proofs.listed.set_of.Goals as goal

pub loop-q-init : goal.loop-q-init
loop-q-init c = listed_none c.args.listed.now c.empty-set.ensures

pub loop-q-preserved : goal.loop-q-preserved
loop-q-preserved c = listed_more c.args.listed.now c.loop-q.q-index c.loop-q.invariant c.insert.ensures

pub returns : goal.returns
returns c = listed_all c.args.listed.now c.loop-q.q-index c.loop-q.invariant c.loop-q.auto.q-index-end c.loop-q-test.false
