-- `nearest::strips::unite` meets its contract. Assumes nothing.
use Rattle.std.proofs.Common.{get_or, sym}
use Rattle.nearest.proofs.SetLaws.{filling_start, or_all, or_more}
use Rattle.nearest.specs.Inside.Strips.{in_strips}
use Rattle.nearest.proofs.strips.unite.Goals as goal

pub loop-k-init : goal.loop-k-init
loop-k-init c = filling_start _ (sym c.told-set)

pub loop-k-preserved : goal.loop-k-preserved
loop-k-preserved c = or_more (λ k. get_or c.args.other k 0) c.loop-k.invariant c.loop-k-test.true

pub returns : goal.returns
unfolding in_strips
returns c = or_all (λ k. get_or c.args.other k 0) c.requires.0 c.requires.1 c.loop-k.invariant c.loop-k-test.false
