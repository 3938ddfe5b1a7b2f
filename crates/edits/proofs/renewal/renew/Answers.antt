-- `edits::renewal::renew` meets its contract. Assumes nothing.
use mathlib.Core.Path.{sym}
use native.Mathlib.Omega.{arith}
use Rattle.std.proofs.lemmas.List.{get_or-take}
use Rattle.edits.proofs.RenewalLaws.{renew_each_more, renew_each_none}
use Rattle.edits.proofs.renewal.renew.Goals as goal

pub loop-i-init : goal.loop-i-init
loop-i-init c = sym (renew_each_none _ _ _ _)

pub loop-i-preserved : goal.loop-i-preserved
loop-i-preserved c =
    let by = c.args.by.now in
    let t = by.touching in
    let same = get_or-take t.count t.nodes c.loop-i.i 0 (omega arith) in
    rw same (renew_each_more t.nodes by.bounds by.taken _ c.loop-i.i c.loop-i.invariant (rw same at c.figure_by.ensures))
