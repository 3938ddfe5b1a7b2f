-- `capi::figures::renew_bytes` meets its contract. Assumes nothing.
use native.Mathlib.Omega.{arith}
use borrow.Author.Rules.{rules}
use Prim.Native.Nat.{◌<◌}
use Rattle.std.proofs.lemmas.List.{get_or-take}
use Rattle.capi.proofs.FigureLaws.{renew_end, renew_more, renew_none}
use Rattle.capi.proofs.figures.renew_bytes.Goals as goal

pub loop-i-init : goal.loop-i-init
loop-i-init c = renew_none _ _ _ _ (λ k. search rules) c.requires.0

pub loop-i-preserved : goal.loop-i-preserved
loop-i-preserved c =
    let t = c.args.by.now.touching in
    let i = c.loop-i.i in
    let here : i < t.count = omega arith in
    let same = get_or-take t.count t.nodes i 0 here in
    let ready = c.requires.1 in
    renew_more _ _ _ _ (λ k. search rules) t.count ready.fits i here c.loop-i.invariant
    (ready.below i here) (rw same at c.figure_at.ensures) c.figure_by-figure.ensures (rw same at c.set_figure.ensures)

pub returns : goal.returns
returns c = renew_end _ _ _ _ (omega arith) c.loop-i.invariant
