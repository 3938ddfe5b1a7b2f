-- `merge::merged::takes` meets its contract. Assumes nothing.
use Rattle.std.proofs.Common.{◌&&◌, not, ap, refl, sym, ◌∙◌}
use mathlib.Core.Bool.{beq}
use Rattle.merge.proofs.StepLaws.{takes_by}
use Rattle.packed.specs.Edges.{edge}
use Rattle.merge.proofs.merged.takes.Goals as goal

pub returns-then-there-has : goal.returns-then-there-has
returns-then-there-has c =
    sym (takes_by _ _ _ _ _ c.has-there.ensures c.has.ensures c.has-then-there-has.ensures
    ∙ ap (λ x. x && not (beq c.has-there.result c.has-then-there-has.result)) c.if-there-has.true)

pub returns-else-there-has : goal.returns-else-there-has
returns-else-there-has c =
    let mine = edge c.args.edges.now c.args.pair.a c.args.pair.b in
    c.if-there-has.false
    ∙ sym (takes_by (edge c.args.edges.now) _ _ _ _ c.has-there.ensures c.has.ensures refl
    ∙ ap (λ x. x && not (beq c.has-there.result mine)) c.if-there-has.false)
