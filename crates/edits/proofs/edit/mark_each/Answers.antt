-- `edits::edit::mark_each` meets its contract. Assumes nothing.
use mathlib.Core.Path.{ap, sym, ◌∙◌}
use native.Mathlib.Omega.{arith}
use Rattle.std.proofs.lemmas.List.{get_or-take}
use Rattle.edits.proofs.ListedLaws.{stale_each_more, stale_each_none}
use Rattle.state.specs.Marks.{with_mark}
use mathlib.Core.Bool.{true}
use Rattle.edits.proofs.edit.mark_each.Goals as goal

pub loop-p-init : goal.loop-p-init
loop-p-init c = sym (stale_each_none _ _)

pub loop-p-preserved : goal.loop-p-preserved
loop-p-preserved c =
    let t = c.args.touching.now in
    stale_each_more _ _ c.loop-p.p-index c.loop-p.invariant
    (c.set_mark.ensures ∙ ap (λ p. with_mark c.loop-p.marks p true) (get_or-take t.count t.nodes c.loop-p.p-index 0 (omega arith)))
