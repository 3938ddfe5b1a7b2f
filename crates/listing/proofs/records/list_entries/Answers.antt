-- `listing::records::list_entries` meets its contract: the rows of the numbers are laid over the entries one by one. Assumes nothing.
use Rattle.std.proofs.Common.{List, ap, refl, ◌∙◌}
use native.Mathlib.Nat.{le_refl}
use Rattle.state.specs.State.{state}
use Rattle.topk.specs.List.{listing}
use Rattle.topk.specs.declared.entries.Entry.{Entry}
use Rattle.listing.proofs.RecordLaws.{all_laid, gather_fits, gather_refused, gather_taken, one_laid, upto}
use Rattle.listing.proofs.records.list_entries.Goals as goal

pub returns-in_err-recomputed : goal.returns-in_err-recomputed
returns-in_err-recomputed c =
    let a = c.args in
    gather_refused (state a.edges.now a.figures.now a.marks.now) a.scratch.now a.entries.now _ (le_refl _) c.min-end.ensures _ _ _ _ _
    c.from_residual.ensures.1 c.in_err-recomputed.ensures

pub loop-i-init : goal.loop-i-init
unfolding upto
loop-i-init c = refl

pub entry_at-requires : goal.entry_at-requires
entry_at-requires c =
    let a = c.args in
    gather_fits (state a.edges.now a.figures.now a.marks.now) a.scratch.now a.entries.now _ (le_refl _) c.min-end.ensures _ _ _
    c.in_ok-recomputed.ensures c.list.auto.entries c.loop-i-test.true

pub loop-i-preserved : goal.loop-i-preserved
loop-i-preserved c = one_laid _ _ _ c.loop-i.invariant c.entry_at.ensures

-- when the loop ends the rows are laid
pub returns : goal.returns
returns c =
    let a = c.args in
    let l = c.list.new in
    ap (λ (xs : List Entry). listing 0 c.in_ok-recomputed.recomputed (state a.edges.now l.figures l.marks) xs l.scratch)
    (all_laid _ _ c.loop-i.invariant c.loop-i.auto.i-end c.loop-i-test.false)
    ∙ gather_taken (state a.edges.now a.figures.now a.marks.now) a.scratch.now a.entries.now _ (le_refl _) c.min-end.ensures _ _ _
    c.in_ok-recomputed.ensures
