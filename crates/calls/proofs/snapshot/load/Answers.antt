-- `calls::snapshot::load` meets its contract. Assumes nothing.
use mathlib.Core.Bool.{Bool}
use mathlib.Core.List.{List, []}
use mathlib.Core.Path.{ap, refl, sym, ◌∙◌, ◌≡◌}
use Prim.Native.Nat.{◌-◌, ℕ}
use native.Mathlib.Omega.{arith}
use lib.ListN.{drop, length, take}
use Rattle.packed.specs.Edges.{edge}
use Rattle.state.specs.State.{state}
use Rattle.calls.proofs.OutcomeLaws.{call_accepted, call_on, call_refused, lengths_on, loaded_is}
use Rattle.state.proofs.AnswerLaws.{number_some}
use Rattle.state.proofs.RefusalLaws.{fitted_by}
use Rattle.calls.proofs.SnapshotLaws.{copied_bounds, fits_by, form_refused, load_crowded, load_passed, part_is, part_length}
use Rattle.state.specs.Refusal.{everyone, snapshot_edges, too_many}
use Rattle.calls.specs.Snapshot.{load_call}
use Rattle.calls.proofs.snapshot.load.Goals as goal

-- the edges are the part after the first byte
over : (snapshot : List ℕ) (n : ℕ) {r : Bool} → r ≡ too_many (edge (take (length snapshot - 1) (drop 1 snapshot))) n everyone
    → r ≡ too_many (edge (snapshot_edges snapshot)) n everyone
over snapshot n e = e ∙ ap (λ l. too_many (edge l) n everyone) (part_is snapshot)

pub returns-in_err-check_state : goal.returns-in_err-check_state
unfolding load_call
returns-in_err-check_state c =
    let given = state c.args.edges.now c.args.figures.now c.args.marks.now in
    lengths_on _ _ c.from_residual.ensures.1 given _ _ c.in_err-check_state.ensures

pub returns-in_err-check_form : goal.returns-in_err-check_form
unfolding load_call
returns-in_err-check_form c =
    let given = state c.args.edges.now c.args.figures.now c.args.marks.now in
    call_on _ _ c.from_residual-in_err-check_form.ensures.1 given _ _ (fitted_by c.in_ok-check_state.ensures refl)
    (form_refused _ c.args.snapshot.now c.in_err-check_form.ensures (number_some _))

pub slice_bounds-any_over-count : goal.slice_bounds-any_over-count
slice_bounds-any_over-count c = omega (arith, (fits_by _ c.args.snapshot.now [] c.in_ok-check_form.ensures refl).long)

pub slice_bounds-any_over-start : goal.slice_bounds-any_over-start
slice_bounds-any_over-start c = omega (arith, (fits_by _ c.args.snapshot.now [] c.in_ok-check_form.ensures refl).long)

pub any_over-requires : goal.any_over-requires
any_over-requires c =
    let fits = fits_by _ c.args.snapshot.now [] c.in_ok-check_form.ensures refl in
    let fitted = fitted_by c.in_ok-check_state.ensures refl in
    record { few = fitted.sizes.few; bits = omega (arith, part_length c.args.snapshot.now fits.long) }

pub returns-then-any_over : goal.returns-then-any_over
unfolding load_call
returns-then-any_over c =
    let given = state c.args.edges.now c.args.figures.now c.args.marks.now in
    call_refused given _ _ (fitted_by c.in_ok-check_state.ensures refl)
    (load_crowded _ c.args.snapshot.now c.in_ok-check_form.ensures refl
    (sym (over c.args.snapshot.now _ c.any_over.ensures) ∙ c.if-any_over.true)) (λ q. omega arith)

pub slice_bounds-copy-count : goal.slice_bounds-copy-count
slice_bounds-copy-count c = omega (arith, (fits_by _ c.args.snapshot.now [] c.in_ok-check_form.ensures refl).long)

pub slice_bounds-copy-start : goal.slice_bounds-copy-start
slice_bounds-copy-start c = omega (arith, (fits_by _ c.args.snapshot.now [] c.in_ok-check_form.ensures refl).long)

pub copy-requires : goal.copy-requires
copy-requires c =
    let fits = fits_by _ c.args.snapshot.now [] c.in_ok-check_form.ensures refl in
    let fitted = fitted_by c.in_ok-check_state.ensures refl in
    fitted.sizes.edges_fit ∙ sym (part_length c.args.snapshot.now fits.long)

pub set_bounds-requires : goal.set_bounds-requires
set_bounds-requires c =
    let fits = fits_by _ c.args.snapshot.now [] c.in_ok-check_form.ensures refl in
    let fitted = fitted_by c.in_ok-check_state.ensures refl in
    copied_bounds fitted.sizes.few fits (c.copy.ensures ∙ part_is c.args.snapshot.now)
    (sym (over c.args.snapshot.now _ c.any_over.ensures) ∙ c.if-any_over.false)

pub set_stale-requires : goal.set_stale-requires
set_stale-requires c = (fitted_by c.in_ok-check_state.ensures refl).marks_fit

pub returns : goal.returns
unfolding load_call
returns c =
    let given = state c.args.edges.now c.args.figures.now c.args.marks.now in
    let snapshot = c.args.snapshot.now in
    call_accepted given _ _ (fitted_by c.in_ok-check_state.ensures refl)
    (load_passed _ snapshot c.in_ok-check_form.ensures refl (sym (over snapshot _ c.any_over.ensures) ∙ c.if-any_over.false)) refl
    (loaded_is _ (c.copy.ensures ∙ part_is snapshot) c.set_bounds.ensures c.set_stale.ensures)
