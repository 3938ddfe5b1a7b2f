-- `topk::list::list` meets its contract: it is the list call. Assumes nothing.
use Rattle.std.proofs.Common.{◌≤◌, length, sym, ◌∙◌, arith}
use lib.Seq.{length-take-le}
use Rattle.state.specs.State.{state}
use Rattle.topk.proofs.ListLaws.{list_accepted, list_fits, list_refused}
use Rattle.topk.proofs.list.list.Goals as goal

pub returns-in_err-check_list : goal.returns-in_err-check_list
returns-in_err-check_list c =
    let a = c.args in
    list_refused (state a.edges.now a.figures.now a.marks.now) a.scratch.now a.entries.now _ _ c.from_residual.ensures.1 c.in_err-check_list.ensures

-- a list that is not refused has few nodes
pub scratch_bytes-used-requires : goal.scratch_bytes-used-requires
scratch_bytes-used-requires c =
    let a = c.args in
    let fits = list_fits (state a.edges.now a.figures.now a.marks.now) a.scratch.now a.entries.now c.in_ok-check_list.ensures in
    fits.1.workable.scorable.room.few

-- the scratch has the bytes that are used
pub slice_bounds-accepted-end : goal.slice_bounds-accepted-end
slice_bounds-accepted-end c =
    let a = c.args in
    let fits = list_fits (state a.edges.now a.figures.now a.marks.now) a.scratch.now a.entries.now c.in_ok-check_list.ensures in
    omega (arith, c.scratch_bytes-used.ensures, fits.0)

pub slice_bounds-accepted-end-2 : goal.slice_bounds-accepted-end-2
slice_bounds-accepted-end-2 c =
    let a = c.args in
    let fits = list_fits (state a.edges.now a.figures.now a.marks.now) a.scratch.now a.entries.now c.in_ok-check_list.ensures in
    let within : c.scratch_bytes-used.result ≤ length a.scratch.now = omega (arith, c.scratch_bytes-used.ensures, fits.0) in
    sym (length-take-le _ _ within)

pub accepted-requires : goal.accepted-requires
accepted-requires c =
    let a = c.args in
    let fits = list_fits (state a.edges.now a.figures.now a.marks.now) a.scratch.now a.entries.now c.in_ok-check_list.ensures in
    let within : c.scratch_bytes-used.result ≤ length a.scratch.now = omega (arith, c.scratch_bytes-used.ensures, fits.0) in
    (fits.1, length-take-le _ _ within ∙ c.scratch_bytes-used.ensures)

pub returns : goal.returns
returns c =
    let a = c.args in
    list_accepted (state a.edges.now a.figures.now a.marks.now) a.scratch.now a.entries.now c.in_ok-check_list.ensures
    c.scratch_bytes-used.ensures c.accepted.ensures.0 c.accepted.ensures.1
