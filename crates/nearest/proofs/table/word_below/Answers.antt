-- `nearest::table::word_below` meets its contract: the run of b's row, shifted to its place. Assumes nothing.
use Rattle.std.proofs.Common.{ap, arith, ◌*◌, ◌+◌, ◌∙◌}
use Rattle.packed.proofs.RowLaws.{row_few, row_run, row_within}
use Rattle.packed.specs.Bits.{run_of}
use Rattle.packed.specs.Edges.{edge}
use Rattle.packed.specs.Inside.Runs.{max_run}
use Rattle.nearest.proofs.StripLaws.{strip_word}
use Rattle.nearest.proofs.table.word_below.Goals as goal

pub overflow_add-row_start : goal.overflow_add-row_start
overflow_add-row_start c = omega (arith, row_few c.args.b c.requires.0)

pub run_of-requires : goal.run_of-requires
run_of-requires c = (omega arith, omega arith, omega (arith, row_within c.args.b c.requires.0))

pub returns : goal.returns
returns c =
    let es = c.args.edges.now in
    let at = max_run * c.args.k in
    let r = c.min-count in
    strip_word (edge es c.args.b) c.args.b c.args.k c.requires.1 r.ensures
    (c.run_of.ensures ∙ ap (λ i. run_of es (i + at) r.result) c.row_start.ensures ∙ row_run es c.args.b at r.result (omega (arith, r.ensures)))
