-- `packed::degrees::ones_before` meets its contract. After i turns the nodes of i strips are counted. Assumes nothing.
use mathlib.Core.Path.{ap, sym, ◌∙◌, ◌≡◌}
use Prim.Native.Nat.{◌*◌, ◌+◌, ◌≤◌, ℕ}
use mathlib.Core.List.{List}
use native.Mathlib.Omega.{arith}
use lib.Count.{ones}
use Rattle.arith.proofs.Sums.{count_to_le, sum_to_none}
use Rattle.arith.specs.Sums.{count_to}
use Rattle.packed.proofs.DegreeLaws.{ones_more}
use Rattle.packed.proofs.RowLaws.{row_few, row_within}
use Rattle.packed.specs.Bits.{run_of}
use Rattle.packed.specs.Inside.Runs.{max_run}
use Rattle.packed.specs.Edges.{edge}
use Rattle.packed.proofs.degrees.ones_before.Goals as goal

-- the nodes of one strip more are at most b
most : (es : List ℕ) (b i own run : ℕ) → max_run * (i + 1) ≤ b → own + ones run ≡ count_to (edge es b) (max_run * (i + 1)) → own + ones run ≤ b
most es b i own run within total = omega (arith, count_to_le (edge es b) (max_run * (i + 1)))

pub loop-i-init : goal.loop-i-init
loop-i-init c = sym (sum_to_none _)

pub overflow_add-start : goal.overflow_add-start
overflow_add-start c =
    let within : max_run * (c.loop-i.i + 1) ≤ c.args.b = omega (arith, c.requires.1) in
    omega (arith, row_few c.args.b c.requires.0)

pub run_of-requires : goal.run_of-requires
run_of-requires c =
    let within : max_run * (c.loop-i.i + 1) ≤ c.args.b = omega (arith, c.requires.1) in
    (omega arith, omega arith, omega (arith, row_within c.args.b c.requires.0))

pub overflow_add-own : goal.overflow_add-own
overflow_add-own c =
    let within : max_run * (c.loop-i.i + 1) ≤ c.args.b = omega (arith, c.requires.1) in
    let total = ones_more c.args.edges.now c.args.b c.loop-i.i within c.loop-i.invariant
    (c.run_of.ensures ∙ ap (λ x. run_of c.args.edges.now (x + max_run * c.loop-i.i) max_run) c.row_start-start.ensures) in
    omega (arith, most _ _ _ _ _ within total, c.requires.0.few)

pub loop-i-preserved : goal.loop-i-preserved
loop-i-preserved c =
    let within : max_run * (c.loop-i.i + 1) ≤ c.args.b = omega (arith, c.requires.1) in
    ones_more c.args.edges.now c.args.b c.loop-i.i within c.loop-i.invariant
    (c.run_of.ensures ∙ ap (λ x. run_of c.args.edges.now (x + max_run * c.loop-i.i) max_run) c.row_start-start.ensures)
