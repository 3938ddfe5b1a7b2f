-- `packed::rows::row_below` meets its contract: the words before k are made, and those past p stay 0. Assumes nothing.
use mathlib.Core.Path.{ap, ◌∙◌, ◌≡◌}
use Prim.Native.Nat.{◌%◌, ◌*◌, ◌+◌, ◌-◌, ◌<◌, ◌^◌, ℕ}
use native.Mathlib.Omega.{arith}
use lib.ListN.{length, length-take, replicate, take}
use Rattle.arith.proofs.Sums.{filling_more}
use Rattle.packed.proofs.RowLaws.{row_few, row_run, row_within}
use Rattle.packed.proofs.SetLaws.{fill_front, front_none, row_filled, row_word, word_of_row}
use Rattle.packed.specs.Bits.{run_of}
use Rattle.packed.specs.Inside.Rows.{row_words, words_for}
use Rattle.packed.proofs.rows.row_below.Goals as goal

-- the loop's words have nodes below p
some : (p words k : ℕ) → words ≡ words_for p → k < length {A = ℕ} (take words (replicate row_words 0)) → 32 * k < p
some p words k e h = omega (arith, length-take {A = ℕ} words (replicate row_words 0))

pub row_start-start-requires : goal.row_start-start-requires
row_start-start-requires c = omega (arith, c.requires.few)

pub loop-k-init : goal.loop-k-init
loop-k-init c = rw c.words_for.ensures (front_none _ _ (words_for c.args.p) (omega (arith, c.requires.few)))

pub overflow_add-start : goal.overflow_add-start
overflow_add-start c =
    let h = some c.args.p _ c.loop-k.k c.words_for.ensures c.loop-k-test.true in
    omega (arith, row_few c.args.p c.requires, c.row_start-start.ensures)

pub overflow_sub-end : goal.overflow_sub-end
overflow_sub-end c =
    let h = some c.args.p _ c.loop-k.k c.words_for.ensures c.loop-k-test.true in
    omega (arith, c.min-end.ensures)

pub run_of-requires : goal.run_of-requires
run_of-requires c =
    let h = some c.args.p _ c.loop-k.k c.words_for.ensures c.loop-k-test.true in
    let e = c.min-end.ensures in
    (omega (arith, h, e), omega (arith, e), omega (arith, h, e, row_within c.args.p c.requires, c.row_start-start.ensures))

pub overflow_sub-word : goal.overflow_sub-word
overflow_sub-word c = omega (arith, c.min-end.ensures)

pub overflow_shl-word : goal.overflow_shl-word
overflow_shl-word c =
    let h = some c.args.p _ c.loop-k.k c.words_for.ensures c.loop-k-test.true in
    omega (arith, c.min-end.ensures)

-- the word that is stored
word : (c : goal.After-run_of) →
    (c.run_of.result * 2 ^ (32 * c.loop-k.k + 32 - c.min-end.result) % 2 ^ 64 ≡ word_of_row c.args.edges.now c.args.p c.args.p c.loop-k.k)
    × (word_of_row c.args.edges.now c.args.p c.args.p c.loop-k.k < 2 ^ 32)
word c =
    let es = c.args.edges.now in
    let k = c.loop-k.k in
    let end = c.min-end.result in
    let h = some c.args.p _ k c.words_for.ensures c.loop-k-test.true in
    row_word es c.args.p c.args.p k end c.min-end.ensures h
    (c.run_of.ensures ∙ ap (λ i. run_of es (i + 32 * k) (end - 32 * k)) c.row_start-start.ensures
    ∙ row_run es c.args.p (32 * k) (end - 32 * k) (omega (arith, h, c.min-end.ensures)))

pub overflow_cast-word : goal.overflow_cast-word
overflow_cast-word c = omega (arith, word c)

pub loop-k-preserved : goal.loop-k-preserved
loop-k-preserved c =
    let w = c.loop-k.invariant in
    let h = some c.args.p _ c.loop-k.k c.words_for.ensures c.loop-k-test.true in
    filling_more w (omega (arith, h)) (word c).0

pub returns : goal.returns
returns c =
    let p = c.args.p in
    let few = c.requires.few in
    rw c.words_for.ensures
    (fill_front _ _ 0 (words_for p) (omega (arith, few)) c.loop-k.invariant (omega (arith, c.loop-k-test.false, c.loop-k.auto.word-items)))
    ∙ row_filled c.args.edges.now p p (words_for p) (omega (arith, few)) (omega arith)
