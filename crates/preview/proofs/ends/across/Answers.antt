-- `preview::ends::across` meets its contract. Assumes nothing.
use Rattle.std.proofs.Common.{ap, arith, cond, get_or, replicate, sym, ◌<◌, ◌∙◌, ℕ}
use Rattle.arith.proofs.Sums.{filling_length, filling_more}
use Rattle.arith.specs.Sums.{pack_to}
use Rattle.ego.specs.Inside.Words.{word_count}
use Rattle.packed.specs.Edges.{edge}
use Rattle.packed.proofs.SetLaws.{fill_front, front_none}
use Rattle.preview.proofs.EndLaws.{filling_kept}
use Rattle.preview.specs.Inside.Ends.{crossing_of}
use Rattle.preview.proofs.ends.across.Goals as goal
use Rattle.preview.proofs.ends.across.Goals.{then-not-has_bit, else-not-has_bit}

pub loop-k-init : goal.loop-k-init
loop-k-init c = front_none _ (replicate word_count 0) c.args.from.now.near.count c.requires.start.few

pub loop-k-preserved : goal.loop-k-preserved
loop-k-preserved c =
    let from = c.args.from.now in
    let to = c.args.to.now in
    let k = c.loop-k.k in
    let w = c.loop-k.invariant in
    let word = λ (m : ℕ). pack_to (λ j. edge c.args.edges.now (get_or from.near.nodes m 0) (get_or to.near.nodes j 0)) to.near.count in
    let h : k < from.near.count = omega (arith, c.loop-k-test.true, w.all, filling_length w) in
    elim c.if-not-has_bit.branch [
      | then-not-has_bit b ↦
          rw b.word-items-is (filling_more w h (b.word_of.ensures ∙ sym (ap (λ t. cond t 0 (word k)) (sym c.has_bit.ensures ∙ b.if-not-has_bit.true))))
      | else-not-has_bit b ↦ rw b.word-items-is (filling_kept word_count w h (ap (λ t. cond t 0 (word k)) (sym c.has_bit.ensures ∙ b.if-not-has_bit.false)))
    ]

pub returns : goal.returns
unfolding crossing_of
returns c =
    fill_front _ (replicate word_count 0) 0 c.args.from.now.near.count c.requires.start.few c.loop-k.invariant
    (omega (arith, c.loop-k-test.false, c.loop-k.auto.word-items))
