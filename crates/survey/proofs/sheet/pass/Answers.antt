-- `survey::sheet::pass` meets its contract. The records before i are done. Assumes nothing.
use Rattle.std.proofs.Common.{ap, arith, length, refl, ◌≡◌, ◌∙◌}
use Rattle.survey.proofs.PassLaws.{length_pass, numbers_none, pass_more, pass_next}
use Rattle.survey.specs.Survey.{record_count}
use Rattle.survey.specs.Inside.Walk.{pass_edges}
use Rattle.survey.proofs.sheet.pass.Goals as goal

pub returns : goal.returns
returns c =
    let ended : c.loop-i.i ≡ record_count c.args.survey.now = omega (arith, c.count-i-end.ensures) in
    c.loop-i.invariant.0 ∙ ap (pass_edges _ _ _) ended ∙ pass_next _ _ _

pub loop-i-init : goal.loop-i-init
loop-i-init c = (c.requires.1, numbers_none _ _, refl)

pub loop-i-preserved : goal.loop-i-preserved
loop-i-preserved c =
    let held = c.loop-i.invariant in
    let two = c.requires.0.each c.loop-i.i (omega (arith, c.count-i-end.ensures)) in
    let more = pass_more _ _ _ c.loop-i.i c.measurement_at.ensures held.0 held.1 two (rw held.2 at c.decide.ensures.links) (rw held.2 at c.decide.ensures.numbers) in
    (more.0, more.1, c.decide.ensures.pairs ∙ held.2)

pub decide-requires : goal.decide-requires
decide-requires c = (
  rw c.measurement_at.ensures (c.requires.0.each c.loop-i.i (omega (arith, c.count-i-end.ensures))),
  ap length c.loop-i.invariant.0 ∙ length_pass _ _ _ c.loop-i.i,
)
