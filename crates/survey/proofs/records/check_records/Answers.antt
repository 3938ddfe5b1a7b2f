-- `survey::records::check_records` meets its contract. The records before i are checked; one that passes leaves the refusal. Assumes nothing.
use Rattle.std.proofs.Common.{ap, ap₂, sym, [], ◌∷◌, ◌∙◌}
use Rattle.state.specs.Answers.{refusal_of}
use Rattle.state.specs.Inside.Earlier.{earlier}
use Rattle.state.specs.Refusal.{pair_conditions, refusal}
use Rattle.survey.proofs.RecordLaws.{earlier_passed, pairs_next, pairs_none}
use Rattle.survey.proofs.records.check_records.Goals as goal
use Rattle.survey.proofs.records.check_records.Goals.{in-Err, in_default}

pub loop-i-init : goal.loop-i-init
loop-i-init c = sym (pairs_none _ _)

pub loop-i-preserved : goal.loop-i-preserved
loop-i-preserved c =
    let of_record = ap (λ r. refusal (pair_conditions c.args.n ((r.a, r.b) ∷ []))) c.measurement_at-r.ensures in
    let next = sym (pairs_next _ _ c.loop-i.i) in
    elim c.match-check_pair.branch [
      | in-Err w ↦
          ap refusal_of w.first-is ∙ w.earlier-first.ensures ∙ ap₂ earlier c.loop-i.invariant (w.in-Err.ensures {u = tt} ∙ of_record) ∙ next
      | in_default w ↦
          ap refusal_of w.first-is ∙ c.loop-i.invariant ∙ sym (earlier_passed _) ∙ ap (earlier _) (w.in_default.ensures {u = tt} ∙ of_record) ∙ next
    ]
