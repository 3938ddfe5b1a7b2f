-- `schedule::records::check_records` meets its contract. The records before i are checked; one that passes leaves the refusal. Assumes nothing.
use Rattle.std.proofs.Common.{ap, ap₂, sym, ◌∙◌}
use Rattle.state.specs.Answers.{refusal_of}
use Rattle.state.specs.Inside.Earlier.{earlier}
use Rattle.state.specs.Refusal.{refusal}
use Rattle.schedule.proofs.RecordLaws.{conditions_more, conditions_none, earlier_passed}
use Rattle.schedule.specs.Inside.Records.{opening_conditions}
use Rattle.schedule.proofs.records.check_records.Goals as goal
use Rattle.schedule.proofs.records.check_records.Goals.{in-Err, in_default}

pub loop-i-init : goal.loop-i-init
loop-i-init c = sym (conditions_none _)

pub loop-i-preserved : goal.loop-i-preserved
loop-i-preserved c =
    let of_record = ap₂ (λ n r. refusal (opening_conditions n r)) c.nodes-n.ensures c.opening_at.ensures in
    let next = sym (conditions_more _ c.loop-i.i) in
    elim c.match-fault.branch [
      | in-Err w ↦
          ap refusal_of w.first-is ∙ w.earlier-first.ensures ∙ ap₂ earlier c.loop-i.invariant (w.in-Err.ensures {u = tt} ∙ of_record) ∙ next
      | in_default w ↦
          ap refusal_of w.first-is ∙ c.loop-i.invariant ∙ sym (earlier_passed _) ∙ ap (earlier _) (w.in_default.ensures {u = tt} ∙ of_record) ∙ next
    ]
