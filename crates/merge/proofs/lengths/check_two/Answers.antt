-- `merge::lengths::check_two` meets its contract. Assumes nothing.
use mathlib.Core.List.{[]}
use mathlib.Core.Path.{sym, ◌∙◌}
use Rattle.state.proofs.RefusalLaws.{passed_length, refusal_none, refused_length}
use Rattle.merge.proofs.lengths.check_two.Goals.{then-x-bytes-via-then-x-bytes, then-x-bytes-via-else-x-bytes+then-y-bytes}
use Rattle.merge.proofs.lengths.check_two.Goals as goal

pub returns-then-x-bytes : goal.returns-then-x-bytes
returns-then-x-bytes c =
    let e = c.edge_bytes-bytes.ensures in
    elim c.then-x-bytes.branch [
      | then-x-bytes-via-then-x-bytes w ↦ sym (refused_length _ _ _ (λ q. w.if-x-bytes.true (q ∙ sym e)))
      | then-x-bytes-via-else-x-bytes+then-y-bytes w ↦
          sym (passed_length _ _ _ (w.if-x-bytes.false ∙ e) ∙ refused_length _ _ _ (λ q. w.if-y-bytes.true (q ∙ sym e)))
    ]

pub returns : goal.returns
returns c =
    let e = c.edge_bytes-bytes.ensures in
    sym (passed_length _ _ _ (c.if-x-bytes.false ∙ e) ∙ passed_length [] _ _ (c.if-y-bytes.false ∙ e) ∙ refusal_none)
