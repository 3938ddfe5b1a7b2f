-- `topk::list::check_list` meets its contract. Assumes nothing.
use Rattle.std.proofs.Common.{◌≡◌, ◌<◌, ◌≤◌, ◌++◌, ◌∷◌, [], List, ℕ, sym, refl, arith, ◌∙◌}
use Rattle.ego.specs.Graph.{Graph}
use Rattle.packed.specs.Edges.{edge}
use Rattle.state.proofs.AnswerLaws.{refused_on}
use Rattle.state.proofs.RefusalLaws as law
use Rattle.state.specs.Outcome.{state_lengths}
use Rattle.state.specs.Refusal.{Condition, crowded_before, everyone, list_length, refusal}
use Rattle.state.specs.Sizes.{scratch_bytes}
use Rattle.topk.specs.List.{list_conditions}
use Rattle.topk.proofs.list.check_list.Goals as goal
use Rattle.topk.proofs.list.check_list.Goals.{then-k-eq0-via-then-k-eq0, then-k-eq0-via-else-k-eq0+then-n-k}

-- what is left to decide where the lengths of the state fit, and where the scratch does too
module _ (n edges marks : ℕ) (e : 0 ≡ refusal (state_lengths n edges marks)) where
  fitted : (cs : List Condition) → refusal (state_lengths n edges marks ++ cs) ≡ refusal cs
  fitted cs = law.fitted_append _ _ _ cs (law.fitted_by e refl)

  enough : (g : Graph) (k : ℕ) {scratch : ℕ} → scratch_bytes n ≤ scratch
      → refusal (state_lengths n edges marks ++ list_conditions n g k scratch) ≡ refusal (list_length n k ∷ crowded_before g n everyone ∷ [])
  enough g k h = fitted _ ∙ law.passed_scratch _ _ _ h

pub returns-in_err-check_state : goal.returns-in_err-check_state
returns-in_err-check_state c = refused_on _ _ _ _ c.from_residual.ensures.1 c.in_err-check_state.ensures

pub scratch_bytes-requires : goal.scratch_bytes-requires
scratch_bytes-requires c = (law.fitted_by c.in_ok-check_state.ensures refl).sizes.few

pub returns-then-scratch-scratch_bytes : goal.returns-then-scratch-scratch_bytes
returns-then-scratch-scratch_bytes c =
    let short : c.args.scratch < scratch_bytes c.args.n = omega (arith, c.scratch_bytes.ensures) in
    sym (fitted _ _ _ c.in_ok-check_state.ensures _ ∙ law.refused_scratch _ _ _ short)

pub returns-then-k-eq0 : goal.returns-then-k-eq0
returns-then-k-eq0 c =
    let a = c.args in
    let fits : scratch_bytes a.n ≤ a.scratch = omega (arith, c.scratch_bytes.ensures) in
    let rest = enough _ _ _ c.in_ok-check_state.ensures (edge a.edges.now) a.k fits in
    elim c.then-k-eq0.branch [
      | then-k-eq0-via-then-k-eq0 w ↦ sym (rest ∙ law.refused_none_listed _ _ _ w.if-k-eq0.true)
      | then-k-eq0-via-else-k-eq0+then-n-k w ↦ sym (rest ∙ law.refused_all_listed _ _ _ w.if-n-k.true)
    ]

pub any_strip_over-requires : goal.any_strip_over-requires
any_strip_over-requires c = law.sized_room (law.fitted_by c.in_ok-check_state.ensures refl).sizes

pub returns-then-any_strip_over : goal.returns-then-any_strip_over
returns-then-any_strip_over c =
    let a = c.args in
    let fits : scratch_bytes a.n ≤ a.scratch = omega (arith, c.scratch_bytes.ensures) in
    sym (enough _ _ _ c.in_ok-check_state.ensures (edge a.edges.now) a.k fits
    ∙ law.passed_listed _ _ _ c.if-k-eq0.false c.if-n-k.false
    ∙ law.refused_before _ _ _ _ (sym c.if-any_strip_over.ensures))

pub returns : goal.returns
returns c =
    let a = c.args in
    let fits : scratch_bytes a.n ≤ a.scratch = omega (arith, c.scratch_bytes.ensures) in
    sym (enough _ _ _ c.in_ok-check_state.ensures (edge a.edges.now) a.k fits
    ∙ law.passed_listed _ _ _ c.if-k-eq0.false c.if-n-k.false
    ∙ law.passed_before _ _ _ _ (sym c.if-any_strip_over.ensures)
    ∙ law.refusal_none)
