-- How the calls that C makes end. Assumes nothing.
use mathlib.Core.Bool.{Bool}
use mathlib.Core.List.{[], List, ◌∷◌}
use mathlib.Core.Path.{ap, refl, sym, ◌∙◌, ◌≡◌}
use Prim.Native.Nat.{◌*◌, ℕ}
use native.Mathlib.Decide.{ℕ_discrete}
use native.Mathlib.Omega.{arith}
use borrow.Author.Tests.{eq-eqb, ne_eqb}
use lib.ListN.{length, replicate}
use Rattle.packed.specs.Inside.Bytes.{Bytes}
use Rattle.state.proofs.RefusalLaws.{append_none, fitted_append, fitted_by, passed_length, refusal_none, refused_length}
use Rattle.state.specs.Outcome.{left, lengths, outcome, Outcome, state_lengths}
use Rattle.state.specs.Refusal.{buffer_length, Condition, one_number, refusal}
use Rattle.state.specs.State.{state, State}
use Rattle.calls.proofs.OutcomeLaws.{accepted_is, cleared_is}
use Rattle.calls.specs.Clear.{clear_call, cleared}
use Rattle.calls.specs.Score.{score_call, Scored}
use Rattle.edits.proofs.RenewalLaws.{renews_whole}
use Rattle.edits.specs.Inside.Change.{edit_call, Edits}
use Rattle.edits.specs.Inside.Renewal.{Renewable, renewed_after}
use Rattle.edits.specs.declared.renewal.Renewal.{Renewal}
use Rattle.state.proofs.AnswerLaws.{number_some, passed_on}
use Rattle.state.specs.Answers.{number, refusal_of}
use Rattle.state.specs.declared.refusal.Refusal.{Refusal}
use Rattle.std.proofs.Common.{Result, IsErrAnd}
use Rattle.capi.proofs.FigureLaws.{bytes_back, figures_zero, length_decoded}
use Rattle.capi.specs.Calls.{called, ended, fj_score, in_bytes, lent_lengths, numbered}
use Rattle.capi.specs.Figures.{decoded, encoded}
use Rattle.capi.specs.Inside.Writing.{figure_count}

-- refusals 1 and 2
module _ (n links figures marks : ℕ) (e : 0 ≡ refusal (state_lengths n links marks)) where
  rest : refusal (lent_lengths n links figures marks) ≡ refusal (buffer_length (8 * n) figures ∷ [])
  rest = fitted_append n links marks (buffer_length (8 * n) figures ∷ []) (fitted_by e refl)

  pub figures_other : (figures ≡ 8 * n → ⊥) → 2 ≡ refusal (lent_lengths n links figures marks)
  figures_other d = sym (rest ∙ refused_length [] (8 * n) figures d)

  pub lent_lengths_pass : figures ≡ 8 * n → 0 ≡ refusal (lent_lengths n links figures marks)
  lent_lengths_pass h = sym (rest ∙ passed_length [] (8 * n) figures h ∙ refusal_none)

-- what a call that passes them knows
pub record LengthsFit (n links figures marks : ℕ) : Type 0 where
  pub passed : refusal (state_lengths n links marks) ≡ 0
  pub figures_fit : figures ≡ 8 * n

pub lent_fits : (n links figures marks : ℕ) → 0 ≡ refusal (lent_lengths n links figures marks) → LengthsFit n links figures marks
lent_fits n links figures marks e =
    let q = append_none (state_lengths n links marks) (buffer_length (8 * n) figures ∷ []) (sym e) in
    elim (ℕ_discrete figures (8 * n)) [
      | yes h ↦ record { passed = q; figures_fit = h }
      | no d ↦ absurd (omega (arith, e, figures_other n links figures marks (sym q) d))
    ]

-- a call on lengths that are refused, or accepted
module _ (call : State → Outcome) (n : ℕ) (lent : State) where
  abbrev passing : ℕ
  passing = refusal (lent_lengths n (length lent.edges) (length lent.figures) (length lent.marks))

  pub called_refused : (x : Result (Unit {0}) Refusal) (r : Refusal) → IsErrAnd x (λ e. e ≡ r) → number r ≡ passing → left (refusal_of x) lent ≡ called call n lent
  unfolding called
  called_refused x r h e = rw (passed_on x r h, e, ne_eqb passing 0 (λ z. number_some r (e ∙ z)))

  pub called_passed : 0 ≡ passing → {o : Outcome} → o ≡ ended call n lent → o ≡ called call n lent
  unfolding called
  called_passed e h = h ∙ sym (rw (sym e))

pub score_given : (n : ℕ) (links : List ℕ) (p : ℕ) {s : Scored} → s ≡ score_call links n p → one_number s.refusal s.score ≡ fj_score n links p
unfolding fj_score
score_given n links p e = rw e

-- a call of the state that is refused leaves the state as it was
abbrev Keeps : (State → Outcome) → Type 0
Keeps call = (s : State) → ((call s).refusal ≡ 0 → ⊥) → (call s).after ≡ s

outcome_keeps : (cs : List Condition) (s after : State) → ((outcome cs s after).refusal ≡ 0 → ⊥) → (outcome cs s after).after ≡ s
unfolding outcome
outcome_keeps cs s after d = rw (ne_eqb (refusal cs) 0 d)

module _ (n : ℕ) (lent : State) (bytes : Bytes lent.figures) (f : LengthsFit n (length lent.edges) (length lent.figures) (length lent.marks)) where
  -- so that what it leaves, as bytes, is what C is left
  ended_by : (call : State → Outcome) → Keeps call → {o : Outcome} → o ≡ call (numbered n lent) → left o.refusal (in_bytes o.after) ≡ ended call n lent
  unfolding ended
  ended_by call keeps {o} e = rw e (elim (ℕ_discrete (call (numbered n lent)).refusal 0) [
    | yes z ↦ rw (eq-eqb _ 0 z)
    | no d ↦ rw (ne_eqb _ 0 d, keeps (numbered n lent) d) (ap (λ b. left (call (numbered n lent)).refusal (state lent.edges b lent.marks))
        (bytes_back n lent.figures bytes f.figures_fit))
  ])

  -- edits: the figures are renewed as bytes
  counted : figure_count lent.figures ≡ n
  counted = omega (arith, f.figures_fit)

  pub renew_fits : {r : Renewal} → Renewable r n
      → (length lent.figures ≡ 8 * figure_count lent.figures) × Renewable r (figure_count lent.figures)
  renew_fits h = (omega (arith, f.figures_fit), rw counted h)

  -- none where the edit is refused
  pub renews_none : lent.figures ≡ encoded (decoded (figure_count lent.figures) lent.figures)
  renews_none = rw counted (sym (bytes_back n lent.figures bytes f.figures_fit))

  pub edit_ended : (a b : ℕ) (on : Bool) {r : Result Renewal Refusal} {links figures marks : List ℕ} → Edits lent.edges lent.marks n a b on r links marks
      → figures ≡ encoded (renewed_after r (decoded (figure_count lent.figures) lent.figures))
      → left (refusal_of r) (state links figures marks) ≡ ended (λ s. edit_call s a b on) n lent
  edit_ended a b on h w =
      rw (w, counted) (ended_by (λ s. edit_call s a b on) (λ s d. outcome_keeps _ _ _ d)
      (renews_whole lent.edges lent.marks n a b on (decoded n lent.figures) (length_decoded n lent.figures) h refl))

  -- a clear: all bytes are 0
  pub clear_ended : {links figures marks : List ℕ} → links ≡ replicate (length lent.edges) 0 → figures ≡ replicate (length lent.figures) 0
      → marks ≡ replicate (length lent.marks) 0 → left 0 (state links figures marks) ≡ ended clear_call n lent
  unfolding clear_call lengths
  clear_ended e g m =
      let fits = fitted_by {n = n} {edges = length lent.edges} {marks = length lent.marks} refl f.passed in
      let long = length_decoded n lent.figures in
      let passed = ap (λ k. refusal (state_lengths k (length lent.edges) (length lent.marks))) long ∙ f.passed in
      let done = cleared_is n (e ∙ ap (λ k. replicate k 0) fits.sizes.edges_fit) refl (m ∙ ap (λ k. replicate k 0) fits.marks_fit) in
      rw (g ∙ ap (λ k. replicate k 0) f.figures_fit ∙ figures_zero n)
      (ended_by clear_call (λ s d. outcome_keeps _ _ _ d) (accepted_is _ (numbered n lent) _ passed (done ∙ ap cleared (sym long))))
