-- The calls that C makes, over the calls of the state: n is given, and the figures are 8n bytes. Assumes nothing.
use Rattle.std.specs.Prelude.{cond, List, [], ◌∷◌, ◌++◌, ℕ, ◌*◌, eqb, length}
use Rattle.state.specs.State.{State, state}
use Rattle.state.specs.Refusal.{Condition, refusal, buffer_length, one_number}
use Rattle.state.specs.Outcome.{left, Outcome, state_lengths}
use Rattle.calls.specs.Clear.{clear_call}
use Rattle.edits.specs.Edit.{add_call, remove_call}
use Rattle.calls.specs.Score.{score_call}
use Rattle.capi.specs.Figures.{decoded, encoded}

-- 1 and 2 of n nodes and the lengths of what is lent
abbrev pub lent_lengths : ℕ → ℕ → ℕ → ℕ → List Condition
lent_lengths n links figures marks = state_lengths n links marks ++ buffer_length (8 * n) figures ∷ []

-- What is lent is a state whose figures are bytes: with n numbers for them, and the other way round.
abbrev pub numbered : ℕ → State → State
numbered n s = state s.edges (decoded n s.figures) s.marks

abbrev pub in_bytes : State → State
in_bytes s = state s.edges (encoded s.figures) s.marks

-- A call that is accepted leaves what the state's call leaves, in bytes; one that is refused leaves what is lent as it was.
unfoldable pub ended : (State → Outcome) → ℕ → State → Outcome
ended call n lent =
    let o = call (numbered n lent) in
    left o.refusal (cond (eqb o.refusal 0) (in_bytes o.after) lent)

unfoldable pub called : (State → Outcome) → ℕ → State → Outcome
called call n lent =
    let r = refusal (lent_lengths n (length lent.edges) (length lent.figures) (length lent.marks)) in
    cond (eqb r 0) (ended call n lent) (left r lent)

abbrev pub fj_clear : ℕ → State → Outcome
fj_clear n lent = called clear_call n lent

abbrev pub fj_add : ℕ → State → ℕ → ℕ → Outcome
fj_add n lent a b = called (λ s. add_call s a b) n lent

abbrev pub fj_remove : ℕ → State → ℕ → ℕ → Outcome
fj_remove n lent a b = called (λ s. remove_call s a b) n lent

-- the grains, or 2 ^ 64 less the refusal number
unfoldable pub fj_score : ℕ → List ℕ → ℕ → ℕ
fj_score n links p =
    let scored = score_call links n p in
    one_number scored.refusal scored.score
