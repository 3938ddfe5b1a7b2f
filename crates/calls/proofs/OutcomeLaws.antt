-- How a call that writes the state ends. Assumes nothing.
use mathlib.Core.List.{◌++◌, List}
use mathlib.Core.Path.{ap, sym, ◌∙◌, ◌≡◌}
use Prim.Native.Nat.{ℕ}
use borrow.Author.Tests.{ne_eqb}
use lib.ListN.{length, replicate}
use Rattle.std.proofs.Common.{Result, IsErrAnd}
use Rattle.state.proofs.AnswerLaws.{left_by, refused_left}
use Rattle.state.proofs.RefusalLaws.{append_refused, Fitted, fitted_append}
use Rattle.state.specs.Answers.{number, refusal_of}
use Rattle.state.specs.declared.refusal.Refusal.{Refusal}
use Rattle.calls.specs.Clear.{cleared}
use Rattle.state.specs.Marks.{all_exact, all_stale, mark_bytes}
use Rattle.state.specs.Outcome.{left, lengths, outcome, state_lengths}
use Rattle.state.specs.State.{state, size, State}
use Rattle.state.specs.Refusal.{Condition, refusal}
use Rattle.state.specs.Sizes.{edge_bytes}
use Rattle.state.specs.Inside.Bounds.{bounds_of}
use Rattle.calls.specs.Snapshot.{loaded}

pub refused_is : (cs : List Condition) (s after : State) {r : ℕ} → r ≡ refusal cs → (r ≡ 0 → ⊥) → left r s ≡ outcome cs s after
unfolding outcome
refused_is cs s after {r} e d = rw (sym e, ne_eqb r 0 d)

pub accepted_is : (cs : List Condition) (s after : State) {t : State} → refusal cs ≡ 0 → t ≡ after → left 0 t ≡ outcome cs s after
unfolding outcome
accepted_is cs s after e q = rw (e, q)

-- refused by the lengths, or after them
module _ (s : State) (cs : List Condition) (after : State) where
  pub lengths_refused : {r : ℕ} → r ≡ refusal (state_lengths (size s) (length s.edges) (length s.marks)) → (r ≡ 0 → ⊥)
      → left r s ≡ outcome (lengths s ++ cs) s after
  unfolding lengths
  lengths_refused e d = refused_is (lengths s ++ cs) s after (sym (append_refused (lengths s) cs (sym e) d)) d

  module _ (f : Fitted (size s) (length s.edges) (length s.marks)) where
    pub call_refused : {r : ℕ} → r ≡ refusal cs → (r ≡ 0 → ⊥) → left r s ≡ outcome (lengths s ++ cs) s after
    unfolding lengths
    call_refused e d = refused_is (lengths s ++ cs) s after (e ∙ sym (fitted_append (size s) (length s.edges) (length s.marks) cs f)) d

    pub call_accepted : {r : ℕ} {t : State} → r ≡ refusal cs → r ≡ 0 → t ≡ after → left 0 t ≡ outcome (lengths s ++ cs) s after
    unfolding lengths
    call_accepted e z q = accepted_is (lengths s ++ cs) s after (fitted_append (size s) (length s.edges) (length s.marks) cs f ∙ sym e ∙ z) q

-- refused by a check, whose refusal `?` hands on
module _ {A : Type 0} (x : Result A Refusal) (r : Refusal) (h : IsErrAnd x (λ e. e ≡ r)) (s : State) (cs : List Condition) (after : State) where
  pub lengths_on : number r ≡ refusal (state_lengths (size s) (length s.edges) (length s.marks)) → left (refusal_of x) s ≡ outcome (lengths s ++ cs) s after
  unfolding lengths
  lengths_on e = refused_left (lengths s) cs x r s after h e

  pub call_on : Fitted (size s) (length s.edges) (length s.marks) → number r ≡ refusal cs → left (refusal_of x) s ≡ outcome (lengths s ++ cs) s after
  unfolding lengths
  call_on f e = left_by (lengths s ++ cs) x r s after h (e ∙ sym (fitted_append (size s) (length s.edges) (length s.marks) cs f))

-- the states that calls build, part by part
pub state_is : {edges edges' figures figures' marks marks' : List ℕ} → edges ≡ edges' → figures ≡ figures' → marks ≡ marks'
    → state edges figures marks ≡ state edges' figures' marks'
state_is e f m = λ i. record { edges = e i; figures = f i; marks = m i }

pub cleared_is : (n : ℕ) {edges figures marks : List ℕ} → edges ≡ replicate (edge_bytes n) 0 → figures ≡ replicate n 0 → marks ≡ replicate (mark_bytes n) 0
    → state edges figures marks ≡ cleared n
unfolding cleared all_exact
cleared_is n e f m = state_is e f m

pub loaded_is : (n : ℕ) {edges snapshot_edges figures marks : List ℕ} → edges ≡ snapshot_edges → figures ≡ bounds_of edges n → marks ≡ all_stale n → state edges figures marks ≡ loaded n snapshot_edges
unfolding loaded
loaded_is n e f m = state_is e (f ∙ ap (λ es. bounds_of es n) e) m
