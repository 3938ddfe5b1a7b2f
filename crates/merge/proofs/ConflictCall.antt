-- How the calls end where `?` hands a refusal on, and what the first conflict answers. Assumes nothing.
use mathlib.Core.List.{List, ◌++◌}
use mathlib.Core.Path.{ap, sym, ◌∙◌, ◌≡◌}
use Prim.Native.Nat.{ℕ}
use borrow.Author.Tests.{ne_eqb}
use lib.ListN.{length}
use Rattle.std.proofs.Common.{Err, IsErrAnd, Ok, Option, Result}
use Rattle.calls.proofs.OutcomeLaws
use Rattle.state.proofs.AnswerLaws.{number_some, passed_on, refused_by}
use Rattle.state.proofs.RefusalLaws.{Fitted, Sized, sized-append}
use Rattle.state.specs.Answers.{Found, Refused, found, number, refusal_of}
use Rattle.state.specs.Outcome.{edge_lengths, left, lengths, outcome}
use Rattle.state.specs.Refusal.{Condition, refusal}
use Rattle.state.specs.State.{size, State}
use Rattle.merge.specs.Conflict.{conflict_call, conflict_conditions, conflicts, first_of}
use Rattle.merge.specs.Pinned.{Brought, brought_lengths}
use Rattle.state.specs.declared.refusal.Refusal.{Refusal}
use Rattle.merge.specs.declared.changed.Pair.{Pair}

-- refused after the state's lengths
module _ (s : State) (cs : List Condition) (after : State) where
  pub handed_on : Fitted (size s) (length s.edges) (length s.marks)
      → (x : Result (Unit {0}) Refusal) (r : Refusal) → IsErrAnd x (λ e. e ≡ r) → number r ≡ refusal cs → left (refusal_of x) s ≡ outcome (lengths s ++ cs) s after
  handed_on f x r h e =
      let p = passed_on x r h in
      OutcomeLaws.call_refused s cs after f (p ∙ e) (λ z. number_some r (sym p ∙ z))

module _ (edges : List ℕ) (n : ℕ) (k : Brought) where
  pub call_refused : {r : ℕ} → r ≡ refusal (conflict_conditions edges n k) → (r ≡ 0 → ⊥) → Refused r ≡ conflict_call edges n k
  unfolding conflict_call
  call_refused {r} e d = rw (sym e, ne_eqb r 0 d)

  pub call_answered : {x : Found Pair} → refusal (conflict_conditions edges n k) ≡ 0 → x ≡ first_of (conflicts edges n k) → x ≡ conflict_call edges n k
  unfolding conflict_call
  call_answered z e = rw z e

  -- refused by the edges, and by what is brought, as `?` hands it on
  handed : (x : Result (Option Pair) Refusal) (r : Refusal) → IsErrAnd x (λ e. e ≡ r) → number r ≡ refusal (conflict_conditions edges n k) → found x ≡ conflict_call edges n k
  handed (Ok o) r h e = absurd h
  handed (Err q) r h e = call_refused (ap number h ∙ e) (number_some q)

  pub edges_refused : (x : Result (Option Pair) Refusal) (r : Refusal) → IsErrAnd x (λ e. e ≡ r) → number r ≡ refusal (edge_lengths n (length edges)) → found x ≡ conflict_call edges n k
  edges_refused x r h e = handed x r h (refused_by (edge_lengths n (length edges)) (brought_lengths n k) r e)

  pub brought_refused : Sized n (length edges)
      → (x : Result (Option Pair) Refusal) (r : Refusal) → IsErrAnd x (λ e. e ≡ r) → number r ≡ refusal (brought_lengths n k) → found x ≡ conflict_call edges n k
  brought_refused s x r h e = handed x r h (e ∙ sym (sized-append n (length edges) (brought_lengths n k) s))

  pub lengths_none : Sized n (length edges) → refusal (brought_lengths n k) ≡ 0 → refusal (conflict_conditions edges n k) ≡ 0
  lengths_none s z = sized-append n (length edges) (brought_lengths n k) s ∙ z
