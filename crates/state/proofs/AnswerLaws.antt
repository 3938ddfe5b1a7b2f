-- Answers and the numbers of their refusals. Assumes nothing.
use Rattle.std.proofs.Common.{◌≡◌, ◌≢◌, ℕ, refl, ap, sym, ◌∙◌, List, ◌++◌, Option, Result, Ok, Err, IsErr, IsErrAnd, IsOk, arith}
use Rattle.std.proofs.lemmas.Bool.{false≢true}
use borrow.Author.Tests.{ne_eqb}
use Rattle.state.proofs.RefusalLaws.{append_refused}
use Rattle.state.specs.Answers.{Refused, found, number, refusal_of, value_of}
use Rattle.state.specs.Outcome.{left, outcome}
use Rattle.state.specs.Refusal.{Condition, refusal}
use Rattle.state.specs.State.{State}
use Rattle.state.specs.declared.refusal.Refusal.{Refusal}
use Rattle.state.specs.declared.refusal.Refusal.TheVariants.{NodeCount, Length, Scratch, Node, SameNode, EdgePresent, EdgeAbsent, EntryCount, Malformed, OtherCount, CrowdedBefore, CrowdedAfter, NoHours, PartRecord, Conflict}

pub number_some : (r : Refusal) → number r ≢ 0
number_some NodeCount = λ e. omega (arith, e)
number_some Length = λ e. omega (arith, e)
number_some Scratch = λ e. omega (arith, e)
number_some Node = λ e. omega (arith, e)
number_some SameNode = λ e. omega (arith, e)
number_some EdgePresent = λ e. omega (arith, e)
number_some EdgeAbsent = λ e. omega (arith, e)
number_some EntryCount = λ e. omega (arith, e)
number_some Malformed = λ e. omega (arith, e)
number_some OtherCount = λ e. omega (arith, e)
number_some CrowdedBefore = λ e. omega (arith, e)
number_some CrowdedAfter = λ e. omega (arith, e)
number_some NoHours = λ e. omega (arith, e)
number_some PartRecord = λ e. omega (arith, e)
number_some Conflict = λ e. omega (arith, e)

-- ---- what an answer's number says

pub ok_none : {A : Type 0} (x : Result A Refusal) → IsOk x → refusal_of x ≡ 0
ok_none (Ok value) h = refl
ok_none (Err r) h = absurd (false≢true h)

pub none_ok : {A : Type 0} (x : Result A Refusal) → refusal_of x ≡ 0 → IsOk x
none_ok (Ok value) e = refl
none_ok (Err r) e = absurd (number_some r e)

pub err_some : {A : Type 0} (x : Result A Refusal) → IsErr x → refusal_of x ≢ 0
err_some (Ok value) h e = false≢true h
err_some (Err r) h e = number_some r e

-- ---- a refusal that `?` hands on

-- it keeps its number,
pub passed_on : {A : Type 0} (x : Result A Refusal) (r : Refusal) → IsErrAnd x (λ e. e ≡ r) → refusal_of x ≡ number r
passed_on (Ok value) r h = absurd h
passed_on (Err e) r h = ap number h

-- the state is as it was,
pub left_by : {A : Type 0} (cs : List Condition) (x : Result A Refusal) (r : Refusal) (s after : State) → IsErrAnd x (λ e. e ≡ r) → number r ≡ refusal cs
    → left (refusal_of x) s ≡ outcome cs s after
unfolding outcome
left_by cs x r s after h e = rw (passed_on x r h ∙ e) (rw (ne_eqb (refusal cs) 0 (λ z. number_some r (e ∙ z))) refl)

-- and where it is that of the first conditions, it is the whole list's
module _ (cs ds : List Condition) where
  pub refused_by : (r : Refusal) → number r ≡ refusal cs → number r ≡ refusal (cs ++ ds)
  refused_by r e = sym (append_refused cs ds (sym e) (number_some r))

  pub refused_on : {A : Type 0} (x : Result A Refusal) (r : Refusal) → IsErrAnd x (λ e. e ≡ r) → number r ≡ refusal cs → refusal_of x ≡ refusal (cs ++ ds)
  refused_on x r h e = passed_on x r h ∙ refused_by r e

  pub refused_left : {A : Type 0} (x : Result A Refusal) (r : Refusal) (s after : State) → IsErrAnd x (λ e. e ≡ r) → number r ≡ refusal cs
      → left (refusal_of x) s ≡ outcome (cs ++ ds) s after
  refused_left x r s after h e = left_by (cs ++ ds) x r s after h (refused_by r e)

-- there is no number beside it, and nothing is found
pub value_refused : (x : Result ℕ Refusal) (r : Refusal) → IsErrAnd x (λ e. e ≡ r) → value_of x ≡ 0
value_refused (Ok value) r h = absurd h
value_refused (Err e) r h = refl

pub found_refused : {A : Type 0} (x : Result (Option A) Refusal) (r : Refusal) → IsErrAnd x (λ e. e ≡ r) → found x ≡ Refused (number r)
found_refused (Ok value) r h = absurd h
found_refused (Err e) r h = ap (λ e. Refused (number e)) h
