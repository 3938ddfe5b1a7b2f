-- The laws of the search for the next change: of a pass over the records of a window, and of the answer. Assumes nothing.
use mathlib.Core.Bool.{Bool, false, true}
use mathlib.Core.List.{List}
use mathlib.Core.Logic.{inl, inr}
use mathlib.Core.Path.{ap, refl, subst, sym, ◌∙◌, ◌≡◌}
use Prim.Native.Nat.{◌*◌, ◌-◌, ◌<◌, ℕ}
use native.Mathlib.Nat.{le_refl}
use native.Mathlib.Omega.{arith}
use borrow.Author.Tests.{le-ltb, lt-ltb, ne_eqb}
use Rattle.arith.proofs.Tests.{test}
use Rattle.packed.specs.Inside.Windows.{window}
use Rattle.state.specs.Refusal.{refusal}
use Rattle.schedule.proofs.UntilLaws.{pass_lasts, pass_still, pass_total, total, total_most}
use Rattle.state.proofs.AnswerLaws.{found_refused, number_some}
use Rattle.state.specs.Answers.{Found, found, number, Refused}
use Rattle.state.specs.declared.refusal.Refusal.{Refusal}
use Rattle.std.proofs.Common.{Err, IsErrAnd, Ok, Option, Result, Some}
use Rattle.std.specs.Result.{OkIff, result_ok}
use lib.Dec.{ltb}
use Rattle.schedule.specs.Change.{change_call, change_conditions, first_differing, minutes, next_of, numbers_of}
use Rattle.schedule.specs.Schedule.{record_count}
use Rattle.schedule.specs.declared.change.Scope.{Scope}
use Rattle.schedule.specs.Inside.Until.{change_at, Lasts, moved_to, pass_to, Rests}

-- ---- a pass over all records, from what `pass` ensures

module _ (schedule : List ℕ) (w : Scope) (until : List ℕ) {next : List ℕ} {moved : Bool} (lasts : Lasts schedule w until)
    (so : moved ≡ moved_to schedule w until (record_count schedule)) (is : next ≡ pass_to schedule w until (record_count schedule)) where
  pub lasts_next : Lasts schedule w next
  lasts_next = subst (Lasts schedule w) (sym is) (pass_lasts lasts (record_count schedule) (le_refl _))

  -- one that moves none leaves pairs that rest, and one that moves some is followed by fewer
  pub rests_last : moved ≡ false → Rests schedule w next (record_count schedule)
  rests_last e =
      let still = pass_still schedule w until (record_count schedule) (sym so ∙ e) in
      subst (λ u. Rests schedule w u (record_count schedule)) (sym (is ∙ still.0)) still.1

  pub passes_fewer : moved ≡ true → window * minutes - total next < window * minutes - total until
  passes_fewer e = omega (arith, pass_total lasts (sym so ∙ e) (le_refl _), ap total is, total_most lasts_next)

-- ---- the answer

module _ (schedule : List ℕ) (t : ℕ) where
  -- the first minute, if it is one of 16 bits
  pub change_found : {E : Type 0} {m : ℕ} (r : Result ℕ E) {o : Option ℕ} → m ≡ first_differing schedule t → OkIff r (m < minutes) m → o ≡ result_ok r
      → o ≡ change_at schedule t
  unfolding change_at
  change_found {m = m} (Ok x) e h f = f ∙ rw (← e, lt-ltb m minutes h.0) (ap Some h.1)
  change_found {m = m} (Err x) e h f = f ∙ rw (← e, le-ltb m minutes (omega arith))

  -- what it is, and its numbers
  abbrev pub Answers : Found ℕ → Type 0
  Answers r = (r ≡ change_call schedule t) × (numbers_of r ≡ next_of schedule t)

  refused : {r : ℕ} → r ≡ refusal (change_conditions schedule) → (r ≡ 0 → ⊥) → Answers (Refused r)
  unfolding change_call numbers_of next_of
  refused {r} e d = (rw (← e, ne_eqb r 0 d), rw (← e, ne_eqb r 0 d))

  -- a refusal that `?` hands on
  pub answers_refused : (x : Result (Option ℕ) Refusal) (r : Refusal) → IsErrAnd x (λ e. e ≡ r) → number r ≡ refusal (change_conditions schedule) → Answers (found x)
  answers_refused x r h e = subst Answers (sym (found_refused x r h)) (refused e (number_some r))

  pub answers_found : {o : Option ℕ} → refusal (change_conditions schedule) ≡ 0 → o ≡ change_at schedule t → Answers (found (Ok o))
  unfolding change_at change_call numbers_of next_of
  answers_found z e = elim (test (ltb (first_differing schedule t) minutes)) [
    | inl h ↦ rw (e, z, h) (refl, refl)
    | inr h ↦ rw (e, z, h) (refl, refl)
  ]
