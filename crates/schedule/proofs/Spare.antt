-- Spare bits: a load at a minute does not depend on them, and sets them to 0. Assumes nothing.
use mathlib.Core.List.{List}
use mathlib.Core.Path.{ap, subst, sym, ◌∙◌, ◌≡◌}
use Prim.Native.Nat.{ℕ}
use Rattle.calls.proofs.AcceptLaws.{same_rest}
use Rattle.calls.proofs.Spare.{AlikeOutcome, outcome_alike, rest_alike, same_build}
use Rattle.calls.proofs.SpareZero.{load_zero}
use Rattle.calls.specs.Snapshot.{loaded}
use Rattle.schedule.proofs.Sheets.{load_at_asked, load_at_load}
use Rattle.schedule.specs.Schedule.{bad_schedule}
use Rattle.schedule.specs.Sheet.{edges_at, load_at_call, load_at_conditions, sheet_at}
use Rattle.state.proofs.Spare.{alike_nodes}
use Rattle.state.specs.Refusal.{refusal}
use Rattle.state.specs.Spare.{Alike, SpareZero}
use Rattle.state.specs.State.{size, State}

pub load_at_alike : {s s' : State} → Alike s s' → (schedule : List ℕ) (t : ℕ) → AlikeOutcome (load_at_call s schedule t) (load_at_call s' schedule t)
unfolding load_at_call
load_at_alike {s} {s'} h schedule t = outcome_alike h _ _ _ _
    (same_rest (bad_schedule schedule) _ _ (λ e. rest_alike h (load_at_conditions (size s) schedule t) (load_at_conditions (size s') schedule t)
    (ap (λ n. refusal (load_at_conditions n schedule t)) (alike_nodes h))))
    (λ z. same_build h (λ n. loaded n (edges_at schedule t)))

pub load_at_zero : (s : State) (schedule : List ℕ) (t : ℕ) → (load_at_call s schedule t).refusal ≡ 0 → SpareZero (load_at_call s schedule t).after
load_at_zero s schedule t z =
    let is = load_at_load schedule t (load_at_asked s schedule t z) s in
    subst (λ o. SpareZero o.after) (sym is) (load_zero s (sheet_at schedule t) (ap (λ o. o.refusal) (sym is) ∙ z))
