-- Spare bits in a history are as 01 says. Assumes nothing.
use mathlib.Core.Bool.{false, true, true≢false}
use mathlib.Core.Path.{ap, refl, sym, ◌≡◌}
use Rattle.calls.proofs.Spare.{AlikeOutcome, clear_alike, load_alike, score_alike, write_alike}
use Rattle.calls.proofs.SpareZero.{clear_zero, load_zero}
use Rattle.edits.proofs.Spare.{add_alike, add_spare, remove_alike, remove_spare}
use Rattle.history.specs.History.{state_after, answer, effect, of_state, starts}
use Rattle.history.specs.Model.{add, as_records, Call, clear, in_row, list, load, load_at, reconcile, reconcile_pinned, remove}
use Rattle.history.specs.Spare.{AlikeCalls, AlikeEffects, reconciling, reconciling_pinned, same, SpareBits}
use Rattle.listing.proofs.Spare.{entries_alike, entries_spare}
use Rattle.merge.proofs.PinAgree.{brought_refl}
use Rattle.merge.proofs.Spare.{conflict_alike, pinned_alike, pinned_spare, reconcile_alike, reconcile_spare}
use Rattle.schedule.proofs.Spare.{load_at_alike, load_at_zero}
use Rattle.state.proofs.Spare.{same_refl}
use Rattle.state.specs.Outcome.{Outcome}
use Rattle.state.specs.Spare.{Alike, SpareKept, SpareZero}
use Rattle.state.specs.State.{size, State}
use Rattle.topk.proofs.Spare.{list_alike, list_spare}

of_state_lem : {o p : Outcome} → AlikeOutcome o p → AlikeEffects (of_state o) (of_state p)
of_state_lem h = record { answer = h.refusal; after = h.after; recomputed = refl; entries = refl; scratch = refl }

module _ (s t : State) (h : Alike s t) where
  call_alike : (call : Call) → AlikeEffects (effect s call) (effect t call)
  unfolding effect
  call_alike clear = of_state_lem (clear_alike h)
  call_alike (load snapshot) = of_state_lem (load_alike h snapshot)
  call_alike (load_at schedule t) = of_state_lem (load_at_alike h schedule t)
  call_alike (add a b) = of_state_lem (add_alike h a b)
  call_alike (remove a b) = of_state_lem (remove_alike h a b)
  call_alike (reconcile theirs base) = of_state_lem (reconcile_alike h (same_refl theirs) (same_refl base))
  call_alike (reconcile_pinned brought) = of_state_lem (pinned_alike h (brought_refl (size s) brought))
  call_alike (list (in_row numbers) scratch) =
      let l = list_alike h numbers scratch in
      record { answer = l.refusal; after = l.after; recomputed = l.recomputed; entries = ap in_row l.entries; scratch = l.scratch }
  call_alike (list (as_records records) scratch) =
      let l = entries_alike h records scratch in
      record { answer = l.refusal; after = l.after; recomputed = l.recomputed; entries = ap as_records l.entries; scratch = l.scratch }

  calls_alike : {c d : Call} → AlikeCalls (size s) c d → AlikeEffects (effect s c) (effect t d)
  unfolding effect
  calls_alike (same call) = call_alike call
  calls_alike (reconciling theirs base) = of_state_lem (reconcile_alike h theirs base)
  calls_alike (reconciling_pinned brought) = of_state_lem (pinned_alike h brought)

zeroed : (s : State) (call : Call) → starts call ≡ true → answer s call ≡ 0 → SpareZero (state_after s call)
unfolding effect
zeroed s clear e z = clear_zero s z
zeroed s (load snapshot) e z = load_zero s snapshot z
zeroed s (load_at schedule t) e z = load_at_zero s schedule t z
zeroed s (add a b) e z = absurd (true≢false (sym e))
zeroed s (remove a b) e z = absurd (true≢false (sym e))
zeroed s (reconcile theirs base) e z = absurd (true≢false (sym e))
zeroed s (reconcile_pinned brought) e z = absurd (true≢false (sym e))
zeroed s (list entries scratch) e z = absurd (true≢false (sym e))

kept : (s : State) (call : Call) → starts call ≡ false → SpareKept s (state_after s call)
unfolding effect
kept s clear e = absurd (true≢false e)
kept s (load snapshot) e = absurd (true≢false e)
kept s (load_at schedule t) e = absurd (true≢false e)
kept s (add a b) e = add_spare s a b
kept s (remove a b) e = remove_spare s a b
kept s (reconcile theirs base) e = reconcile_spare s theirs base
kept s (reconcile_pinned brought) e = pinned_spare s brought
kept s (list (in_row numbers) scratch) e = list_spare s numbers scratch
kept s (list (as_records records) scratch) e = entries_spare s records scratch

-- SPARE BITS, as 01 says.
pub spare_bits : SpareBits
spare_bits = record {
  ignored = λ s t c d h a. calls_alike s t h a;
  written = λ s t buffer h. write_alike h buffer;
  scored = λ x y n p h. score_alike n p h;
  shown = λ x y n k l d e. conflict_alike n d e;
  zeroed = zeroed;
  kept = kept;
}
