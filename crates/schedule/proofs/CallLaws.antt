-- How the calls that write and load a schedule at a minute end. Assumes nothing.
use mathlib.Core.Bool.{cond}
use mathlib.Core.List.{List, [], ◌∷◌, ◌++◌}
use mathlib.Core.Path.{ap, sym, ◌∙◌, ◌≡◌}
use Prim.Native.Nat.{ℕ}
use native.Mathlib.Omega.{arith}
use borrow.Author.Tests.{ne_eqb}
use lib.Dec.{eqb}
use lib.ListN.{length}
use Rattle.state.proofs.RefusalLaws.{append_refused, Fitted, fitted_append, passed_length, refused_length}
use Rattle.state.specs.Outcome.{left, lengths, state_lengths}
use Rattle.state.specs.Refusal.{Condition, crowded_after, everyone, refusal}
use Rattle.state.specs.Sizes.{snapshot_bytes}
use Rattle.state.specs.State.{size, State}
use Rattle.calls.proofs.MadeLaws.{made_call_lem, made_of}
use Rattle.calls.proofs.OutcomeLaws.{refused_is}
use Rattle.calls.specs.Inside.Made.{made_call}
use Rattle.calls.specs.Snapshot.{loaded, Written, written}
use Rattle.schedule.proofs.NumberLaws.{schedule_numbered}
use Rattle.schedule.proofs.RecordLaws.{form_refused, form_rest, records_refused, records_rest}
use Rattle.schedule.specs.Schedule.{bad_schedule, linked_at, record_conditions, schedule_nodes}
use Rattle.schedule.specs.Sheet.{edges_at, load_at_call, load_at_conditions, sheet_at, write_at_call, write_at_conditions}
use Rattle.schedule.specs.Inside.Numbers.{linked_no}
use Rattle.schedule.specs.Inside.Records.{Valid}

-- ---- write

module _ (schedule : List ℕ) (t : ℕ) (buffer : List ℕ) where
  abbrev n : ℕ
  n = schedule_nodes schedule

  abbrev tests : List Condition
  tests = write_at_conditions schedule t (length buffer)

  abbrev crowded : Condition
  crowded = crowded_after (linked_at schedule t) n everyone

  write_refused : {r : ℕ} → r ≡ refusal tests → (r ≡ 0 → ⊥) → written r buffer ≡ write_at_call schedule t buffer
  unfolding write_at_call
  write_refused {r} e d = rw (sym e, ne_eqb r 0 d)

  module _ {form : ℕ} (f : form ≡ refusal (bad_schedule schedule ∷ [])) where
    pub write_form : (form ≡ 0 → ⊥) → written form buffer ≡ write_at_call schedule t buffer
    write_form d = write_refused (form_refused schedule f d _) d

    module _ (z : form ≡ 0) where
      pub write_buffer : (length buffer ≡ snapshot_bytes n → ⊥) → written 2 buffer ≡ write_at_call schedule t buffer
      write_buffer d = write_refused (sym (form_rest schedule f z _ ∙ refused_length _ (snapshot_bytes n) (length buffer) d)) (λ e. omega arith)

      module _ (l : length buffer ≡ snapshot_bytes n) {records : ℕ} (q : records ≡ refusal (record_conditions schedule)) where
        sized : refusal tests ≡ refusal (record_conditions schedule ++ crowded ∷ [])
        sized = form_rest schedule f z _ ∙ passed_length _ (snapshot_bytes n) (length buffer) l

        pub write_records : (records ≡ 0 → ⊥) → written records buffer ≡ write_at_call schedule t buffer
        write_records d = write_refused (records_refused schedule q d (crowded ∷ []) ∙ sym sized) d

        -- where they pass, the write of what was made answers
        pub write_made : records ≡ 0 → Valid schedule → {out : Written} → out ≡ made_call (made_of n (linked_no schedule t)) n buffer
            → out ≡ write_at_call schedule t buffer
        unfolding write_at_call
        write_made y v e =
            e ∙ made_call_lem (schedule_numbered schedule v.each t) v.few buffer l
            ∙ ap (λ r. written r (cond (eqb r 0) (sheet_at schedule t) buffer)) (sym (sized ∙ records_rest schedule q y (crowded ∷ [])))

-- ---- load

module _ (s : State) (schedule : List ℕ) (t : ℕ) {form : ℕ} (f : form ≡ refusal (bad_schedule schedule ∷ [])) where
  abbrev after : State
  after = loaded (size s) (edges_at schedule t)

  pub load_form : (form ≡ 0 → ⊥) → left form s ≡ load_at_call s schedule t
  unfolding load_at_call
  load_form d = refused_is _ s after (form_refused schedule f d _) d

  module _ (z : form ≡ 0) where
    pub load_lengths : {r : ℕ} → r ≡ refusal (state_lengths (size s) (length s.edges) (length s.marks)) → (r ≡ 0 → ⊥) → left r s ≡ load_at_call s schedule t
    unfolding load_at_call lengths
    load_lengths {r} e d =
        refused_is _ s after (sym (form_rest schedule f z _ ∙ append_refused (lengths s) (load_at_conditions (size s) schedule t) (sym e) d)) d

    module _ (fits : Fitted (size s) (length s.edges) (length s.marks)) where
      pub load_records : {r : ℕ} → r ≡ refusal (record_conditions schedule) → (r ≡ 0 → ⊥) → left r s ≡ load_at_call s schedule t
      unfolding load_at_call lengths
      load_records e d =
          refused_is _ s after (records_refused schedule e d _
          ∙ sym (form_rest schedule f z _ ∙ fitted_append (size s) (length s.edges) (length s.marks) (load_at_conditions (size s) schedule t) fits)) d
