-- A schedule that is loaded at a minute is the sheet that is written at it, loaded. Assumes nothing.
use mathlib.Core.Bool.{false}
use mathlib.Core.List.{List, [], ◌∷◌, ◌++◌}
use mathlib.Core.Path.{ap, refl, subst, sym, ◌∙◌, ◌≡◌}
use Prim.Native.Nat.{◌*◌, suc, zero, ℕ}
use native.Mathlib.Decide.{dec_lt, ℕ_discrete}
use native.Mathlib.Omega.{arith}
use borrow.Author.Tests.{eq-eqb, eqb-true, lt-leb, not-false}
use lib.Dec.{eqb, leb}
use lib.ListN.{length}
use Rattle.arith.proofs.Sums.{any_to_never}
use Rattle.arith.proofs.Tests.{and-false}
use Rattle.ego.proofs.Agreement.{Agree}
use Rattle.packed.proofs.GraphLaws.{bytes_edges_of, length-edges_of, spare_edges_of}
use Rattle.packed.specs.Edges.{edge}
use Rattle.packed.specs.Inside.Bytes.{Bytes}
use Rattle.packed.specs.Pairs.{pair_count}
use Rattle.state.proofs.CrowdedLaws.{after_agree}
use Rattle.state.proofs.RefusalLaws.{append_none, passed_other, refused_other}
use Rattle.state.specs.Outcome.{lengths, outcome}
use Rattle.state.specs.Refusal.{buffer_length, Condition, crowded_after, everyone, other_count, refusal, snapshot_nodes, spare_set}
use Rattle.state.specs.Sizes.{edge_bytes, snapshot_bytes}
use Rattle.state.specs.State.{size, State}
use Rattle.calls.proofs.AcceptLaws.{append_same, lengths_rest, outcome_accepted, outcome_refusal, passes}
use Rattle.calls.proofs.RoundTrip.{sheet_back}
use Rattle.calls.proofs.SnapshotLaws.{passed_snapshot}
use Rattle.calls.specs.Snapshot.{load_call, load_conditions, loaded, snapshot_of}
use Rattle.schedule.proofs.RecordLaws.{records_rest, sounds_by}
use Rattle.schedule.proofs.SheetLaws.{sheet_agree}
use Rattle.schedule.specs.Change.{change_conditions}
use Rattle.schedule.specs.Schedule.{bad_schedule, linked_at, record_conditions, schedule_nodes}
use Rattle.schedule.specs.Sheet.{edges_at, load_at_call, load_at_conditions, sheet_at, write_at_call}
use Rattle.schedule.specs.Inside.Records.{Sounds}

module _ (schedule : List ℕ) (t : ℕ) where
  abbrev nodes : ℕ
  nodes = schedule_nodes schedule

  -- ---- the sheet is well formed

  sheet_nodes : snapshot_nodes (sheet_at schedule t) ≡ nodes
  sheet_nodes = omega arith

  pub edges_long : length (edges_at schedule t) ≡ edge_bytes nodes
  edges_long = length-edges_of (linked_at schedule t) nodes

  sheet_long : length (sheet_at schedule t) ≡ snapshot_bytes nodes
  sheet_long = omega (arith, edges_long)

  sheet_spare : spare_set nodes (edges_at schedule t) ≡ false
  unfolding spare_set
  sheet_spare = any_to_never _ (8 * edge_bytes nodes) (λ i l. elim (dec_lt i (pair_count nodes)) [
    | yes h ↦ rw (lt-leb (pair_count nodes) i h)
    | no h ↦ rw (spare_edges_of (linked_at schedule t) nodes i (omega arith)) (and-false (leb (pair_count nodes) i))
  ])

  -- ---- so that only 10 and 12 are left of a load's conditions

  abbrev left : ℕ → List Condition
  left n = other_count n schedule ∷ crowded_after (linked_at schedule t) n everyone ∷ []

  sheet_left : Sounds schedule → (n : ℕ) → refusal (load_conditions n (sheet_at schedule t)) ≡ refusal (left n)
  sheet_left v n =
      let sheet = sheet_at schedule t in
      let crowded = crowded_after (edge (edges_at schedule t)) n everyone in
      passed_snapshot (other_count n sheet ∷ crowded ∷ []) sheet (λ z. omega (arith, sheet_long))
      (sheet_long ∙ ap snapshot_bytes (sym sheet_nodes)) (ap (λ m. spare_set m (edges_at schedule t)) sheet_nodes ∙ sheet_spare)
      ∙ elim (ℕ_discrete nodes n) [
        | yes e ↦
            let same = after_agree n (edge (edges_at schedule t)) (linked_at schedule t) everyone everyone
            (subst (λ m. Agree m (edge (edges_at schedule t)) (linked_at schedule t)) e (sheet_agree schedule t v)) (λ p h. refl) in
            passed_other (crowded ∷ []) n sheet (sheet_nodes ∙ e) ∙ ap (λ c. refusal (c ∷ [])) same ∙ sym (passed_other _ n schedule e)
        | no d ↦ refused_other (crowded ∷ []) n sheet (λ e. d (sym sheet_nodes ∙ e)) ∙ sym (refused_other _ n schedule d)
      ]

  -- ---- LOAD AT A MINUTE is a load of the sheet, refusals and all, where the schedule itself is not refused.
  module _ (z : refusal (change_conditions schedule) ≡ 0) where
    form : ((bad_schedule schedule).1 ≡ false) × (refusal (record_conditions schedule) ≡ 0)
    unfolding bad_schedule
    form = passes (bad_schedule schedule) (record_conditions schedule) (λ e. omega arith) z

    asked_left : (n : ℕ) → refusal (load_at_conditions n schedule t) ≡ refusal (left n)
    asked_left n = records_rest schedule refl form.1 (left n)

    pub load_at_load : (s : State) → load_at_call s schedule t ≡ load_call s (sheet_at schedule t)
    unfolding load_at_call load_call outcome refusal
    load_at_load s =
        let n = size s in
        let same : refusal (lengths s ++ load_at_conditions n schedule t) ≡ refusal (lengths s ++ load_conditions n (sheet_at schedule t)) =
        append_same (lengths s) (load_at_conditions n schedule t) (load_conditions n (sheet_at schedule t)) (asked_left n ∙ sym (sheet_left (sounds_by schedule form.1) n)) in
        rw (form.0, same)

-- ---- and so of the sheet that a write at the minute leaves

form_passed : (schedule : List ℕ) → (bad_schedule schedule).1 ≡ false → refusal (record_conditions schedule) ≡ 0 → refusal (change_conditions schedule) ≡ 0
unfolding refusal
form_passed schedule e z = rw e z

module _ (schedule : List ℕ) (t : ℕ) (buffer : List ℕ) (z : (write_at_call schedule t buffer).refusal ≡ 0) where
  pub written_sheet : (write_at_call schedule t buffer).snapshot ≡ sheet_at schedule t
  unfolding write_at_call
  written_sheet = rw (eq-eqb _ 0 z)

  written_asked : refusal (change_conditions schedule) ≡ 0
  unfolding write_at_call bad_schedule buffer_length
  written_asked =
      let f = passes (bad_schedule schedule) _ (λ e. omega arith) z in
      let l = passes (buffer_length (snapshot_bytes (schedule_nodes schedule)) (length buffer)) _ (λ e. omega arith) f.1 in
      form_passed schedule f.0 (append_none (record_conditions schedule) _ l.1)

  -- LOAD AT A MINUTE is a load of the sheet that is written at it.
  pub load_at_written : (s : State) → load_at_call s schedule t ≡ load_call s (write_at_call schedule t buffer).snapshot
  load_at_written s = load_at_load schedule t written_asked s ∙ ap (load_call s) (sym written_sheet)

-- ---- a write of the slate that a load at a minute leaves gives the sheet back

pub load_at_asked : (s : State) (schedule : List ℕ) (t : ℕ) → (load_at_call s schedule t).refusal ≡ 0 → refusal (change_conditions schedule) ≡ 0
unfolding load_at_call outcome bad_schedule
load_at_asked s schedule t z =
    let form = passes (bad_schedule schedule) (lengths s ++ load_at_conditions (size s) schedule t) (λ e. omega arith) z in
    form_passed schedule form.0 (append_none (record_conditions schedule) _ (lengths_rest s (load_at_conditions (size s) schedule t) form.1))

sheet_bytes : (schedule : List ℕ) (t : ℕ) → Bytes schedule → Bytes (sheet_at schedule t)
sheet_bytes schedule t small zero = omega (arith, small 0)
sheet_bytes schedule t small (suc k) = bytes_edges_of (linked_at schedule t) (schedule_nodes schedule) k

pub load_at_back : (s : State) (schedule : List ℕ) (t : ℕ) → Bytes schedule → (load_at_call s schedule t).refusal ≡ 0
    → snapshot_of (load_at_call s schedule t).after ≡ sheet_at schedule t
unfolding load_call
load_at_back s schedule t small z =
    let sheet = sheet_at schedule t in
    let is = load_at_load schedule t (load_at_asked s schedule t z) s in
    let cs = lengths s ++ load_conditions (size s) sheet in
    let e = sym (outcome_refusal cs s (loaded (size s) (edges_at schedule t))) ∙ ap (λ o. o.refusal) (sym is) ∙ z in
    ap (λ o. snapshot_of o.after) is ∙ ap snapshot_of (outcome_accepted cs s (loaded (size s) (edges_at schedule t)) e)
    ∙ sheet_back (size s) sheet (sheet_bytes schedule t small) (lengths_rest s (load_conditions (size s) sheet) e)

-- ---- what a load that is accepted knows

module _ (n : ℕ) (schedule : List ℕ) (t : ℕ) (z : refusal (bad_schedule schedule ∷ load_at_conditions n schedule t) ≡ 0) where
  asked : ((bad_schedule schedule).1 ≡ false) × (refusal (load_at_conditions n schedule t) ≡ 0)
  unfolding bad_schedule
  asked = passes (bad_schedule schedule) (load_at_conditions n schedule t) (λ e. omega arith) z

  none : refusal (record_conditions schedule) ≡ 0
  none = append_none (record_conditions schedule) _ asked.1

  -- the schedule is of n nodes, and its edges at the minute are the links then
  pub loaded_nodes : schedule_nodes schedule ≡ n
  unfolding other_count
  loaded_nodes =
      let other = (passes (other_count n schedule) _ (λ e. omega arith) (sym (records_rest schedule refl none (left schedule t n)) ∙ asked.1)).0 in
      eqb-true (schedule_nodes schedule) n (not-false (eqb (schedule_nodes schedule) n) other)

  pub loaded_agree : Agree n (edge (edges_at schedule t)) (linked_at schedule t)
  loaded_agree = subst (λ m. Agree m (edge (edges_at schedule t)) (linked_at schedule t)) loaded_nodes (sheet_agree schedule t (sounds_by schedule none))
