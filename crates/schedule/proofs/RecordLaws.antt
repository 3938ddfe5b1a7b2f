-- The records of a schedule: how a schedule passes their conditions or turns back at one, and what it knows once it has passed. Assumes nothing.
use mathlib.Core.Bool.{Bool, cond, false}
use mathlib.Core.List.{◌++◌, [], append_assoc, append-nil, List, ◌∷◌}
use mathlib.Core.Logic.{inl, inr}
use mathlib.Core.Path.{ap, refl, subst, sym, ◌∙◌, ◌≡◌}
use Prim.Native.Nat.{◌%◌, ◌+◌, ◌-◌, ◌<◌, suc, zero, ℕ, ◌≤◌}
use native.Mathlib.Decide.{ℕ_discrete}
use native.Mathlib.Numerals.{add-one}
use native.Mathlib.Omega.{arith}
use borrow.Author.Tests.{eq-eqb, eqb-false, eqb-true, le-leb, leb-false, lt-leb, ne_eqb, not-false}
use lib.Dec.{eqb, leb}
use lib.ListN.{get_or, length}
use Rattle.std.proofs.Common.{Fits, w8}
use Rattle.arith.proofs.Sums.{any_to_false}
use Rattle.arith.proofs.Tests.{or_false_both, test}
use Rattle.arith.specs.Sums.{any_to, tabulate}
use Rattle.packed.specs.Pairs.{max_nodes}
use Rattle.state.proofs.PairConditions.{earlier_first, earlier_tests, From, from_more, from_none, pairs_each, pairs_more, pairs_nil, pairs_rest, two_tests}
use Rattle.state.proofs.RefusalLaws.{append_none, append_refused}
use Rattle.state.specs.Inside.Earlier.{earlier}
use Rattle.state.specs.Refusal.{Condition, no_hours, pair_conditions, refusal}
use Rattle.calls.proofs.AcceptLaws.{passes}
use Rattle.schedule.specs.Schedule.{bad_schedule, conditions_to, opening_at, record_bytes, record_conditions, record_count, schedule_nodes}
use Rattle.schedule.specs.Inside.Records.{opening_conditions, Sound, Sounds, Valid}
use Rattle.schedule.specs.declared.records.Opening.{Opening}

-- ---- the refusal of those before a record that passes

pub earlier_passed : (x : ℕ) → earlier x 0 ≡ x
unfolding earlier
earlier_passed zero = refl
earlier_passed (suc x) = earlier_first (suc x) 0 (λ e. omega (arith, e)) (λ d. absurd (d refl))

-- ---- the form

module _ (schedule : List ℕ) (cs : List Condition) where
  pub refused_form : (0 < length schedule → (length schedule - 1) % record_bytes ≡ 0 → ⊥) → refusal (bad_schedule schedule ∷ cs) ≡ 9
  unfolding refusal bad_schedule
  refused_form d = elim (ℕ_discrete (length schedule) 0) [
    | yes z ↦ rw (eq-eqb (length schedule) 0 z)
    | no p ↦ rw (ne_eqb (length schedule) 0 p, ne_eqb ((length schedule - 1) % record_bytes) 0 (d (omega arith)))
  ]

  pub passed_form : 0 < length schedule → (length schedule - 1) % record_bytes ≡ 0 → refusal (bad_schedule schedule ∷ cs) ≡ refusal cs
  unfolding refusal bad_schedule
  passed_form h e = rw (ne_eqb (length schedule) 0 (λ z. omega arith), eq-eqb ((length schedule - 1) % record_bytes) 0 e)

-- from what `check_form` answers
module _ (schedule : List ℕ) {r : ℕ} (e : r ≡ refusal (bad_schedule schedule ∷ [])) where
  good : r ≡ 0 → (0 < length schedule) × ((length schedule - 1) % record_bytes ≡ 0)
  unfolding bad_schedule
  good z =
      let p = passes (bad_schedule schedule) [] (λ n. omega arith) (sym e ∙ z) in
      let q = or_false_both (eqb (length schedule) 0) _ p.0 in
      let d = eqb-false (length schedule) 0 q.0 in
      (omega arith, eqb-true ((length schedule - 1) % record_bytes) 0 (not-false _ q.1))

  pub form_some : r ≡ 0 → 0 < length schedule
  form_some z = (good z).0

  pub form_rest : r ≡ 0 → (cs : List Condition) → refusal (bad_schedule schedule ∷ cs) ≡ refusal cs
  form_rest z cs = passed_form schedule cs (good z).0 (good z).1

  pub form_refused : (r ≡ 0 → ⊥) → (cs : List Condition) → r ≡ refusal (bad_schedule schedule ∷ cs)
  form_refused d cs = sym (append_refused (bad_schedule schedule ∷ []) cs (sym e) d)

-- ---- a record's hours

module _ (cs : List Condition) where
  pub refused_hours : (from to : ℕ) → to ≤ from → refusal (no_hours from to ∷ cs) ≡ 13
  unfolding refusal no_hours
  refused_hours from to h = rw (le-leb to from h)

  pub passed_hours : (from to : ℕ) → from < to → refusal (no_hours from to ∷ cs) ≡ refusal cs
  unfolding refusal no_hours
  passed_hours from to h = rw (lt-leb to from h)

-- ---- the conditions of the first records

module _ (schedule : List ℕ) where
  abbrev n : ℕ
  n = schedule_nodes schedule

  abbrev this : ℕ → Opening
  this i = opening_at schedule i

  -- the pairs of the first k records, and 13 of them
  abbrev pairs_to : ℕ → List (ℕ × ℕ)
  pairs_to k = tabulate (λ i. ((this i).a, (this i).b)) k

  abbrev hours : ℕ → Condition
  hours i = no_hours (this i).from (this i).to

  abbrev hours_to : ℕ → List Condition
  hours_to k = tabulate hours k

  -- which is one test
  abbrev none_to : ℕ → Bool
  none_to k = any_to (λ i. leb (this i).to (this i).from) k

  hours_tested : (k : ℕ) (cs : List Condition) → refusal (hours_to k ++ cs) ≡ cond (none_to k) 13 (refusal cs)
  unfolding any_to no_hours refusal tabulate
  hours_tested zero cs = refl
  hours_tested (suc k) cs =
      ap refusal (append_assoc (hours_to k) (hours k ∷ []) cs) ∙ hours_tested k (hours k ∷ cs) ∙ two_tests (none_to k) _ 13 (refusal cs)

  hours_alone : (k : ℕ) → refusal (hours_to k) ≡ cond (none_to k) 13 0
  unfolding refusal
  hours_alone k = ap refusal (sym (append-nil (hours_to k))) ∙ hours_tested k []

  -- a record more
  hours_more : (i : ℕ) → refusal (hours_to (suc i)) ≡ earlier (refusal (hours_to i)) (refusal (hours i ∷ []))
  unfolding any_to earlier no_hours refusal
  hours_more i =
      hours_alone (suc i)
      ∙ sym (ap (λ x. earlier x (refusal (hours i ∷ []))) (hours_alone i) ∙ earlier_tests (none_to i) _ 13 0 0 (omega arith) (from_none 13) (from_none 13))

  hours_from : (t : Bool) → From 5 (cond t 13 0)
  hours_from t = from_more 5 t 13 0 (omega arith) (from_none 13)

  pub conditions_none : refusal (conditions_to schedule 0) ≡ 0
  unfolding conditions_to tabulate
  conditions_none = ap refusal (append-nil (pair_conditions n [])) ∙ pairs_nil n

  -- as a loop has it
  pub conditions_more : (i : ℕ)
      → refusal (conditions_to schedule (i + 1)) ≡ earlier (refusal (conditions_to schedule i)) (refusal (opening_conditions n (this i)))
  unfolding conditions_to no_hours refusal tabulate
  conditions_more i =
      ap (λ k. refusal (conditions_to schedule k)) (add-one i)
      ∙ pairs_more n (pairs_to i) (((this i).a, (this i).b) ∷ []) (hours_to i) (hours i ∷ []) (hours_to (suc i))
      (subst (From 5) (sym (hours_alone i)) (hours_from (none_to i))) (hours_from (hours i).1) (hours_more i)

  -- records that pass: their pairs do, and they have hours
  module _ (e : refusal (record_conditions schedule) ≡ 0) where
    abbrev k : ℕ
    k = record_count schedule

    pairs_passed : refusal (pair_conditions n (pairs_to k)) ≡ 0
    unfolding conditions_to
    pairs_passed = append_none (pair_conditions n (pairs_to k)) (hours_to k) e

    hours_passed : none_to k ≡ false
    unfolding conditions_to
    hours_passed = elim (test (none_to k)) [
      | inl t ↦ absurd (omega (arith, rw t at (sym (hours_alone k) ∙ sym (pairs_rest n (pairs_to k) (hours_to k) pairs_passed) ∙ e)))
      | inr t ↦ t
    ]

    passed_rest : (cs : List Condition) → refusal (record_conditions schedule ++ cs) ≡ refusal cs
    unfolding conditions_to
    passed_rest cs =
        ap refusal (append_assoc (pair_conditions n (pairs_to k)) (hours_to k) cs) ∙ pairs_rest n (pairs_to k) (hours_to k ++ cs) pairs_passed
        ∙ hours_tested k cs ∙ ap (λ t. cond t 13 (refusal cs)) hours_passed

    pub sounds_by : Sounds schedule
    sounds_by i h = record {
      nodes = pairs_each n (λ i. ((this i).a, (this i).b)) k pairs_passed i h;
      hours = leb-false (this i).to (this i).from (any_to_false _ k hours_passed i h);
    }

-- from what `check_records` answers
module _ (schedule : List ℕ) {r : ℕ} (e : r ≡ refusal (record_conditions schedule)) where
  pub records_rest : r ≡ 0 → (cs : List Condition) → refusal (record_conditions schedule ++ cs) ≡ refusal cs
  records_rest z = passed_rest schedule (sym e ∙ z)

  pub records_refused : (r ≡ 0 → ⊥) → (cs : List Condition) → r ≡ refusal (record_conditions schedule ++ cs)
  records_refused d cs = sym (append_refused (record_conditions schedule) cs (sym e) d)

-- ---- a valid schedule

-- the first byte is a byte
pub nodes_few : (schedule : List ℕ) → Fits w8 (get_or schedule 0 0) → schedule_nodes schedule ≤ max_nodes
nodes_few schedule h = omega arith

pub valid_by : (schedule : List ℕ) → Fits w8 (get_or schedule 0 0) → 0 ≡ refusal (bad_schedule schedule ∷ []) → 0 ≡ refusal (record_conditions schedule) → Valid schedule
valid_by schedule h f e = record { some = form_some schedule f refl; few = nodes_few schedule h; each = sounds_by schedule (sym e) }

pub sound_at : {schedule : List ℕ} {i : ℕ} {r : Opening} → Valid schedule → i < record_count schedule → r ≡ opening_at schedule i → Sound max_nodes r
sound_at {i = i} v h e =
    let s = v.each i h in
    let two = s.nodes in
    rw e (record {
      nodes = record { first = omega (arith, two.first, v.few); second = omega (arith, two.second, v.few); apart = two.apart };
      hours = s.hours;
    })
