-- How long the pairs of a window stay linked: what a pass over the records keeps, and why the passes end. Assumes nothing.
use mathlib.Core.Bool.{false, true, true≢false}
use mathlib.Core.List.{List}
use mathlib.Core.Logic.{inl, inr, ◌≢◌}
use mathlib.Core.Path.{ap, refl, subst, sym, ◌∙◌, ◌≡◌}
use Prim.Native.Nat.{◌*◌, ◌+◌, ◌<◌, suc, zero, ℕ, ◌≤◌}
use native.Mathlib.Decide.{dec_lt, ℕ_discrete}
use native.Mathlib.Nat.{le_refl, le_trans}
use native.Mathlib.Omega.{arith}
use lib.ListN.{get_or, get_or-replicate, length-replicate, length-set, replicate, set}
use lib.Seq.{get_or-set_other, get_or-set_same}
use Rattle.arith.proofs.Sums.{any_to_false, sum_to_ext, sum_to_le}
use Rattle.arith.proofs.Tests.{test}
use Rattle.arith.specs.Sums.{any_to, sum_to}
use Rattle.packed.specs.Inside.Windows.{window}
use Rattle.schedule.proofs.OpenLaws.{linked_by, to_lt}
use Rattle.schedule.proofs.PlaceLaws.{lengthened-not, lengthened_so, Longer, longer_of, placed}
use Rattle.schedule.specs.Change.{minutes}
use Rattle.schedule.specs.Schedule.{opening_at, record_count}
use Rattle.schedule.specs.declared.records.Opening.{Opening}
use Rattle.schedule.specs.Inside.Numbers.{linked_no}
use Rattle.schedule.specs.declared.change.Scope.{Scope}
use Rattle.schedule.specs.Inside.Until.{Lasts, lengthened, lengthens, moved_to, pass_to, place_of, Rests}

-- ---- at the start each pair's minute is t

pub lasts_begin : (schedule : List ℕ) (w : Scope) → w.minute < minutes → Lasts schedule w (replicate window w.minute)
lasts_begin schedule w h =
    let at : (k : ℕ) → k < window → get_or (replicate window w.minute) k 0 ≡ w.minute = λ k l. get_or-replicate window k w.minute 0 l in
    record {
      long = length-replicate {A = ℕ} window w.minute;
      begun = λ k l. omega (arith, at k l);
      fits = λ k l. omega (arith, at k l);
      linked = λ k l m a b. absurd (omega (arith, at k l));
    }

-- ---- a pass over the records: each pair is linked up to its minute, before it and after it

module _ {schedule : List ℕ} {w : Scope} {until : List ℕ} (lasts : Lasts schedule w until) (i : ℕ) where
  module _ (h : i < record_count schedule) (l : Longer w until (opening_at schedule i)) where
    abbrev place : ℕ
    place = place_of w (opening_at schedule i)

    abbrev to : ℕ
    to = (opening_at schedule i).to

    set_place : get_or (set until place to) place 0 ≡ to
    set_place = get_or-set_same until place to 0 (omega (arith, l.place, lasts.long))

    by_record : (m : ℕ) → get_or until place 0 ≤ m → m < to → linked_no schedule m (w.start + place) ≡ true
    by_record m a b = linked_by schedule m (w.start + place) (record {
      at = i;
      inside = h;
      number = (placed w (opening_at schedule i) l.place).number;
      begun = le_trans l.begun a;
      ends = b;
    })

    set_lasts : Lasts schedule w (set until place to)
    set_lasts = record {
      long = length-set until place to ∙ lasts.long;
      begun = λ k b. elim (ℕ_discrete k place) [
        | yes e ↦ rw (e, set_place) (omega (arith, (placed w (opening_at schedule i) l.place).late))
        | no d ↦ rw (get_or-set_other until place k to 0 d) (lasts.begun k b)
      ];
      fits = λ k b. elim (ℕ_discrete k place) [
        | yes e ↦ rw (e, set_place) (to_lt schedule i)
        | no d ↦ rw (get_or-set_other until place k to 0 d) (lasts.fits k b)
      ];
      linked = λ k b m c g. elim (ℕ_discrete k place) [
        | yes e ↦ elim (dec_lt m (get_or until k 0)) [
          | yes s ↦ lasts.linked k b m c s
          | no s ↦
              let was = ap (λ j. get_or until j 0) e in
              let is = ap (λ j. get_or (set until place to) j 0) e ∙ set_place in
              rw e (by_record m (omega (arith, was)) (omega (arith, is)))
        ]
        | no d ↦ lasts.linked k b m c (rw (get_or-set_other until place k to 0 d) at g)
      ];
    }

  lengthened_lasts : i < record_count schedule → Lasts schedule w (lengthened w until (opening_at schedule i))
  lengthened_lasts h = elim (test (lengthens w until (opening_at schedule i))) [
    | inl e ↦ subst (Lasts schedule w) (lengthened_so w until (opening_at schedule i) e) (set_lasts h (longer_of w until (opening_at schedule i) e))
    | inr e ↦ subst (Lasts schedule w) (lengthened-not w until (opening_at schedule i) e) lasts
  ]

pub pass_lasts : {schedule : List ℕ} {w : Scope} {until : List ℕ} → Lasts schedule w until → (k : ℕ) → k ≤ record_count schedule
    → Lasts schedule w (pass_to schedule w until k)
unfolding pass_to
pass_lasts lasts zero h = lasts
pass_lasts lasts (suc i) h = lengthened_lasts (pass_lasts lasts i (omega arith)) i h

-- a pass that lengthens none leaves the table as it was, and none of its records would
pub pass_still : (schedule : List ℕ) (w : Scope) (until : List ℕ) (k : ℕ) → moved_to schedule w until k ≡ false
    → (pass_to schedule w until k ≡ until) × Rests schedule w until k
unfolding moved_to pass_to
pass_still schedule w until k e = (same k (le_refl k), λ i h. ap (λ u. lengthens w u (opening_at schedule i)) (sym (same i (omega arith))) ∙ none i h)
  where
    none : (i : ℕ) → i < k → lengthens w (pass_to schedule w until i) (opening_at schedule i) ≡ false
    none = any_to_false _ k e

    same : (i : ℕ) → i ≤ k → pass_to schedule w until i ≡ until
    same zero h = refl
    same (suc i) h = sym (lengthened-not w (pass_to schedule w until i) (opening_at schedule i) (none i h)) ∙ same i (omega arith)

-- ---- the passes end: each that lengthens one makes the minutes' sum larger

abbrev pub total : List ℕ → ℕ
total until = sum_to (λ k. get_or until k 0) window

pub total_most : {schedule : List ℕ} {w : Scope} {until : List ℕ} → Lasts schedule w until → total until ≤ window * minutes
total_most {until = until} lasts = sum_to_le (λ k. get_or until k 0) minutes window (λ k h. omega (arith, lasts.fits k h))

-- a sum with one larger term
sum_larger : (f g : ℕ → ℕ) (n k : ℕ) → k < n → f k < g k → ((j : ℕ) → j ≢ k → f j ≡ g j) → sum_to f n < sum_to g n
unfolding sum_to
sum_larger f g zero k h l same = absurd (omega arith)
sum_larger f g (suc n) k h l same = elim (dec_lt k n) [
  | yes s ↦ omega (arith, sum_larger f g n k s l same, same n (omega arith))
  | no s ↦ let e : n ≡ k = omega arith in omega (arith, sum_to_ext f g n (λ j b. same j (omega arith)), ap f e, ap g e)
]

module _ {schedule : List ℕ} {w : Scope} {until : List ℕ} (lasts : Lasts schedule w until) (r : Opening) where
  longer_total : lengthens w until r ≡ true → total until < total (lengthened w until r)
  longer_total e =
      let l = longer_of w until r e in
      let k = place_of w r in
      subst (λ u. total until < total u) (lengthened_so w until r e)
      (sum_larger (λ j. get_or until j 0) (λ j. get_or (set until k r.to) j 0) window k l.place
      (omega (arith, l.ends, get_or-set_same until k r.to 0 (omega (arith, l.place, lasts.long))))
      (λ j d. sym (get_or-set_other until k j r.to 0 d)))

  step_total : total until ≤ total (lengthened w until r)
  step_total = elim (test (lengthens w until r)) [
    | inl e ↦ omega (arith, longer_total e)
    | inr e ↦ subst (λ u. total until ≤ total u) (lengthened-not w until r e) (le_refl (total until))
  ]

module _ {schedule : List ℕ} {w : Scope} {until : List ℕ} (lasts : Lasts schedule w until) where
  pass_more : (k : ℕ) → k ≤ record_count schedule → total until ≤ total (pass_to schedule w until k)
  unfolding pass_to
  pass_more zero h = le_refl (total until)
  pass_more (suc i) h = omega (arith, pass_more i (omega arith), step_total (pass_lasts lasts i (omega arith)) (opening_at schedule i))

  pass_grows : (k : ℕ) → moved_to schedule w until k ≡ true → k ≤ record_count schedule → total until < total (pass_to schedule w until k)
  unfolding moved_to pass_to any_to
  pass_grows zero e h = absurd (true≢false (sym e))
  pass_grows (suc i) e h =
      let before = pass_lasts lasts i (omega arith) in
      elim (test (any_to (λ j. lengthens w (pass_to schedule w until j) (opening_at schedule j)) i)) [
        | inl t ↦ omega (arith, pass_grows i t (omega arith), step_total before (opening_at schedule i))
        | inr t ↦ omega (arith, pass_more i (omega arith), longer_total before (opening_at schedule i) (rw t at e))
      ]

pub pass_total : {schedule : List ℕ} {w : Scope} {until : List ℕ} {k : ℕ} → Lasts schedule w until
    → moved_to schedule w until k ≡ true → k ≤ record_count schedule → total until < total (pass_to schedule w until k)
pass_total {k = k} lasts e h = pass_grows lasts k e h
