-- The record that counts: what the walk finds is what counts, and what that says of a link and of a position. Assumes nothing.
use mathlib.Core.Bool.{false, true, true≢false, ◌&&◌}
use mathlib.Core.List.{List}
use mathlib.Core.Logic.{inl, inr}
use mathlib.Core.Path.{ap, refl, sym, ◌∙◌, ◌≡◌}
use Prim.Native.Nat.{◌-◌, ◌<◌, suc, zero, zero-le, ℕ, ◌≤◌}
use native.Mathlib.Nat.{le_refl}
use native.Mathlib.Omega.{arith}
use borrow.Author.Tests.{le-leb, leb-true, not-true}
use lib.Dec.{leb}
use Rattle.arith.proofs.Sums.{any_to_false, any_to_here, any_to_never, some_of}
use Rattle.arith.proofs.Tests.{and-true, same_test, test}
use Rattle.arith.specs.Lists.{least_from}
use Rattle.packed.proofs.FirstLaws.{first_least}
use Rattle.packed.specs.Inside.Search.{FirstFrom}
use Rattle.survey.proofs.PickLaws.{Picked, picked_last, picked_one, picks}
use Rattle.survey.specs.Latest.{Counts, Measured}
use Rattle.survey.specs.Position.{position_of}
use Rattle.survey.specs.Survey.{counts, is_for, linked_from, measurement_at, record_count, supersedes}
use Rattle.survey.specs.Inside.Walk.{last_to, reached_by}

module _ (survey : List ℕ) (a b : ℕ) where
  -- the test
  pub counts_of : (i : ℕ) → i < record_count survey → counts survey a b i ≡ true → Counts survey a b i
  unfolding counts
  counts_of i h e =
      let c = and-true (is_for survey a b i) _ e in
      record {
        inside = h;
        named = c.0;
        latest = λ j l u. rw u at (any_to_false (λ j. is_for survey a b j && supersedes survey j i) (record_count survey) (not-true _ c.1) j l);
      }

  pub counts_by : (i : ℕ) → Counts survey a b i → counts survey a b i ≡ true
  unfolding counts
  counts_by i c =
      let none = any_to_never (λ j. is_for survey a b j && supersedes survey j i) (record_count survey) (λ j l. elim (test (is_for survey a b j)) [
        | inl u ↦ rw u (c.latest j l u)
        | inr u ↦ rw u
      ]) in
      rw (c.named, none)

  -- what the walk finds
  abbrev pub last : ℕ
  last = last_to survey (is_for survey a b) (record_count survey)

  pub last_counts : (i : ℕ) → last ≡ suc i → Counts survey a b i
  last_counts i e = let p = (picks survey (is_for survey a b) (record_count survey)).some i e in record { inside = p.inside; named = p.named; latest = p.latest }

  picked : (i : ℕ) → Counts survey a b i → Picked survey (is_for survey a b) (record_count survey) i
  picked i c = record { inside = c.inside; named = c.named; latest = c.latest }

  pub counts_last : (i : ℕ) → Counts survey a b i → last ≡ suc i
  counts_last i c = picked_last survey (picked i c)

  pub counts_one : (i j : ℕ) → Counts survey a b i → Counts survey a b j → i ≡ j
  counts_one i j c d = picked_one survey (picked i c) (picked j d)

  pub last_none : last ≡ 0 → (j : ℕ) → j < record_count survey → is_for survey a b j ≡ false
  last_none e = (picks survey (is_for survey a b) (record_count survey)).none e

  -- a pair with a record has one that counts
  pub measured_counts : Measured survey a b → (i : ℕ) × Counts survey a b i
  measured_counts (j, h, u) = by last refl
    where
      by : (x : ℕ) → last ≡ x → (i : ℕ) × Counts survey a b i
      by zero e = absurd (true≢false (sym u ∙ last_none e j h))
      by (suc i) e = (i, last_counts i e)

  -- ---- a link

  module _ (threshold : ℕ) where
    pub linked_by : (i : ℕ) → Counts survey a b i → threshold ≤ (measurement_at survey i).strength → linked_from survey threshold a b ≡ true
    unfolding linked_from
    linked_by i c h =
        any_to_here (λ i. counts survey a b i && leb threshold (measurement_at survey i).strength) (record_count survey) i c.inside
        (rw (counts_by i c) (le-leb threshold (measurement_at survey i).strength h))

    pub linked_of : linked_from survey threshold a b ≡ true → (i : ℕ) × Counts survey a b i × (threshold ≤ (measurement_at survey i).strength)
    unfolding linked_from
    linked_of e =
        let s = some_of (λ i. counts survey a b i && leb threshold (measurement_at survey i).strength) (record_count survey) e in
        let q = and-true (counts survey a b s.at) _ s.passes in
        (s.at, counts_of s.at s.inside q.0, leb-true threshold _ q.1)

    -- by the record that the walk finds
    pub linked_last : linked_from survey threshold a b ≡ reached_by survey threshold last
    unfolding reached_by
    linked_last = same_test (linked_from survey threshold a b) (reached_by survey threshold last)
        (λ e. let (i, c, h) = linked_of e in ap (reached_by survey threshold) (counts_last i c) ∙ le-leb threshold (measurement_at survey i).strength h)
        (λ e. by last refl e)
      where
        by : (x : ℕ) → last ≡ x → reached_by survey threshold x ≡ true → linked_from survey threshold a b ≡ true
        by zero e u = absurd (true≢false (sym u))
        by (suc i) e u = linked_by i (last_counts i e) (leb-true threshold _ u)

  -- ---- a position

  first_position : {i : ℕ} → FirstFrom (counts survey a b) 0 (record_count survey) i → i ≡ position_of survey a b
  unfolding position_of
  first_position f =
      let all : record_count survey - 0 ≡ record_count survey = omega arith in
      first_least (counts survey a b) f ∙ ap (least_from (counts survey a b) 0) all

  pub position_counts : (i : ℕ) → Counts survey a b i → i ≡ position_of survey a b
  position_counts i c = first_position (record {
    start = zero-le;
    stop = omega (arith, c.inside);
    none = λ j l h. elim (test (counts survey a b j)) [
      | inl e ↦ absurd (omega (arith, counts_one j i (counts_of j (omega (arith, c.inside)) e) c))
      | inr e ↦ e
    ];
    some = λ h. counts_by i c;
  })

  pub position_none : ((j : ℕ) → j < record_count survey → is_for survey a b j ≡ false) → record_count survey ≡ position_of survey a b
  unfolding counts
  position_none d = first_position (record {
    start = zero-le;
    stop = le_refl (record_count survey);
    none = λ j l h. rw (d j h);
    some = λ h. absurd (omega arith);
  })
