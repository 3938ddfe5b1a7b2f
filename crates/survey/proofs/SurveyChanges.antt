-- A record more changes no other pair, a record that is superseded may be left out, and a higher threshold links no more. Assumes nothing.
use mathlib.Core.Bool.{cond, false, true, true≢false}
use mathlib.Core.List.{◌++◌, List, ◌∷◌}
use mathlib.Core.Logic.{inl, inr, ◌≢◌}
use mathlib.Core.Path.{ap, refl, subst, sym, ◌∙◌, ◌≡◌}
use Prim.Native.Nat.{◌+◌, ◌-◌, ◌<◌, suc, ℕ, ◌≤◌}
use native.Mathlib.Decide.{dec_lt, ℕ_discrete}
use native.Mathlib.Nat.{le_trans}
use native.Mathlib.Omega.{arith}
use borrow.Author.Tests.{le-ltb, lt-ltb}
use lib.Dec.{ltb}
use lib.ListN.{length}
use Rattle.packed.proofs.PairLaws.{same_trans}
use Rattle.packed.specs.Edges.{edges_of}
use Rattle.packed.specs.Pairs.{same_pair}
use Rattle.survey.proofs.AppendLaws.{count_append, record_left, record_right}
use Rattle.survey.proofs.CountLaws.{linked_by, linked_of}
use Rattle.survey.proofs.PickLaws.{ahead_of}
use Rattle.survey.proofs.ThinLaws.{counts_back, counts_forth, linked_same, Thinned}
use Rattle.survey.specs.Changes.{Superseded, SurveyChanges, Whole}
use Rattle.survey.specs.Latest.{Counts}
use Rattle.survey.specs.Survey.{is_for, linked_from, measurement_at, record_bytes, record_count, supersedes}

-- one record
one : (r : List ℕ) → length r ≡ record_bytes → record_count r ≡ 1
one r e = omega arith

whole : (r : List ℕ) → length r ≡ record_bytes → Whole r
whole r e = omega arith

-- ---- a record more, of another pair

module _ (survey r : List ℕ) (a b : ℕ) (w : Whole survey) (l : length r ≡ record_bytes) (other : is_for r a b 0 ≡ false) where
  count_more : record_count (survey ++ r) ≡ record_count survey + 1
  count_more = count_append survey r w ∙ ap (λ k. record_count survey + k) (one r l)

  last_other : (m : ℕ) → m ≡ record_count survey → is_for (survey ++ r) a b m ≡ false
  unfolding is_for
  last_other m e =
      let at : m ≡ record_count survey + 0 = omega arith in
      ap (λ x. same_pair x.a x.b a b) (ap (measurement_at (survey ++ r)) at ∙ record_right survey r w 0) ∙ other

  appended : Thinned (survey ++ r) survey a b (λ i. i)
  appended = record {
    inside = λ i h. omega (arith, count_more);
    same = λ i h. sym (record_left survey r i h);
    order = λ i j h. h;
    back = λ i j h. h;
    rest = λ m h u. elim (dec_lt m (record_count survey)) [
      | yes k ↦ inl (m, k, refl)
      | no k ↦ absurd (true≢false (sym u ∙ last_other m (omega (arith, count_more))))
    ];
  }

  at_back : (i : ℕ) → Counts (survey ++ r) a b i → Counts survey a b i
  at_back i c = let (j, d, e) = counts_back appended i c in subst (Counts survey a b) e d

-- ---- a record left out

module _ (k : ℕ) where
  -- where a record of the thinner survey stands in the other
  unfoldable shift : ℕ → ℕ
  shift i = cond (ltb i k) i (suc i)

  shift_before : (i : ℕ) → i < k → shift i ≡ i
  unfolding shift
  shift_before i h = rw (lt-ltb i k h)

  shift_after : (i : ℕ) → k ≤ i → shift i ≡ suc i
  unfolding shift
  shift_after i h = rw (le-ltb i k h)

  shift_order : (i j : ℕ) → i ≤ j → shift i ≤ shift j
  shift_order i j h = elim (dec_lt i k) [
    | yes a ↦ elim (dec_lt j k) [
      | yes b ↦ omega (arith, shift_before i a, shift_before j b)
      | no b ↦ omega (arith, shift_before i a, shift_after j (omega arith))
    ]
    | no a ↦ omega (arith, shift_after i (omega arith), shift_after j (omega arith))
  ]

  shift_back : (i j : ℕ) → shift i ≤ shift j → i ≤ j
  shift_back i j h = elim (dec_lt j i) [
    | no a ↦ omega arith
    | yes a ↦ elim (dec_lt j k) [
      | yes b ↦ elim (dec_lt i k) [
        | yes c ↦ absurd (omega (arith, shift_before j b, shift_before i c))
        | no c ↦ absurd (omega (arith, shift_before j b, shift_after i (omega arith)))
      ]
      | no b ↦ absurd (omega (arith, shift_after j (omega arith), shift_after i (omega arith)))
    ]
  ]

module _ (before r after : List ℕ) (w : Whole before) (l : length r ≡ record_bytes) (s : Superseded (before ++ (r ++ after)) (record_count before)) where
  abbrev file : List ℕ
  file = before ++ (r ++ after)

  abbrev less : List ℕ
  less = before ++ after

  abbrev k : ℕ
  k = record_count before

  counts : record_count file ≡ record_count less + 1
  counts = omega (arith, count_append before (r ++ after) w, count_append r after (whole r l), one r l, count_append before after w)

  same : (i : ℕ) → i < record_count less → measurement_at less i ≡ measurement_at file (shift k i)
  same i h = elim (dec_lt i k) [
    | yes b ↦ record_left before after i b ∙ sym (ap (measurement_at file) (shift_before k i b) ∙ record_left before (r ++ after) i b)
    | no b ↦
        let d : ℕ = i - k in
        let at : i ≡ k + d = omega arith in
        let to : suc i ≡ k + (record_count r + d) = omega (arith, one r l) in
        ap (measurement_at less) at ∙ record_right before after w d
        ∙ sym (ap (measurement_at file) (shift_after k i (omega arith) ∙ to) ∙ record_right before (r ++ after) w (record_count r + d) ∙ record_right r after (whole r l) d)
  ]

  -- a place other than k is a place of the thinner survey
  onto : (m : ℕ) → m < record_count file → m ≢ k → (i : ℕ) × (i < record_count less) × (shift k i ≡ m)
  onto m h d = elim (dec_lt m k) [
    | yes b ↦ (m, omega (arith, count_append before after w), shift_before k m b)
    | no b ↦ let e : suc (m - 1) ≡ m = omega arith in (m - 1, omega (arith, counts), shift_after k (m - 1) (omega arith) ∙ e)
  ]

  left_out : (a b : ℕ) → Thinned file less a b (shift k)
  unfolding is_for
  left_out a b = record {
    inside = λ i h. elim (dec_lt i k) [
      | yes c ↦ omega (arith, counts, shift_before k i c)
      | no c ↦ omega (arith, counts, shift_after k i (omega arith))
    ];
    same = same;
    order = shift_order k;
    back = shift_back k;
    rest = λ m h u. elim (ℕ_discrete m k) [
      | no d ↦ inl (onto m h d)
      | yes e ↦
          let (j, hj, named, over) = s in
          let (i, hi, q) = onto j hj (λ z. omega (arith, (ahead_of file j k over).1 (ap (λ x. (measurement_at file x).number) (sym z)))) in
          inr (i, hi, ap (is_for file a b) q ∙ same_trans _ _ _ _ a b named (ap (is_for file a b) (sym e) ∙ u), ap (λ x. supersedes file x m) q ∙ ap (supersedes file j) e ∙ over)
    ];
  }

-- ---- the laws

higher : (survey : List ℕ) (low high a b : ℕ) → low ≤ high → linked_from survey high a b ≡ true → linked_from survey low a b ≡ true
higher survey low high a b h e = let (i, c, l) = linked_of survey a b high e in linked_by survey a b low i c (le_trans h l)

pub survey_changes : SurveyChanges
survey_changes = record {
  appended = λ survey r threshold a b w l o. sym (linked_same (appended survey r a b w l o) threshold);
  counting = λ survey r a b i w l o. (at_back survey r a b w l o i, counts_forth (appended survey r a b w l o) i);
  left_out = λ before r after n threshold w l s. λ j. (n - 1) ∷ edges_of (λ a b. linked_same (left_out before r after w l s a b) threshold j) n;
  higher = higher;
}
