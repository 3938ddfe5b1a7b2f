-- A survey and a thinner one, with some records of a pair left out that do not matter to the pair: the same record counts. Assumes nothing.
use mathlib.Core.Bool.{false, true, true≢false}
use mathlib.Core.List.{List}
use mathlib.Core.Logic.{inl, inr, ◌⊎◌}
use mathlib.Core.Path.{ap, subst, sym, ◌∙◌, ◌≡◌}
use Prim.Native.Nat.{◌<◌, ℕ, ◌≤◌}
use native.Mathlib.Omega.{arith}
use Rattle.arith.proofs.Tests.{same_test}
use Rattle.packed.specs.Pairs.{same_pair}
use Rattle.survey.proofs.CountLaws.{linked_by, linked_of}
use Rattle.survey.proofs.PickLaws.{ahead_of, behind_by, behind_of}
use Rattle.survey.specs.Latest.{Counts}
use Rattle.survey.specs.Survey.{is_for, linked_from, measurement_at, record_count, supersedes}

-- record i of the thinner survey is record `at i` of the other, in the same order; what is left out for the pair is superseded by what is not
pub record Thinned (file less : List ℕ) (a b : ℕ) (at : ℕ → ℕ) : Type 0 where
  pub inside : (i : ℕ) → i < record_count less → at i < record_count file
  pub same : (i : ℕ) → i < record_count less → measurement_at less i ≡ measurement_at file (at i)
  pub order : (i j : ℕ) → i ≤ j → at i ≤ at j
  pub back : (i j : ℕ) → at i ≤ at j → i ≤ j
  pub rest : (m : ℕ) → m < record_count file → is_for file a b m ≡ true
      → ((i : ℕ) × (i < record_count less) × (at i ≡ m))
      ⊎ ((i : ℕ) × (i < record_count less) × (is_for file a b (at i) ≡ true) × (supersedes file (at i) m ≡ true))

module _ {file less : List ℕ} {a b : ℕ} {at : ℕ → ℕ} (t : Thinned file less a b at) where
  number_same : (i : ℕ) → i < record_count less → (measurement_at less i).number ≡ (measurement_at file (at i)).number
  number_same i h = ap (λ r. r.number) (t.same i h)

  for_same : (i : ℕ) → i < record_count less → is_for less a b i ≡ is_for file a b (at i)
  unfolding is_for
  for_same i h = ap (λ r. same_pair r.a r.b a b) (t.same i h)

  -- neither supersedes, or both
  behind_forth : (j i : ℕ) → j < record_count less → i < record_count less → supersedes less j i ≡ false → supersedes file (at j) (at i) ≡ false
  behind_forth j i hj hi e =
      let b = behind_of less j i e in
      behind_by file (at j) (at i) (omega (arith, b.0, number_same j hj, number_same i hi))
      (λ q. t.order j i (b.1 (omega (arith, number_same j hj, number_same i hi))))

  behind_back : (j i : ℕ) → j < record_count less → i < record_count less → supersedes file (at j) (at i) ≡ false → supersedes less j i ≡ false
  behind_back j i hj hi e =
      let b = behind_of file (at j) (at i) e in
      behind_by less j i (omega (arith, b.0, number_same j hj, number_same i hi))
      (λ q. t.back j i (b.1 (omega (arith, number_same j hj, number_same i hi))))

  pub counts_forth : (i : ℕ) → Counts less a b i → Counts file a b (at i)
  counts_forth i c = record {
    inside = t.inside i c.inside;
    named = sym (for_same i c.inside) ∙ c.named;
    latest = λ m h u.
        let kept : (j : ℕ) → j < record_count less → is_for file a b (at j) ≡ true → supersedes file (at j) (at i) ≡ false =
        λ j l v. behind_forth j i l c.inside (c.latest j l (for_same j l ∙ v)) in
        elim (t.rest m h u) [
          | inl (j, l, e) ↦ subst (λ k. supersedes file k (at i) ≡ false) e (kept j l (ap (is_for file a b) e ∙ u))
          | inr (j, l, v, s) ↦
              let under = ahead_of file (at j) m s in
              let over = behind_of file (at j) (at i) (kept j l v) in
              behind_by file m (at i) (omega (arith, under.0, over.0)) (λ q.
              let level : (measurement_at file (at j)).number ≡ (measurement_at file (at i)).number = omega (arith, under.0, over.0) in
              omega (arith, under.1 (q ∙ sym level), over.1 level))
        ];
  }

  pub counts_back : (m : ℕ) → Counts file a b m → (i : ℕ) × Counts less a b i × (at i ≡ m)
  counts_back m c = elim (t.rest m c.inside c.named) [
    | inr (j, l, v, s) ↦ absurd (true≢false (sym s ∙ c.latest (at j) (t.inside j l) v))
    | inl (i, l, e) ↦ (
      i,
      record {
        inside = l;
        named = for_same i l ∙ ap (is_for file a b) e ∙ c.named;
        latest = λ j h u.
            behind_back j i h l (ap (supersedes file (at j)) e ∙ c.latest (at j) (t.inside j h) (sym (for_same j h) ∙ u));
      },
      e,
    )
  ]

  pub linked_same : (threshold : ℕ) → linked_from less threshold a b ≡ linked_from file threshold a b
  linked_same threshold = same_test (linked_from less threshold a b) (linked_from file threshold a b)
      (λ e.
      let (i, c, h) = linked_of less a b threshold e in
      linked_by file a b threshold (at i) (counts_forth i c) (subst (λ r. threshold ≤ r.strength) (t.same i c.inside) h))
      (λ e.
      let (m, c, h) = linked_of file a b threshold e in
      let (i, d, q) = counts_back m c in
      linked_by less a b threshold i d (subst (λ r. threshold ≤ r.strength) (sym (t.same i d.inside ∙ ap (measurement_at file) q)) h))
