-- THE LATEST SURVEY COUNTS: at most one record counts for a pair, one does exactly if the pair has a record, and the calls say which. Assumes nothing.
use mathlib.Core.Bool.{true≢false}
use mathlib.Core.List.{List}
use mathlib.Core.Logic.{◌≢◌}
use mathlib.Core.Path.{ap, refl, subst, sym, ◌∙◌, ◌≡◌}
use Prim.Native.Nat.{suc, zero, ℕ}
use borrow.Author.Tests.{ne_eqb}
use Rattle.state.specs.Answers.{At, Nowhere, Refused}
use Rattle.state.specs.Refusal.{refusal}
use Rattle.survey.proofs.CallLaws.{answers_at, answers_none}
use Rattle.survey.proofs.CountLaws.{counts_last, counts_one, last, last_counts, linked_by, linked_of, measured_counts}
use Rattle.survey.specs.Latest.{Counts, LatestCounts, Measured}
use Rattle.survey.specs.Position.{numbers_of, position_call, position_conditions}

counts_measured : (survey : List ℕ) (a b : ℕ) → (i : ℕ) × Counts survey a b i → Measured survey a b
counts_measured survey a b (i, c) = (i, c.inside, c.named)

refused_is : (survey : List ℕ) (n a b : ℕ) → refusal (position_conditions survey n a b) ≢ 0
    → position_call survey n a b ≡ Refused (refusal (position_conditions survey n a b))
unfolding position_call
refused_is survey n a b d = rw (ne_eqb (refusal (position_conditions survey n a b)) 0 d)

at_same : {i j : ℕ} → At i ≡ At j → i ≡ j
unfolding numbers_of
at_same e = ap (λ c. (numbers_of c).position) e

at_none : {i : ℕ} → At i ≡ Nowhere → ⊥
unfolding numbers_of
at_none e = true≢false (ap (λ c. (numbers_of c).some) e)

-- the answer, by what the walk finds
module _ (survey : List ℕ) (n a b : ℕ) (z : refusal (position_conditions survey n a b) ≡ 0) where
  at_forth : (i : ℕ) → position_call survey n a b ≡ At i → Counts survey a b i
  at_forth i e = by (last survey a b) refl
    where
      by : (x : ℕ) → last survey a b ≡ x → Counts survey a b i
      by zero f = absurd (at_none (sym e ∙ sym (answers_none survey n a b z f).0))
      by (suc j) f = subst (Counts survey a b) (at_same ((answers_at survey n a b z j f).0 ∙ e)) (last_counts survey a b j f)

  at_back : (i : ℕ) → Counts survey a b i → position_call survey n a b ≡ At i
  at_back i c = sym (answers_at survey n a b z i (counts_last survey a b i c)).0

  none_forth : position_call survey n a b ≡ Nowhere → Measured survey a b → ⊥
  none_forth e m = let (i, c) = measured_counts survey a b m in at_none (sym (at_back i c) ∙ e)

  none_back : (Measured survey a b → ⊥) → position_call survey n a b ≡ Nowhere
  none_back d = by (last survey a b) refl
    where
      by : (x : ℕ) → last survey a b ≡ x → position_call survey n a b ≡ Nowhere
      by zero f = sym (answers_none survey n a b z f).0
      by (suc j) f = absurd (d (counts_measured survey a b (j, last_counts survey a b j f)))

pub latest_counts : LatestCounts
latest_counts = record {
  one = λ survey a b i j c d. counts_one survey a b i j c d;
  some = λ survey a b. (counts_measured survey a b, measured_counts survey a b);
  linked = λ survey threshold a b. (linked_of survey a b threshold, λ s. linked_by survey a b threshold s.0 s.1 s.2);
  position = λ survey n a b i z. (at_forth survey n a b z i, at_back survey n a b z i);
  none = λ survey n a b z. (none_forth survey n a b z, none_back survey n a b z);
  refused = refused_is;
}
