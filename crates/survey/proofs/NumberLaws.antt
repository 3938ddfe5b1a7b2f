-- The pairs of a survey by their numbers: a pair is linked as its number is. Assumes nothing.
use mathlib.Core.Bool.{false, true≢false}
use mathlib.Core.List.{List}
use mathlib.Core.Logic.{◌≢◌}
use mathlib.Core.Path.{ap, sym, ◌∙◌, ◌≡◌}
use Prim.Native.Nat.{◌<◌, ℕ, ◌≤◌}
use native.Mathlib.Decide.{dec_lt}
use native.Mathlib.Omega.{arith}
use borrow.Author.Tests.{ne_eqb}
use Rattle.packed.proofs.GraphLaws.{Numbered}
use Rattle.packed.proofs.PairLaws.{pair_lt, same_number, same_self}
use Rattle.packed.specs.Pairs.{max_nodes, pair_count, pair_index}
use Rattle.state.proofs.PairConditions.{pairs_each}
use Rattle.state.specs.Refusal.{pair_conditions, refusal}
use Rattle.survey.proofs.CountLaws.{linked_last}
use Rattle.survey.proofs.PickLaws.{last_ext, last_never}
use Rattle.survey.specs.Survey.{is_for, linked_from, measurement_at, pairs_to, record_count, record_pairs}
use Rattle.survey.specs.Inside.Walk.{has_number, linked_no, number_of, reached_by, Valid}

-- ---- records that pass name two of n nodes

pub valid_by : (survey : List ℕ) (n : ℕ) → n ≤ max_nodes → refusal (pair_conditions n (record_pairs survey)) ≡ 0 → Valid survey n
unfolding pairs_to
valid_by survey n h z = record { few = h; each = pairs_each n _ (record_count survey) z }

pub valid_most : {survey : List ℕ} {n : ℕ} → Valid survey n → Valid survey max_nodes
valid_most v = record {
  few = omega arith;
  each = λ i h. let t = v.each i h in record { first = omega (arith, t.first, v.few); second = omega (arith, t.second, v.few); apart = t.apart };
}

-- ---- numbers

module _ {survey : List ℕ} {n : ℕ} (v : Valid survey n) where
  -- past the pairs no record has the number
  pub number_past : (p : ℕ) → pair_count n ≤ p → (i : ℕ) → i < record_count survey → has_number survey p i ≡ false
  unfolding has_number
  number_past p h i l =
      let t = v.each i l in
      ne_eqb (number_of (measurement_at survey i)) p (λ e. omega (arith, pair_lt _ _ n t.apart t.first t.second))

  is_number : (a b : ℕ) → a ≢ b → (i : ℕ) → i < record_count survey → is_for survey a b i ≡ has_number survey (pair_index a b) i
  unfolding is_for has_number
  is_number a b two i h = same_number _ _ a b (v.each i h).apart two

  is_self : (a i : ℕ) → i < record_count survey → is_for survey a a i ≡ false
  unfolding is_for
  is_self a i h = same_self _ _ a (v.each i h).apart

  unlinked : (threshold : ℕ) {x : ℕ} → x ≡ 0 → reached_by survey threshold x ≡ false
  unfolding reached_by
  unlinked threshold e = ap (reached_by survey threshold) e

  pub numbered : (threshold : ℕ) → Numbered (linked_from survey threshold) n (linked_no survey threshold)
  numbered threshold = record {
    two = λ a b d. linked_last survey a b threshold ∙ ap (reached_by survey threshold) (last_ext survey _ _ (record_count survey) (is_number a b d));
    self = λ a. linked_last survey a a threshold ∙ unlinked threshold (last_never survey _ (record_count survey) (is_self a));
    within = λ p e. elim (dec_lt p (pair_count n)) [
      | yes h ↦ h
      | no h ↦ absurd (true≢false (sym e ∙ unlinked threshold (last_never survey (has_number survey p) (record_count survey) (number_past p (omega arith)))))
    ];
  }
