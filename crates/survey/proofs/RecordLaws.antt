-- The records of a survey: the refusals of one record more, and the walk to it. Assumes nothing.
use mathlib.Core.Bool.{Bool, false, true, ◌&&◌}
use mathlib.Core.List.{List, [], ◌∷◌}
use mathlib.Core.Path.{ap, refl, sym, ◌∙◌, ◌≡◌}
use Prim.Native.Nat.{◌+◌, suc, zero, ℕ}
use native.Mathlib.Numerals.{add-one}
use native.Mathlib.Omega.{arith}
use lib.Dec.{leb}
use Rattle.arith.specs.Sums.{tabulate}
use Rattle.packed.specs.Pairs.{same_pair}
use Rattle.state.proofs.PairConditions.{earlier_first, pairs_cat, pairs_nil}
use Rattle.state.specs.Inside.Earlier.{earlier}
use Rattle.state.specs.Refusal.{pair_conditions, refusal}
use Rattle.survey.specs.Survey.{is_for, measurement_at, pairs_to}
use Rattle.survey.specs.declared.records.Measurement.{Measurement}
use Rattle.std.proofs.Common.{None, Option, Some}
use Rattle.survey.specs.Inside.Walk.{last_to, number_at, position_at}

-- ---- the refusals

-- a record that passes leaves the refusal of those before it
pub earlier_passed : (x : ℕ) → earlier x 0 ≡ x
unfolding earlier
earlier_passed zero = refl
earlier_passed (suc x) = earlier_first (suc x) 0 (λ e. omega (arith, e)) (λ d. absurd (d refl))

module _ (survey : List ℕ) (n : ℕ) where
  pub pairs_none : refusal (pair_conditions n (pairs_to survey 0)) ≡ 0
  unfolding pairs_to tabulate
  pairs_none = pairs_nil n

  pub pairs_next : (i : ℕ) → refusal (pair_conditions n (pairs_to survey (i + 1)))
      ≡ earlier (refusal (pair_conditions n (pairs_to survey i))) (refusal (pair_conditions n (((measurement_at survey i).a, (measurement_at survey i).b) ∷ [])))
  unfolding pairs_to tabulate
  pairs_next i = rw (add-one i) (pairs_cat n (pairs_to survey i) (((measurement_at survey i).a, (measurement_at survey i).b) ∷ []))

-- ---- what the walk has after k records: the position of the record that counts so far, and its survey number

pub record Walked (survey : List ℕ) (passes : ℕ → Bool) (k : ℕ) (last : Option ℕ) (highest : ℕ) : Type 0 where
  pub at : last ≡ position_at (last_to survey passes k)
  pub number : highest ≡ number_at survey (last_to survey passes k)

pub walked_none : (survey : List ℕ) (passes : ℕ → Bool) → Walked survey passes 0 None 0
unfolding last_to number_at position_at
walked_none survey passes = record { at = refl; number = refl }

-- one record more, from what `is_latest` answers
module _ (survey : List ℕ) (a b i : ℕ) {r : Measurement} {last : Option ℕ} {highest : ℕ} {t : Bool} (w : Walked survey (is_for survey a b) i last highest)
    (is : r ≡ measurement_at survey i) (tested : t ≡ same_pair r.a r.b a b && leb highest r.number) where
  taken : {u : Bool} → t ≡ u
      → is_for survey a b i && leb (number_at survey (last_to survey (is_for survey a b) i)) (measurement_at survey i).number ≡ u
  unfolding is_for
  taken e =
      ap (λ x. is_for survey a b i && leb x (measurement_at survey i).number) (sym w.number)
      ∙ ap (λ r. same_pair r.a r.b a b && leb highest r.number) (sym is) ∙ sym tested ∙ e

  pub walked_taken : {last' : Option ℕ} {highest' : ℕ} → t ≡ true → last' ≡ Some i → highest' ≡ r.number → Walked survey (is_for survey a b) (i + 1) last' highest'
  unfolding last_to number_at position_at
  walked_taken e p q = rw (p, q, is, add-one i) (record { at = rw (taken e); number = rw (taken e) })

  pub walked_left : {last' : Option ℕ} {highest' : ℕ} → t ≡ false → last' ≡ last → highest' ≡ highest → Walked survey (is_for survey a b) (i + 1) last' highest'
  unfolding last_to
  walked_left e p q = rw (p, q, add-one i) (record { at = rw (taken e) w.at; number = rw (taken e) w.number })
