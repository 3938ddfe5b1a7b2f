-- Records in bytes that stand one after the other. Assumes nothing.
use mathlib.Core.List.{◌++◌, [], List, ◌∷◌}
use mathlib.Core.Path.{ap, ap₂, ◌∙◌, ◌≡◌}
use Prim.Native.Nat.{◌%◌, ◌*◌, ◌+◌, ◌-◌, ◌/◌, ◌<◌, ℕ, ◌≤◌}
use native.Mathlib.Nat.{add_assoc, suc-add, zero-add}
use native.Mathlib.Omega.{arith}
use lib.ListN.{get_or, length, length-append, get_or-append}
use Rattle.arith.specs.Digits.{bit_of}
use Rattle.packed.proofs.RunLaws.{run_ext}
use Rattle.packed.specs.Bits.{bit_at, run_of}
use Rattle.survey.specs.Changes.{Whole}
use Rattle.survey.specs.declared.records.Measurement.{Measurement}
use Rattle.survey.specs.Survey.{measurement_at, record_bytes, record_count}

module _ (xs ys : List ℕ) where
  -- ---- bits

  bit_left : (q : ℕ) → q < 8 * length xs → bit_at (xs ++ ys) q ≡ bit_at xs q
  unfolding bit_at
  bit_left q h = ap (λ x. bit_of x (7 - q % 8)) (get_or-append xs ys 0 (q / 8) (omega arith))

  bit_right : (q : ℕ) → bit_at (xs ++ ys) (8 * length xs + q) ≡ bit_at ys q
  unfolding bit_at
  bit_right q =
      let byte : (8 * length xs + q) / 8 ≡ length xs + q / 8 = omega arith in
      let place : (8 * length xs + q) % 8 ≡ q % 8 = omega arith in
      ap₂ (λ x p. bit_of x (7 - p)) (ap (λ k. get_or (xs ++ ys) k 0) byte ∙ after xs (q / 8)) place
    where
      after : (zs : List ℕ) (k : ℕ) → get_or (zs ++ ys) (length zs + k) 0 ≡ get_or ys k 0
      after [] k = ap (λ m. get_or ys m 0) (zero-add k)
      after (z ∷ zs) k = ap (λ m. get_or (z ∷ (zs ++ ys)) m 0) (suc-add (length zs) k) ∙ after zs k

  run_left : (from n : ℕ) → from + n ≤ 8 * length xs → run_of (xs ++ ys) from n ≡ run_of xs from n
  run_left from n h = run_ext (bit_at (xs ++ ys)) (bit_at xs) from from n (λ k l. bit_left (from + k) (omega arith))

  run_right : (from at n : ℕ) → from ≡ 8 * length xs + at → run_of (xs ++ ys) from n ≡ run_of ys at n
  run_right from at n e =
      run_ext (bit_at (xs ++ ys)) (bit_at ys) from at n (λ k l. ap (bit_at (xs ++ ys)) (ap (λ m. m + k) e ∙ add_assoc (8 * length xs) at k) ∙ bit_right (at + k))

  -- ---- records

  abbrev measurement : ℕ → ℕ → ℕ → ℕ → Measurement
  measurement a b number strength = record { a = a; b = b; number = number; strength = strength }

  pub record_left : (i : ℕ) → i < record_count xs → measurement_at (xs ++ ys) i ≡ measurement_at xs i
  unfolding measurement_at
  record_left i h =
      let at : ℕ = 8 * (record_bytes * i) in
      let a = run_left at 8 (omega arith) in
      let b = run_left (at + 8) 8 (omega arith) in
      let c = run_left (at + 16) 16 (omega arith) in
      let d = run_left (at + 32) 8 (omega arith) in
      λ j. measurement (a j) (b j) (c j) (d j)

  pub record_right : Whole xs → (i : ℕ) → measurement_at (xs ++ ys) (record_count xs + i) ≡ measurement_at ys i
  unfolding measurement_at
  record_right w i =
      let to : ℕ = 8 * (record_bytes * (record_count xs + i)) in
      let at : ℕ = 8 * (record_bytes * i) in
      let a = run_right to at 8 (omega arith) in
      let b = run_right (to + 8) (at + 8) 8 (omega arith) in
      let c = run_right (to + 16) (at + 16) 16 (omega arith) in
      let d = run_right (to + 32) (at + 32) 8 (omega arith) in
      λ j. measurement (a j) (b j) (c j) (d j)

  pub count_append : Whole xs → record_count (xs ++ ys) ≡ record_count xs + record_count ys
  count_append w = omega (arith, length-append xs ys)
