-- A list in an array of m places: its first m elements, and 0 past its end. Assumes nothing.
use mathlib.Core.List.{◌++◌, [], append_assoc, append-nil, List, ◌∷◌}
use mathlib.Core.Path.{ap, refl, sym, ◌∙◌, ◌≡◌}
use Prim.Native.Nat.{◌+◌, ◌<◌, suc, ℕ, ◌≤◌}
use native.Mathlib.Decide.{dec_lt}
use native.Mathlib.Nat.{add-suc, add-zero, suc-add}
use native.Mathlib.Numerals.{add-one}
use native.Mathlib.Omega.{arith}
use lib.ListN.{get_or, length, length-append, length-set, get_or-append, get_or-eq_default, replicate, set}
use lib.Seq.{ext_get_or, get_or_at, get_or-set_other, get_or-set_same, length-sets, set_out, sets}
use Rattle.arith.proofs.Sums.{get_d_tabulate, length_tabulate, tabulate_ext, tabulate_is, tabulate_same}
use Rattle.arith.specs.Sums.{tabulate}
use Rattle.arith.specs.Inside.Fill.{padded}

pub length_padded : (m : ℕ) (xs : List ℕ) → length (padded m xs) ≡ m
unfolding padded
length_padded m xs = length_tabulate (λ i. get_or xs i 0) m

pub get_or_padded : (m : ℕ) (xs : List ℕ) (i : ℕ) → i < m → get_or (padded m xs) i 0 ≡ get_or xs i 0
unfolding padded
get_or_padded m xs i h = get_d_tabulate (λ i. get_or xs i 0) m i 0 h

pub padded_none : (m : ℕ) → replicate m 0 ≡ padded m []
unfolding padded
padded_none m = sym (tabulate_same 0 m)

-- one element more
pub padded_push : (m : ℕ) (xs : List ℕ) (x : ℕ) {n : ℕ} → n ≡ length xs → n < m → set (padded m xs) n x ≡ padded m (xs ++ x ∷ [])
padded_push m xs x {n} e h =
    let long = length_padded m xs in
    ext_get_or 0 (set (padded m xs) n x) (padded m (xs ++ x ∷ [])) (length-set (padded m xs) n x ∙ long ∙ sym (length_padded m (xs ++ x ∷ []))) (λ i b.
    let l : i < m = omega (arith, length-set (padded m xs) n x) in
    place i l ∙ sym (get_or_padded m (xs ++ x ∷ []) i l))
  where
    place : (i : ℕ) → i < m → get_or (set (padded m xs) n x) i 0 ≡ get_or (xs ++ x ∷ []) i 0
    place i l = elim (dec_lt i n) [
      | yes b ↦ get_or-set_other (padded m xs) n i x 0 (λ q. omega arith) ∙ get_or_padded m xs i l ∙ sym (get_or-append xs (x ∷ []) 0 i (omega arith))
      | no b ↦ elim (dec_lt n i) [
        | yes a ↦ get_or-set_other (padded m xs) n i x 0 (λ q. omega arith) ∙ get_or_padded m xs i l ∙ get_or-eq_default xs 0 (omega arith)
            ∙ sym (get_or-eq_default (xs ++ x ∷ []) 0 (omega (arith, length-append xs (x ∷ []))))
        | no a ↦ let q : i ≡ n = omega arith in rw q (get_or-set_same (padded m xs) n x 0 (omega (arith, length_padded m xs)) ∙ sym (get_or_at xs x [] 0 n (sym e)))
      ]
    ]

-- no place is left for what comes after
pub padded_full : (m : ℕ) (xs ys : List ℕ) → m ≤ length xs → padded m xs ≡ padded m (xs ++ ys)
unfolding padded
padded_full m xs ys h = tabulate_ext (λ i. get_or xs i 0) (λ i. get_or (xs ++ ys) i 0) m (λ i l. sym (get_or-append xs ys 0 i (omega arith)))

-- the first elements, one by one, and all of them
pub padded_more : (m : ℕ) (xs : List ℕ) → padded (m + 1) xs ≡ padded m xs ++ get_or xs m 0 ∷ []
unfolding padded tabulate
padded_more m xs = ap (tabulate (λ i. get_or xs i 0)) (add-one m)

pub padded_all : (m : ℕ) (xs : List ℕ) → length xs ≤ m → padded (length xs) (padded m xs) ≡ xs
unfolding padded
padded_all m xs h = sym (tabulate_is (λ i. get_or (padded m xs) i 0) 0 xs (λ i l. sym (get_or_padded m xs i (omega arith))))

-- ---- elements stored one after the other, as far as there is room

module _ {A : Type 0} where
  pub sets_append : (l : List A) (i : ℕ) (xs ys : List A) → sets (sets l i xs) (i + length xs) ys ≡ sets l i (xs ++ ys)
  sets_append l i [] ys = ap (λ j. sets l j ys) (add-zero i)
  sets_append l i (x ∷ xs) ys = ap (λ j. sets (sets (set l i x) (suc i) xs) j ys) (add-suc i (length xs) ∙ sym (suc-add i (length xs)))
      ∙ sets_append (set l i x) (suc i) xs ys

  -- where the place is past the end, nothing is stored
  pub sets_past : (l : List A) (i : ℕ) (xs : List A) (x : A) → length l ≤ i + length xs → sets l i (xs ++ x ∷ []) ≡ sets l i xs
  sets_past l i xs x h = sym (sets_append l i xs (x ∷ [])) ∙ set_out (sets l i xs) (i + length xs) x (omega (arith, length-sets l i xs))

pub sets_padded : (m : ℕ) (xs ys : List ℕ) → sets (padded m xs) (length xs) ys ≡ padded m (xs ++ ys)
sets_padded m xs [] = ap (padded m) (sym (append-nil xs))
sets_padded m xs (y ∷ ys) =
    let more = length-append xs (y ∷ []) in
    ap (λ l. sets l (suc (length xs)) ys) (stored (dec_lt (length xs) m)) ∙ ap (λ j. sets (padded m (xs ++ y ∷ [])) j ys) (omega (arith, more))
    ∙ sets_padded m (xs ++ y ∷ []) ys ∙ ap (padded m) (append_assoc xs (y ∷ []) ys)
  where
    stored : Dec (length xs < m) → set (padded m xs) (length xs) y ≡ padded m (xs ++ y ∷ [])
    stored (yes h) = padded_push m xs y refl h
    stored (no h) = set_out (padded m xs) (length xs) y (omega (arith, length_padded m xs)) ∙ padded_full m xs (y ∷ []) (omega arith)
