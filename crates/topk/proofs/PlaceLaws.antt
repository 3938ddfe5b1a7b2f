-- The place of an entry in a list. Assumes nothing.
use mathlib.Core.Bool.{Bool, false, not, true}
use mathlib.Core.List.{◌++◌, [], List, ◌∷◌}
use mathlib.Core.Logic.{inl, inr}
use mathlib.Core.Path.{ap, refl, sym, ◌∙◌, ◌≡◌}
use Prim.Native.Nat.{◌*◌, ◌+◌, ◌-◌, ◌/◌, ◌<◌, suc, suc-le-suc, zero, zero-le, ℕ, ◌≤◌}
use native.Mathlib.Decide.{dec_lt}
use native.Mathlib.Nat.{le_of_suc-le-suc, le_refl, not-suc-le-zero}
use native.Mathlib.Omega.{arith}
use lib.ListN.{drop, get_or, length, length-append, length-drop, length-take, take}
use lib.Seq.{get_or-drop, get_or-take}
use Rattle.std.specs.List.Sorted.{IsPartitionedBy, IsPartitionPoint}
use Rattle.std.specs.Simd.{first_chunks}
use Rattle.arith.proofs.Tests.{test}
use Rattle.topk.proofs.LayoutLaws.{get_or-entries_of, length-entries_of}
use Rattle.topk.proofs.Order.{Ahead, Behind, behind_behind}
use Rattle.topk.proofs.Sort.{All_at}
use Rattle.topk.specs.Entries.{Entry, entry, ranks_before, insert, keep, entries_of}
use Rattle.topk.specs.Inside.Layout.{Ordered, place}

-- the place of e, by one entry that it is held against

place_most : (e : Entry) (xs : List Entry) (i : ℕ) → i < length xs → Ahead e (get_or xs i (entry 0 0)) → place e xs ≤ i
unfolding place
place_most e [] i h t = zero-le
place_most e (x ∷ xs) zero h t = rw t zero-le
place_most e (x ∷ xs) (suc i) h t = elim (test (ranks_before e x)) [
  | inl u ↦ rw u zero-le
  | inr u ↦ rw u (suc-le-suc (place_most e xs i (le_of_suc-le-suc h) t))
]

place_least : (e : Entry) (xs : List Entry) → Ordered xs → (i : ℕ) → i < length xs → Behind e (get_or xs i (entry 0 0)) → i < place e xs
unfolding place
place_least e [] o i h t = absurd (not-suc-le-zero h)
place_least e (x ∷ xs) o zero h t = rw t (suc-le-suc zero-le)
place_least e (x ∷ xs) o (suc i) h t =
    let l = le_of_suc-le-suc h in
    let y = get_or xs i (entry 0 0) in
    let u : ranks_before e x ≡ false = behind_behind x y e (All_at (λ z. Behind z x) xs i (entry 0 0) l o.0) t in
    rw u (suc-le-suc (place_least e xs o.1 i l t))

pub place_le : (e : Entry) (xs : List Entry) → place e xs ≤ length xs
unfolding place
place_le e [] = zero-le
place_le e (x ∷ xs) = elim (test (ranks_before e x)) [ inl t ↦ rw t zero-le | inr t ↦ rw t (suc-le-suc (place_le e xs)) ]

-- the entries that e does not rank before stand at the front
pub ordered_front : (e : Entry) (xs : List Entry) → Ordered xs → (i j : ℕ) → i ≤ j → j < length xs → Behind e (get_or xs j (entry 0 0))
    → Behind e (get_or xs i (entry 0 0))
ordered_front e [] o i j h l t = absurd (not-suc-le-zero l)
ordered_front e (x ∷ xs) o zero zero h l t = t
ordered_front e (x ∷ xs) o zero (suc j) h l t =
    let m = le_of_suc-le-suc l in
    behind_behind x (get_or xs j (entry 0 0)) e (All_at (λ z. Behind z x) xs j (entry 0 0) m o.0) t
ordered_front e (x ∷ xs) o (suc i) zero h l t = absurd (not-suc-le-zero h)
ordered_front e (x ∷ xs) o (suc i) (suc j) h l t = ordered_front e xs o.1 i j (le_of_suc-le-suc h) (le_of_suc-le-suc l) t

-- so where they end is the place of e
pub place_is : (e : Entry) (xs : List Entry) (r : ℕ) → Ordered xs → r ≤ length xs → ((i : ℕ) → i < r → Behind e (get_or xs i (entry 0 0)))
    → ((i : ℕ) → r ≤ i → i < length xs → Ahead e (get_or xs i (entry 0 0))) → r ≡ place e xs
place_is e xs r o l front back =
    let low : r ≤ place e xs = elim (dec_lt 0 r) [
      | yes h ↦ let g = place_least e xs o (r - 1) (omega arith) (front (r - 1) (omega arith)) in omega arith
      | no h ↦ omega arith
    ] in
    let high : place e xs ≤ r = elim (dec_lt r (length xs)) [
      | yes h ↦ place_most e xs r h (back r (le_refl r) h)
      | no h ↦ omega (arith, place_le e xs)
    ] in
    omega arith

-- ---- numbers in rows of two

-- the entry of a row
abbrev pub row_entry : List ℕ → Entry
row_entry row = entry (get_or row 0 0) (get_or row 1 0)

-- e does not rank before it
abbrev pub passes : Entry → List ℕ → Bool
passes e row = not (ranks_before e (row_entry row))

not_true : (b : Bool) → not b ≡ true → b ≡ false
not_true true e = cc
not_true false e = refl

not_false : (b : Bool) → not b ≡ false → b ≡ true
not_false true e = refl
not_false false e = cc

-- row i is entry i
row_at : (q : ℕ) (E : List ℕ) (i : ℕ) (d : List ℕ) → i < q → row_entry (get_or (first_chunks 2 q E) i d) ≡ entry (get_or E (2 * i) 0) (get_or E (2 * i + 1) 0)
row_at zero E i d h = absurd (not-suc-le-zero h)
row_at (suc q) E zero d h = rw (get_or-take 2 E 0 0 (omega arith), get_or-take 2 E 1 0 (omega arith))
row_at (suc q) E (suc i) d h =
    let a : 2 + 2 * i ≡ 2 * suc i = omega arith in
    let b : 2 + (2 * i + 1) ≡ 2 * suc i + 1 = omega arith in
    row_at q (drop 2 E) i d (le_of_suc-le-suc h) ∙ rw (get_or-drop 2 E (2 * i) 0, get_or-drop 2 E (2 * i + 1) 0, a, b)

row_count : (q : ℕ) (E : List ℕ) → length (first_chunks 2 q E) ≡ q
row_count zero E = refl
row_count (suc q) E = ap suc (row_count q (drop 2 E))

-- the rows of m entries in order, cut where e goes
module _ (e : Entry) (m : ℕ) (E : List ℕ) (room : 2 * m ≤ length E) (o : Ordered (entries_of m E)) {R : List (List ℕ)}
    (is : R ≡ take m (first_chunks 2 (length E / 2) E)) where
  abbrev xs : List Entry
  xs = entries_of m E

  many : length R ≡ m
  many = omega (arith, ap length is, length-take m (first_chunks 2 (length E / 2) E), row_count (length E / 2) E)

  same : (i : ℕ) (d : List ℕ) → i < m → ranks_before e (row_entry (get_or R i d)) ≡ ranks_before e (get_or xs i (entry 0 0))
  same i d h =
      ap (λ (rows : List (List ℕ)). ranks_before e (row_entry (get_or rows i d))) is
      ∙ ap (λ (row : List ℕ). ranks_before e (row_entry row)) (get_or-take m (first_chunks 2 (length E / 2) E) i d h)
      ∙ ap (ranks_before e) (row_at (length E / 2) E i d (omega arith) ∙ sym (get_or-entries_of m i E h))

  pub rows_parted : IsPartitionedBy (passes e) R
  rows_parted i j d h l t =
      let n : j < m = omega (arith, many) in
      let front = ordered_front e xs o i j h (omega (arith, length-entries_of m E)) in
      ap not (same i d (omega arith) ∙ front (sym (same j d n) ∙ not_true _ t))

  pub rows_place : {r : ℕ} → r ≤ length R → IsPartitionPoint (λ y. passes e y ≡ true) (λ y. passes e y ≡ false) R r → r ≡ place e xs
  rows_place {r} l point =
      place_is e xs r o (omega (arith, many, length-entries_of m E))
      (λ i h. sym (same i [] (omega (arith, many))) ∙ not_true _ (point.0 i [] zero-le h))
      (λ i h g.
      let b : i < m = omega (arith, length-entries_of m E) in
      sym (same i [] b) ∙ not_false _ (point.1 i [] h (omega (arith, many))))

-- e put in at its place
abbrev pub put_in : Entry → List Entry → List Entry
put_in e xs = take (place e xs) xs ++ (e ∷ drop (place e xs) xs)

put_insert : (e : Entry) (xs : List Entry) → put_in e xs ≡ insert e xs
unfolding place insert
put_insert e [] = refl
put_insert e (x ∷ xs) = elim (test (ranks_before e x)) [ inl t ↦ rw t | inr t ↦ rw t (ap {B = List Entry} (λ r. x ∷ r) (put_insert e xs)) ]

pub keep_put : (k : ℕ) (e : Entry) (xs : List Entry) → keep k e xs ≡ take k (put_in e xs)
unfolding keep
keep_put k e xs = ap (take k) (sym (put_insert e xs))

pub length_put_in : (e : Entry) (xs : List Entry) → length (put_in e xs) ≡ length xs + 1
length_put_in e xs = simp (length-append, length-take, length-drop) (omega (arith, place_le e xs))
