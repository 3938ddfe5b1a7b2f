-- Entries laid out in a row of numbers and read back. Assumes nothing.
use mathlib.Core.Bool.{false}
use mathlib.Core.List.{◌++◌, [], List, ◌∷◌}
use mathlib.Core.Path.{ap, refl, ◌∙◌, ◌≡◌}
use Prim.Native.Nat.{◌*◌, ◌+◌, ◌-◌, ◌<◌, suc, zero, ℕ, ◌≤◌}
use native.Mathlib.Nat.{le_of_suc-le-suc, not-suc-le-zero}
use native.Mathlib.Omega.{arith}
use borrow.Author.Tests.{ne_eqb}
use lib.ListN.{drop, get_or, length, take}
use lib.Seq.{get_or-drop}
use Rattle.arith.proofs.Tests.{eqb_same}
use Rattle.arith.specs.Rank.{before}
use Rattle.topk.specs.Entries.{Entry, entry, ranks_before, flat, last_or, stops, entries_of}

-- reading entries back
pub length-entries_of : (m : ℕ) (E : List ℕ) → length (entries_of m E) ≡ m
unfolding entries_of
length-entries_of zero E = refl
length-entries_of (suc m) E = ap suc (length-entries_of m (drop 2 E))

pub get_or-entries_of : (m i : ℕ) (E : List ℕ) → i < m → get_or (entries_of m E) i (entry 0 0) ≡ entry (get_or E (2 * i) 0) (get_or E (2 * i + 1) 0)
unfolding entries_of
get_or-entries_of zero i E h = absurd (not-suc-le-zero h)
get_or-entries_of (suc m) zero E h = refl
get_or-entries_of (suc m) (suc i) E h =
    let a : 2 + 2 * i ≡ 2 * suc i = omega arith in
    let b : 2 + (2 * i + 1) ≡ 2 * suc i + 1 = omega arith in
    get_or-entries_of m i (drop 2 E) (le_of_suc-le-suc h) ∙ rw (get_or-drop 2 E (2 * i) 0, get_or-drop 2 E (2 * i + 1) 0, a, b)

two_suc : (n : ℕ) → 2 * suc n ≡ suc (suc (2 * n))
two_suc n = omega arith

pub flat_append : (xs ys : List Entry) → flat (xs ++ ys) ≡ flat xs ++ flat ys
flat_append [] ys = refl
flat_append (x ∷ xs) ys = rw (flat_append xs ys)

pub length_flat : (xs : List Entry) → length (flat xs) ≡ 2 * length xs
length_flat [] = refl
length_flat (x ∷ xs) = rw (two_suc, length_flat xs)

pub flat-take : (a : ℕ) (xs : List Entry) → take (2 * a) (flat xs) ≡ flat (take a xs)
flat-take zero xs = refl
flat-take (suc a) [] = rw two_suc
flat-take (suc a) (x ∷ xs) = rw (two_suc, flat-take a xs)

pub flat-drop : (a : ℕ) (xs : List Entry) → drop (2 * a) (flat xs) ≡ flat (drop a xs)
flat-drop zero xs = refl
flat-drop (suc a) [] = rw two_suc
flat-drop (suc a) (x ∷ xs) = rw (two_suc, flat-drop a xs)

pub entries_flat : (m : ℕ) (E : List ℕ) → 2 * m ≤ length E → flat (entries_of m E) ++ drop (2 * m) E ≡ E
unfolding entries_of
entries_flat zero E h = refl
entries_flat (suc m) [] h = absurd (omega arith)
entries_flat (suc m) (x ∷ []) h = absurd (omega arith)
entries_flat (suc m) (x ∷ y ∷ E) h =
    let l : 2 * m ≤ length E = omega arith in
    rw two_suc (ap {B = List ℕ} (λ r. x ∷ y ∷ r) (entries_flat m E l))

pub entries_of_flat : (xs : List Entry) (R : List ℕ) → entries_of (length xs) (flat xs ++ R) ≡ xs
unfolding entries_of
entries_of_flat [] R = refl
entries_of_flat (x ∷ xs) R = rw (entries_of_flat xs R)

-- the last entry, by its index
pub last_is : (d : Entry) (xs : List Entry) → get_or xs (length xs - 1) d ≡ last_or d xs
last_is d [] = refl
last_is d (x ∷ []) = refl
last_is d (x ∷ y ∷ ys) =
    let a : suc (suc (length ys)) - 1 ≡ suc (length ys) = omega arith in
    let b : length ys ≡ suc (length ys) - 1 = omega arith in
    rw (a, b) (last_is d (y ∷ ys))

-- `stops`, of entries in a buffer
pub stops_full : (m : ℕ) (E : List ℕ) (e : Entry) → 0 < m
    → stops m e (entries_of m E) ≡ before (get_or E (2 * (m - 1) + 1) 0) (get_or E (2 * (m - 1)) 0) e.figure e.node
unfolding stops ranks_before
stops_full m E e h =
    let l : m - 1 < m = omega arith in
    rw (← last_is (entry 0 0) (entries_of m E), length-entries_of m E, eqb_same m, get_or-entries_of m (m - 1) E l)

pub stops-not : (k m : ℕ) (E : List ℕ) (e : Entry) → (m ≡ k → ⊥) → stops k e (entries_of m E) ≡ false
unfolding stops
stops-not k m E e h = rw (length-entries_of m E, ne_eqb m k h)
