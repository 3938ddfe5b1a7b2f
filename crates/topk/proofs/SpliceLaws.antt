-- Two numbers spliced into a buffer whose numbers are moved on, and what that makes of the entries. Assumes nothing.
use mathlib.Core.List.{◌++◌, [], append_assoc, List, ◌∷◌}
use mathlib.Core.Path.{ap, sym, ◌∙◌, ◌≡◌}
use Prim.Native.Nat.{◌*◌, ◌+◌, ◌-◌, ◌<◌, min, suc, ℕ, ◌≤◌}
use native.Mathlib.Decide.{dec_le}
use native.Mathlib.Numerals.{add-one}
use native.Mathlib.Omega.{arith}
use lib.ListN.{drop, length, length-append, set, take, take-append-drop}
use Rattle.std.specs.List.{copy_within}
use lib.Seq.{paste, drop-append-le, drop_at, length-take-le, sets-eq, take_all, take-append-add, take-append-le, take_at, take-length, take-take}
use Rattle.topk.proofs.LayoutLaws.{entries_flat, flat_append, flat-drop, flat-take, length-entries_of, length_flat}
use Rattle.topk.proofs.PlaceLaws.{keep_put, length_put_in, place_le, put_in}
use Rattle.topk.proofs.Sort.{length_keep}
use Rattle.topk.specs.Entries.{Entry, flat, keep, entries_of}
use Rattle.topk.specs.Inside.Layout.{entry_put_in, Kept, mixed, place, spliced}

-- numbers moved on by two

moved : (E : List ℕ) (s t : ℕ) → s ≤ t → paste E (s + 2) (drop s E) (t - s) ≡ take (s + 2) E ++ (take (t - s) (drop s E) ++ drop (t + 2) E)
moved E s t h = let e : s + 2 + (t - s) ≡ t + 2 = omega arith in rw (e, append_assoc)

module _ (E : List ℕ) (s p f : ℕ) where
  -- a node and its figure put where numbers were moved on from
  moved_put : (t : ℕ) → s ≤ t → t + 2 ≤ length E → set (set (paste E (s + 2) (drop s E) (t - s)) s p) (s + 1) f ≡ mixed (spliced E s p f) E (t + 2)
  unfolding spliced
  moved_put t h l =
      let R = take (t - s) (drop s E) ++ drop (t + 2) E in
      let M = take (s + 2) E ++ R in
      let w : length (take (s + 2) E) ≡ s + 2 = length-take-le (s + 2) E (omega arith) in
      let n : s + 2 ≤ length M = rw length-append (omega arith) in
      let front : take s M ≡ take s E = take-append-le s (take (s + 2) E) R (omega arith) ∙ take-take s (s + 2) E (omega arith) in
      let back : drop (s + 2) M ≡ R = drop_at (take (s + 2) E) R (s + 2) w in
      let q : t + 2 ≡ length (take s E) + suc (suc (t - s)) = omega (arith, length-take-le s E (omega arith)) in
      rw (moved E s t h, add-one s)
      (sets-eq (p ∷ f ∷ []) M s n
      ∙ rw (front, back, append_assoc)
      (sym (ap (λ z. z ++ drop (t + 2) E) (ap (λ m. take m (spliced E s p f)) q ∙ take-append-add (take s E) (p ∷ f ∷ drop s E) (suc (suc (t - s))))
      ∙ append_assoc (take s E) (p ∷ f ∷ take (t - s) (drop s E)) (drop (t + 2) E))))

  spliced_before : s ≤ length E → mixed (spliced E s p f) E s ≡ E
  unfolding spliced
  spliced_before h = rw (take_at (take s E) (p ∷ f ∷ drop s E) s (length-take-le s E h)) (take-append-drop s E)

-- an entry put in at a place, of r entries then
module _ (E : List ℕ) (a : ℕ) (e : Entry) (r : ℕ) where
  -- where the entries from there on were moved on
  pub put_among : a < r → 2 * r ≤ length E
      → set (set (copy_within E (2 * a) (2 * r - 2) (2 * a + 2)) (2 * a) e.node) (2 * a + 1) e.figure ≡ entry_put_in E a e r
  put_among h l =
      let t : 2 * r - 2 + 2 ≡ 2 * r = omega arith in
      moved_put E (2 * a) e.node e.figure (2 * r - 2) (omega arith) (omega arith) ∙ ap (mixed (spliced E (2 * a) e.node e.figure) E) t

  -- past the last nothing changes
  pub put_past : a ≡ r → 2 * r ≤ length E → E ≡ entry_put_in E a e r
  put_past q l =
      let h : 2 * a ≤ length E = omega arith in
      sym (spliced_before E (2 * a) e.node e.figure h) ∙ ap (λ (m : ℕ). entry_put_in E a e m) q

take_min : (k : ℕ) (xs : List Entry) → take (min (length xs) k) xs ≡ take k xs
take_min k xs = elim (dec_le k (length xs)) [
  | yes h ↦ let e : min (length xs) k ≡ k = omega arith in rw e
  | no h ↦ let e : min (length xs) k ≡ length xs = omega arith in rw (e, take-length) (sym (take_all k xs (omega arith)))
]

-- the buffer with the entry spliced in at its place
module _ (m : ℕ) (E : List ℕ) (e : Entry) (room : 2 * m ≤ length E) where
  abbrev xs : List Entry
  xs = entries_of m E

  abbrev R : List ℕ
  R = drop (2 * m) E

  spliced_flat : spliced E (2 * place e xs) e.node e.figure ≡ flat (put_in e xs) ++ R
  unfolding spliced
  spliced_flat =
      let a : ℕ = place e xs in
      let l : 2 * a ≤ length (flat xs) = rw length_flat (omega (arith, place_le e xs)) in
      let t : take (2 * a) E ≡ flat (take a xs) = ap (take (2 * a)) (sym (entries_flat m E room)) ∙ take-append-le (2 * a) (flat xs) R l ∙ flat-take a xs in
      let d : drop (2 * a) E ≡ flat (drop a xs) ++ R =
      ap (drop (2 * a)) (sym (entries_flat m E room)) ∙ drop-append-le (2 * a) (flat xs) R l ∙ ap (λ (z : List ℕ). z ++ R) (flat-drop a xs) in
      rw (t, d, flat_append (take a xs) (e ∷ drop a xs), append_assoc)

  pub kept_law : (k r : ℕ) (E' : List ℕ) → r ≡ min (m + 1) k
      → E' ≡ entry_put_in E (place e xs) e r → Kept (keep k e xs) E E' r
  kept_law k r E' hr hE =
      let n : length (put_in e xs) ≡ m + 1 = length_put_in e xs ∙ rw length-entries_of in
      let c : r ≡ length (keep k e xs) = hr ∙ rw (length_keep k e xs, length-entries_of) in
      let l : 2 * r ≤ length (flat (put_in e xs)) = rw (length_flat (put_in e xs), n, hr) (omega arith) in
      let t : take r (put_in e xs) ≡ take k (put_in e xs) = rw (hr, ← n) (take_min k (put_in e xs)) in
      record {
        count = c;
        entries = hE ∙ rw (spliced_flat, take-append-le (2 * r) (flat (put_in e xs)) R l, flat-take r (put_in e xs))
            (rw (t, length_flat (keep k e xs), ← c, keep_put k e xs));
      }
