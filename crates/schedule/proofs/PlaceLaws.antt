-- The laws of a record's place in a window, and of what the record does to the minute of its pair there. Assumes nothing.
use mathlib.Core.Bool.{false, true}
use mathlib.Core.List.{List}
use mathlib.Core.Logic.{inl, inr, ◌⊎◌}
use mathlib.Core.Path.{ap, sym, ◌∙◌, ◌≡◌}
use Prim.Native.Nat.{◌+◌, ◌<◌, ℕ, ◌≤◌}
use native.Mathlib.Omega.{arith}
use borrow.Author.Tests.{le-ltb, lt-ltb, ltb-true}
use lib.Dec.{ltb}
use lib.ListN.{get_or, set}
use Rattle.arith.proofs.Tests.{and-false, and-true, test}
use Rattle.packed.proofs.WindowLaws.{place_in_lem, place-or as inside-or, placed_none, placed_some}
use Rattle.packed.specs.Inside.Windows.{placed as inside_of, window}
use Rattle.schedule.proofs.OpenLaws.{open_by, open_of, shut_after, shut_before}
use Rattle.schedule.specs.Schedule.{open_at}
use Rattle.schedule.specs.declared.records.Opening.{Opening}
use Rattle.schedule.specs.Inside.Numbers.{number_of}
use Rattle.std.proofs.Common.{None, Option, Some, unwrap_or}
use Rattle.std.proofs.lemmas.Option.{none-some}
use Rattle.schedule.specs.declared.change.Scope.{Scope}
use Rattle.schedule.specs.Inside.Until.{changed_by, changes_at, lengthened, lengthens, place_of, placed_of, within}

-- ---- the place

-- a record whose pair has a place in the window
pub record Placed (w : Scope) (r : Opening) : Type 0 where
  pub number : number_of r ≡ w.start + place_of w r
  pub inside : place_of w r < window
  pub late : w.minute < r.to

module _ (w : Scope) (r : Opening) where
  -- it is looked at, or its place is `window`
  place-or : Placed w r ⊎ (place_of w r ≡ window)
  unfolding place_of within
  place-or = elim (test (within w r)) [
    | inl e ↦ elim (inside-or w.start (number_of r)) [
      | inl i ↦ inl (record { number = rw e i.number; inside = rw e i.below; late = ltb-true _ _ (and-true (ltb w.minute r.to) _ e).0 })
      | inr o ↦ inr (rw e o)
    ]
    | inr e ↦ inr (rw e)
  ]

  pub placed : place_of w r < window → Placed w r
  placed h = elim place-or [ inl p ↦ p | inr e ↦ absurd (omega arith) ]

  -- a record that has no minutes there, and one that has some
  pub place_ended : r.to ≤ w.minute → ◌≡◌ {A = Option ℕ} None (placed_of w r)
  unfolding placed_of within
  place_ended h = rw (le-ltb w.minute r.to h)

  pub place_late : w.limit ≤ r.from → ◌≡◌ {A = Option ℕ} None (placed_of w r)
  unfolding placed_of within
  place_late l = rw (le-ltb r.from w.limit l, and-false (ltb w.minute r.to))

  pub place_looked : w.minute < r.to → r.from < w.limit → inside_of w.start (number_of r) ≡ placed_of w r
  unfolding placed_of within
  place_looked h l = rw (lt-ltb w.minute r.to h, lt-ltb r.from w.limit l)

  pub place_at : (k : ℕ) → k < window → number_of r ≡ w.start + k → w.minute < r.to → r.from < w.limit → k ≡ place_of w r
  unfolding place_of within
  place_at k h e late early =
      rw (lt-ltb w.minute r.to late, lt-ltb r.from w.limit early) (omega (arith, place_in_lem w.start (number_of r) (omega arith) (omega arith)))

-- from what `place` answers
module _ (w : Scope) (r : Opening) {o : Option ℕ} (e : o ≡ placed_of w r) where
  pub place_some : {k : ℕ} → o ≡ Some k → (k ≡ place_of w r) × (k < window)
  unfolding placed_of place_of
  place_some {k} f = elim (test (within w r)) [
    | inl t ↦ let s = placed_some w.start (number_of r) (rw t at e) f in (rw t (sym s.3), s.2)
    | inr t ↦ absurd (none-some k (sym (rw t at e) ∙ f))
  ]

  pub place_none : o ≡ None → place_of w r ≡ window
  unfolding placed_of place_of
  place_none f = elim (test (within w r)) [ inl t ↦ rw t (placed_none w.start (number_of r) (rw t at e) f) | inr t ↦ rw t ]

-- ---- what the record does there

-- it makes its pair last longer: it is open at the pair's minute
pub record Longer (w : Scope) (until : List ℕ) (r : Opening) : Type 0 where
  pub place : place_of w r < window
  pub begun : r.from ≤ get_or until (place_of w r) 0
  pub ends : get_or until (place_of w r) 0 < r.to

module _ (w : Scope) (until : List ℕ) (r : Opening) where
  pub longer_of : lengthens w until r ≡ true → Longer w until r
  unfolding lengthens
  longer_of e =
      let k = place_of w r in
      let b = and-true (ltb k window) (open_at r (get_or until k 0)) e in
      let o = open_of r (get_or until k 0) b.1 in
      record { place = ltb-true k window b.0; begun = o.0; ends = o.1 }

  -- the table after it
  pub lengthened_so : lengthens w until r ≡ true → set until (place_of w r) r.to ≡ lengthened w until r
  unfolding lengthened
  lengthened_so e = rw e

  pub lengthened-not : lengthens w until r ≡ false → until ≡ lengthened w until r
  unfolding lengthened
  lengthened-not e = rw e

  still : lengthens w until r ≡ false → (false ≡ lengthens w until r) × (until ≡ lengthened w until r)
  still e = (sym e, lengthened-not e)

  pub outside_still : place_of w r ≡ window → (false ≡ lengthens w until r) × (until ≡ lengthened w until r)
  unfolding lengthens
  outside_still e = still (rw e)

  pub outside_changes : place_of w r ≡ window → ◌≡◌ {A = Option ℕ} None (changes_at w until r)
  unfolding changes_at
  outside_changes e = rw e

  module _ {k : ℕ} (at : k ≡ place_of w r) where
    abbrev last : ℕ
    last = get_or until k 0

    module _ (h : k < window) where
      opens_longer : lengthens w until r ≡ open_at r last
      unfolding lengthens
      opens_longer = rw (← at, lt-ltb k window h)

      pub early_still : last < r.from → (false ≡ lengthens w until r) × (until ≡ lengthened w until r)
      early_still l = still (opens_longer ∙ shut_before r last l)

      pub late_still : r.to ≤ last → (false ≡ lengthens w until r) × (until ≡ lengthened w until r)
      late_still l = still (opens_longer ∙ shut_after r last l)

      pub open_moves : r.from ≤ last → last < r.to → (true ≡ lengthens w until r) × (set until k r.to ≡ lengthened w until r)
      open_moves b l = let e = opens_longer ∙ open_by r last b l in (sym e, rw at (lengthened_so e))

      -- the minute at which its pair first differs
      pub linked_at : w.minute < last → Some last ≡ changes_at w until r
      unfolding changes_at
      linked_at l = rw (← at, lt-ltb k window h, lt-ltb w.minute last l)

      pub unlinked_at : last ≤ w.minute → Some r.from ≡ changes_at w until r
      unfolding changes_at
      unlinked_at l = rw (← at, lt-ltb k window h, le-ltb w.minute last l)

      pub linked_changes : w.minute < last → last ≡ changed_by w until r
      unfolding changed_by
      linked_changes l = ap (λ o. unwrap_or o w.limit) (linked_at l)

      pub unlinked_changes : last ≤ w.minute → r.from ≡ changed_by w until r
      unfolding changed_by
      unlinked_changes l = ap (λ o. unwrap_or o w.limit) (unlinked_at l)

-- a record that tells of a minute before the limit is looked at
pub changes_placed : (w : Scope) (until : List ℕ) (r : Opening) → changed_by w until r < w.limit → Placed w r
unfolding changed_by
changes_placed w until r l = elim (place-or w r) [
  | inl p ↦ p
  | inr e ↦ absurd (omega (arith, ap (λ o. unwrap_or o w.limit) (outside_changes w until r e)))
]
