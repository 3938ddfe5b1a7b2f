-- The laws of a pass over the records, and of the first minute at which a pair differs. Assumes nothing.
use mathlib.Core.Bool.{Bool, false, ◌||◌}
use mathlib.Core.List.{List}
use mathlib.Core.Logic.{inl, inr}
use mathlib.Core.Path.{ap, refl, sym, ◌∙◌, ◌≡◌}
use Prim.Native.Nat.{◌+◌, min, suc, zero, ℕ, ◌≤◌}
use native.Mathlib.Nat.{le_refl}
use native.Mathlib.Omega.{arith}
use native.Mathlib.Numerals.{add-one}
use lib.ListN.{length, length-set}
use Rattle.arith.proofs.Tests.{test}
use Rattle.arith.specs.Sums.{any_to}
use Rattle.schedule.proofs.PlaceLaws.{lengthened-not, lengthened_so}
use Rattle.schedule.specs.Schedule.{opening_at}
use Rattle.schedule.specs.declared.records.Opening.{Opening}
use Rattle.std.proofs.Common.{None, Option, Some, unwrap_or}
use Rattle.schedule.specs.declared.change.Scope.{Scope}
use Rattle.schedule.specs.Inside.Until.{changed_by, changed_to, changes_at, lengthened, lengthens, moved_to, pass_to, place_of}

length_lengthened : (w : Scope) (until : List ℕ) (r : Opening) → length (lengthened w until r) ≡ length until
length_lengthened w until r = elim (test (lengthens w until r)) [
  | inl e ↦ ap length (sym (lengthened_so w until r e)) ∙ length-set until (place_of w r) r.to
  | inr e ↦ ap length (sym (lengthened-not w until r e))
]

module _ (schedule : List ℕ) (w : Scope) (until : List ℕ) where
  pub pass_none : until ≡ pass_to schedule w until 0
  unfolding pass_to
  pass_none = refl

  pub moved_none : false ≡ moved_to schedule w until 0
  unfolding moved_to any_to
  moved_none = refl

  pub length_pass : (k : ℕ) → length (pass_to schedule w until k) ≡ length until
  unfolding pass_to
  length_pass zero = refl
  length_pass (suc k) = length_lengthened w (pass_to schedule w until k) (opening_at schedule k) ∙ length_pass k

  -- a turn with record i
  module _ (i : ℕ) {r : Opening} (is : r ≡ opening_at schedule i) where
    pub pass_more : {now next : List ℕ} → now ≡ pass_to schedule w until i → next ≡ lengthened w now r → next ≡ pass_to schedule w until (i + 1)
    unfolding pass_to
    pass_more e f = rw (add-one, ← is, ← e) f

    pub moved_more : {now : List ℕ} {so was next : Bool} → now ≡ pass_to schedule w until i → so ≡ lengthens w now r → was ≡ moved_to schedule w until i
        → next ≡ was || so → next ≡ moved_to schedule w until (i + 1)
    unfolding moved_to any_to
    moved_more e l m n = rw (add-one, ← is, ← e, ← l, ← m) n

-- the first of the minutes at which pairs differ
module _ (schedule : List ℕ) (w : Scope) (until : List ℕ) where
  pub changed_none : w.limit ≡ changed_to schedule w until 0
  unfolding changed_to
  changed_none = refl

  pub changed_most : (k : ℕ) → changed_to schedule w until k ≤ w.limit
  unfolding changed_to
  changed_most zero = le_refl w.limit
  changed_most (suc i) = omega (arith, changed_most i)

  module _ (i : ℕ) {r : Opening} {o : Option ℕ} (is : r ≡ opening_at schedule i) (b : o ≡ changes_at w until r) where
    its : {p : Option ℕ} → o ≡ p → changed_by w until (opening_at schedule i) ≡ unwrap_or p w.limit
    unfolding changed_by
    its q = ap (λ r. unwrap_or (changes_at w until r) w.limit) (sym is) ∙ ap (λ p. unwrap_or p w.limit) (sym b ∙ q)

    module _ {was first : ℕ} (e : was ≡ changed_to schedule w until i) where
      pub changed_once : {m : ℕ} → o ≡ Some m → first ≡ min was m → first ≡ changed_to schedule w until (i + 1)
      unfolding changed_to
      changed_once q f = rw (add-one, its q, ← e) f

      pub changed_still : o ≡ None → first ≡ was → first ≡ changed_to schedule w until (i + 1)
      unfolding changed_to
      changed_still q f = rw (add-one, its q, ← e) (omega (arith, changed_most i))
