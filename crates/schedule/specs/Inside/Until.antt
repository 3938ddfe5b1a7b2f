-- How long the pairs that are linked at a minute stay so: a minute for each pair of a window of their numbers. Assumes nothing.
use Rattle.std.specs.Prelude.{Bool, true, false, cond, ◌&&◌, List, Option, Some, None, unwrap_or, ◌≡◌, ℕ, zero, suc, ◌+◌, ◌≤◌, ◌<◌, min, ltb, length, get_or, set}
use Rattle.arith.specs.Sums.{any_to}
use Rattle.packed.specs.Inside.Windows.{place_in, placed, window}
use Rattle.schedule.specs.Change.{first_differing, minutes}
use Rattle.schedule.specs.Schedule.{open_at, opening_at}
use Rattle.schedule.specs.declared.change.Scope.{Scope}
use Rattle.schedule.specs.declared.records.Opening.{Opening}
use Rattle.schedule.specs.Inside.Numbers.{linked_no, number_of}

-- a record has minutes after the scope's minute and before its limit
unfoldable pub within : Scope → Opening → Bool
within w r = ltb w.minute r.to && ltb r.from w.limit

-- the place of a record's pair in the window, and `window` where the record is not looked at
unfoldable pub place_of : Scope → Opening → ℕ
place_of w r = cond (within w r) (place_in w.start (number_of r)) window

-- that place, if the record is looked at
unfoldable pub placed_of : Scope → Opening → Option ℕ
placed_of w r = cond (within w r) (placed w.start (number_of r)) None

-- a record makes its pair last longer: it is open at the pair's minute
unfoldable pub lengthens : Scope → List ℕ → Opening → Bool
lengthens w until r = ltb (place_of w r) window && open_at r (get_or until (place_of w r) 0)

-- the pair then lasts up to the record's `to`
unfoldable pub lengthened : Scope → List ℕ → Opening → List ℕ
lengthened w until r = cond (lengthens w until r) (set until (place_of w r) r.to) until

-- so for the first k records, one after the other; and whether one of them did so
unfoldable pub pass_to : List ℕ → Scope → List ℕ → ℕ → List ℕ
pass_to schedule w until zero = until
pass_to schedule w until (suc i) = lengthened w (pass_to schedule w until i) (opening_at schedule i)

unfoldable pub moved_to : List ℕ → Scope → List ℕ → ℕ → Bool
moved_to schedule w until k = any_to (λ i. lengthens w (pass_to schedule w until i) (opening_at schedule i)) k

-- each pair is linked from the scope's minute on, up to its own,
pub record Lasts (schedule : List ℕ) (w : Scope) (until : List ℕ) : Type 0 where
  pub long : length until ≡ window
  pub begun : (k : ℕ) → k < window → w.minute ≤ get_or until k 0
  pub fits : (k : ℕ) → k < window → get_or until k 0 < minutes
  pub linked : (k : ℕ) → k < window → (m : ℕ) → w.minute ≤ m → m < get_or until k 0 → linked_no schedule m (w.start + k) ≡ true

-- and the first n records do not make it last longer
abbrev pub Rests : List ℕ → Scope → List ℕ → ℕ → Type 0
Rests schedule w until n = (i : ℕ) → i < n → lengthens w until (opening_at schedule i) ≡ false

-- the minute at which a record's pair first differs from its state at the scope's minute, as far as the record tells, if the record is looked at: where the
-- pair is linked then, the minute up to which it lasts, and elsewhere the record's `from`
unfoldable pub changes_at : Scope → List ℕ → Opening → Option ℕ
changes_at w until r =
    let last : ℕ = get_or until (place_of w r) 0 in
    cond (ltb (place_of w r) window) (Some (cond (ltb w.minute last) last r.from)) None

-- that minute, and the limit where the record is not looked at
unfoldable pub changed_by : Scope → List ℕ → Opening → ℕ
changed_by w until r = unwrap_or (changes_at w until r) w.limit

-- the first of these minutes, of the first k records
unfoldable pub changed_to : List ℕ → Scope → List ℕ → ℕ → ℕ
changed_to schedule w until zero = w.limit
changed_to schedule w until (suc i) = min (changed_to schedule w until i) (changed_by w until (opening_at schedule i))

-- ---- of all windows

-- the first minute after t at which a link differs, if there is one
unfoldable pub change_at : List ℕ → ℕ → Option ℕ
change_at schedule t = let m : ℕ = first_differing schedule t in cond (ltb m minutes) (Some m) None
