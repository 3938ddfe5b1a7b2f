-- The next change is the first minute after t at which a link differs, and there is none exactly if each stays as it is at t. Assumes nothing.
use mathlib.Core.Bool.{Bool, false, true, true≢false, ◌&&◌}
use mathlib.Core.List.{List}
use mathlib.Core.Logic.{inl, inr, ◌≢◌}
use mathlib.Core.Path.{ap, refl, subst, sym, ◌∙◌, ◌≡◌}
use Prim.Native.Nat.{◌+◌, ◌-◌, ◌<◌, ℕ, ◌≤◌}
use native.Mathlib.Decide.{dec_lt}
use native.Mathlib.Omega.{arith}
use borrow.Author.Tests.{eq-eqb, le-ltb, lt-ltb, ne_eqb}
use Rattle.arith.proofs.Sums.{any_to_never}
use Rattle.arith.proofs.Tests.{and-false, test}
use Rattle.packed.proofs.FirstLaws.{least_first}
use Rattle.packed.proofs.GraphLaws.{numbered_comm, pair_here, pair_some}
use Rattle.packed.specs.Bits.{differ}
use Rattle.packed.specs.Inside.Search.{FirstFrom}
use Rattle.state.specs.Answers.{At, Nowhere, Refused}
use Rattle.state.specs.Refusal.{refusal}
use Rattle.calls.proofs.AcceptLaws.{passes}
use Rattle.schedule.proofs.DifferLaws.{differ_same}
use Rattle.schedule.proofs.NumberLaws.{schedule_numbered}
use Rattle.schedule.proofs.RecordLaws.{sounds_by}
use Rattle.schedule.proofs.OpenLaws.{shut_after, to_lt}
use Rattle.schedule.specs.Change.{change_call, change_conditions, differs_at, first_differing, minutes, numbers_of}
use Rattle.schedule.specs.FirstChange.{AsAt, FirstChange, NextChange}
use Rattle.schedule.specs.Schedule.{bad_schedule, linked_at, names, open_at, opening_at, record_conditions, record_count, schedule_nodes}
use Rattle.schedule.specs.Inside.Records.{Sounds}

-- ---- the links at a minute and at t

differ_none : (x y : Bool) → differ x y ≡ false → x ≡ y
differ_none true true e = refl
differ_none true false e = absurd (true≢false e)
differ_none false y e = sym e

-- each record's `to` is a minute, so that none is open at the last minute or later
abbrev last_minute : ℕ
last_minute = minutes - 1

unlinked_late : (schedule : List ℕ) (m a b : ℕ) → last_minute ≤ m → linked_at schedule m a b ≡ false
unfolding linked_at
unlinked_late schedule m a b h =
    any_to_never (λ i. names (opening_at schedule i) a b && open_at (opening_at schedule i) m) (record_count schedule) (λ i _.
    rw (shut_after (opening_at schedule i) m (omega (arith, to_lt schedule i))) (and-false (names (opening_at schedule i) a b)))

module _ (schedule : List ℕ) (t : ℕ) where
  abbrev n : ℕ
  n = schedule_nodes schedule

  abbrev differing : ℕ → ℕ → ℕ → Bool
  differing m a b = differ (linked_at schedule m a b) (linked_at schedule t a b)

  -- a link that differs
  abbrev Differs : ℕ → Type 0
  Differs m = (a : ℕ) × (b : ℕ) × (a < n) × (b < n) × (linked_at schedule m a b ≢ linked_at schedule t a b)

  differs_some : (m : ℕ) → differs_at schedule t m ≡ true → Differs m
  unfolding differs_at
  differs_some m e =
      let (a, b, l, h, d) = pair_some (differing m) n e in
      (a, b, omega arith, h, λ q. true≢false (sym d ∙ differ_same _ _ q))

  not_as_at : (m : ℕ) → Differs m → AsAt schedule t m → ⊥
  not_as_at m (a, b, ha, hb, d) same = d (same a b ha hb)

  module _ (v : Sounds schedule) where
    same_below : (m : ℕ) → differs_at schedule t m ≡ false → (a b : ℕ) → a < b → b < n → linked_at schedule m a b ≡ linked_at schedule t a b
    unfolding differs_at
    same_below m e a b l h = elim (test (differing m a b)) [
      | inl d ↦ absurd (true≢false (sym (pair_here (differing m) n a b l h d) ∙ e))
      | inr d ↦ differ_none _ _ d
    ]

    same_all : (m : ℕ) → differs_at schedule t m ≡ false → AsAt schedule t m
    same_all m e a b ha hb = elim (dec_lt a b) [
      | yes l ↦ same_below m e a b l hb
      | no l ↦ elim (dec_lt b a) [
        | yes k ↦ numbered_comm (schedule_numbered schedule v m) a b ∙ same_below m e b a k ha ∙ numbered_comm (schedule_numbered schedule v t) b a
        | no k ↦ let q : b ≡ a = omega arith in rw q ((schedule_numbered schedule v m).self a ∙ sym ((schedule_numbered schedule v t).self a))
      ]
    ]

    -- ---- the first minute that differs

    abbrev first : ℕ
    first = first_differing schedule t

    first_from : FirstFrom (differs_at schedule t) (t + 1) (t + 1 + (minutes - (t + 1))) first
    unfolding first_differing
    first_from = least_first (differs_at schedule t) (t + 1) (minutes - (t + 1))

    first_later : t < first
    first_later = omega (arith, first_from.start)

    first_before : (x : ℕ) → t ≤ x → x < first → AsAt schedule t x
    first_before x l h = elim (dec_lt t x) [
      | yes s ↦ same_all x (first_from.none x (omega arith) h)
      | no s ↦ let e : x ≡ t = omega arith in λ a b _ _. ap (λ m. linked_at schedule m a b) e
    ]

    first_differs : first < minutes → Differs first
    first_differs l = differs_some first (first_from.some (omega arith))

    -- where there is none, no link exists at t, as none exists at the last minute
    first_never : minutes ≤ first → (m : ℕ) → t < m → AsAt schedule t m
    first_never h m l a b ha hb = elim (dec_lt m first) [
      | yes s ↦ first_before m (omega arith) s a b ha hb
      | no s ↦ unlinked_late schedule m a b (omega arith) ∙ sym (elim (dec_lt t last_minute) [
        | yes k ↦ sym (first_before last_minute (omega arith) (omega arith) a b ha hb) ∙ unlinked_late schedule last_minute a b (omega arith)
        | no k ↦ unlinked_late schedule t a b (omega arith)
      ])
    ]

    first_change : first < minutes → FirstChange schedule t first
    first_change l = record { later = first_later; before = first_before; differs = first_differs l }

    -- a first minute at which a link differs is this one
    change_first : (m : ℕ) → FirstChange schedule t m → first < minutes → first ≡ m
    change_first m c l = elim (dec_lt first m) [
      | yes s ↦ absurd (not_as_at first (first_differs l) (c.before first (omega (arith, first_later)) s))
      | no s ↦ elim (dec_lt m first) [
        | yes k ↦ absurd (not_as_at m c.differs (first_before m (omega (arith, c.later)) k))
        | no k ↦ omega arith
      ]
    ]

-- ---- the answer

at_same : {m m' : ℕ} → At m ≡ At m' → m ≡ m'
unfolding numbers_of
at_same e = ap (λ c. (numbers_of c).minute) e

at_never : {m : ℕ} → At m ≡ Nowhere → ⊥
unfolding numbers_of
at_never e = true≢false (ap (λ c. (numbers_of c).some) e)

module _ (schedule : List ℕ) (t : ℕ) where
  call_refused : refusal (change_conditions schedule) ≢ 0 → change_call schedule t ≡ Refused (refusal (change_conditions schedule))
  unfolding change_call
  call_refused d = rw (ne_eqb (refusal (change_conditions schedule)) 0 d)

  module _ (z : refusal (change_conditions schedule) ≡ 0) where
    sounds : Sounds schedule
    unfolding bad_schedule
    sounds = sounds_by schedule (passes (bad_schedule schedule) (record_conditions schedule) (λ e. omega arith) z).1

    call_at : first_differing schedule t < minutes → change_call schedule t ≡ At (first_differing schedule t)
    unfolding change_call
    call_at l = rw (eq-eqb (refusal (change_conditions schedule)) 0 z, lt-ltb (first_differing schedule t) minutes l)

    call_never : minutes ≤ first_differing schedule t → change_call schedule t ≡ Nowhere
    unfolding change_call
    call_never h = rw (eq-eqb (refusal (change_conditions schedule)) 0 z, le-ltb (first_differing schedule t) minutes h)

    minute_forth : (m : ℕ) → change_call schedule t ≡ At m → FirstChange schedule t m
    minute_forth m e = elim (dec_lt (first_differing schedule t) minutes) [
      | yes l ↦ subst (FirstChange schedule t) (at_same (sym (call_at l) ∙ e)) (first_change schedule t sounds l)
      | no l ↦ absurd (at_never (sym e ∙ call_never (omega arith)))
    ]

    minute_back : (m : ℕ) → FirstChange schedule t m → change_call schedule t ≡ At m
    minute_back m c = elim (dec_lt (first_differing schedule t) minutes) [
      | yes l ↦ call_at l ∙ ap At (change_first schedule t sounds m c l)
      | no l ↦ absurd (not_as_at schedule t m c.differs (first_never schedule t sounds (omega arith) m c.later))
    ]

    never_forth : change_call schedule t ≡ Nowhere → (m : ℕ) → t < m → AsAt schedule t m
    never_forth e = elim (dec_lt (first_differing schedule t) minutes) [
      | yes l ↦ absurd (at_never (sym (call_at l) ∙ e))
      | no l ↦ first_never schedule t sounds (omega arith)
    ]

    never_back : ((m : ℕ) → t < m → AsAt schedule t m) → change_call schedule t ≡ Nowhere
    never_back same = elim (dec_lt (first_differing schedule t) minutes) [
      | yes l ↦
          let m = first_differing schedule t in
          absurd (not_as_at schedule t m (first_differs schedule t sounds l) (same m (first_later schedule t sounds)))
      | no l ↦ call_never (omega arith)
    ]

pub next_change : NextChange
next_change = record {
  minute = λ schedule t m z. (minute_forth schedule t z m, minute_back schedule t z m);
  never = λ schedule t z. (never_forth schedule t z, never_back schedule t z);
  refused = call_refused;
}
