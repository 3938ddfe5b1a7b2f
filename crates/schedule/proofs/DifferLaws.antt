-- The first minute at which a pair of a window differs from its state at t, and of all windows so far. Assumes nothing.
use mathlib.Core.Bool.{Bool, false, not, true, true≢false, ◌&&◌}
use mathlib.Core.List.{List}
use mathlib.Core.Logic.{inl, inr}
use mathlib.Core.Path.{ap, ap₂, refl, subst, sym, ◌∙◌, ◌≡◌}
use Prim.Native.Nat.{◌+◌, ◌-◌, ◌<◌, suc, zero, zero-le, ℕ, ◌≤◌}
use native.Mathlib.Decide.{dec_lt}
use native.Mathlib.Nat.{le_refl, le_trans}
use native.Mathlib.Omega.{arith}
use borrow.Author.Tests.{le-leb, leb-true, lt-leb}
use lib.Dec.{leb}
use lib.ListN.{get_or}
use Rattle.arith.proofs.Sums.{any_to_false, any_to_here, any_to_never, some_of}
use Rattle.arith.proofs.Tests.{and-true, test}
use Rattle.packed.specs.Bits.{differ}
use Rattle.packed.specs.Inside.Search.{FirstFrom}
use Rattle.packed.specs.Inside.Windows.{window}
use Rattle.schedule.proofs.OpenLaws.{linked_by, linked_of, Opened, unlinked_by}
use Rattle.schedule.proofs.PassLaws.{changed_most}
use Rattle.schedule.proofs.PlaceLaws.{changes_placed, linked_changes, open_moves, place_at, Placed, unlinked_changes}
use Rattle.schedule.specs.Change.{minutes}
use Rattle.schedule.specs.Schedule.{opening_at, record_count}
use Rattle.schedule.specs.declared.records.Opening.{Opening}
use Rattle.schedule.specs.Inside.Numbers.{differs_in, linked_no}
use Rattle.schedule.specs.Inside.Records.{Valid}
use Rattle.schedule.specs.declared.change.Scope.{Scope}
use Rattle.schedule.specs.Inside.Until.{changed_by, changed_to, Lasts, place_of, Rests}

-- ---- pairs of a window that differ

module _ (schedule : List ℕ) (t : ℕ) where
  -- the pair of number p at minute m differs from its state at t
  abbrev differs_no : ℕ → ℕ → Bool
  differs_no m p = differ (linked_no schedule m p) (linked_no schedule t p)

  module _ (start end m : ℕ) where
    differs_at : (p : ℕ) → start ≤ p → p < end → differs_no m p ≡ true → differs_in schedule start end t m ≡ true
    unfolding differs_in
    differs_at p l h d = any_to_here _ end p h (rw (le-leb start p l) d)

    differs_never : ((p : ℕ) → start ≤ p → p < end → differs_no m p ≡ false) → differs_in schedule start end t m ≡ false
    unfolding differs_in
    differs_never d = any_to_never _ end (λ p h. elim (dec_lt p start) [
      | yes l ↦ rw (lt-leb start p l)
      | no l ↦ let low : start ≤ p = omega arith in rw (le-leb start p low) (d p low h)
    ])

    differs_none : differs_in schedule start end t m ≡ false → (p : ℕ) → start ≤ p → p < end → differs_no m p ≡ false
    unfolding differs_in
    differs_none e p l h = rw (le-leb start p l) at (any_to_false (λ q. leb start q && differs_no m q) end e p h)

    differs_some : differs_in schedule start end t m ≡ true → (p : ℕ) × (start ≤ p) × (p < end) × (differs_no m p ≡ true)
    unfolding differs_in
    differs_some e =
        let s = some_of (λ q. leb start q && differs_no m q) end e in
        let b = and-true (leb start s.at) (differs_no m s.at) s.passes in
        (s.at, leb-true start s.at b.0, s.inside, b.1)

-- ---- the first minute at which a pair of the windows so far differs: of no window, and of one window more

pub first_none : (schedule : List ℕ) (t : ℕ) → t < minutes → FirstFrom (differs_in schedule 0 0 t) (t + 1) minutes minutes
first_none schedule t h = record {
  start = omega arith;
  stop = le_refl minutes;
  none = λ m a b. differs_never schedule t 0 0 m (λ p l g. absurd (omega arith));
  some = λ l. absurd (omega arith);
}

pub first_join : (schedule : List ℕ) (start t : ℕ) {x y : ℕ} → FirstFrom (differs_in schedule 0 start t) (t + 1) minutes x
    → FirstFrom (differs_in schedule start (start + window) t) (t + 1) x y → FirstFrom (differs_in schedule 0 (start + window) t) (t + 1) minutes y
first_join schedule start t {x} {y} f g = record {
  start = g.start;
  stop = le_trans g.stop f.stop;
  none = λ m a b. differs_never schedule t 0 (start + window) m (λ p l h. elim (dec_lt p start) [
    | yes s ↦ differs_none schedule t 0 start m (f.none m a (omega (arith, g.stop))) p l s
    | no s ↦ differs_none schedule t start (start + window) m (g.none m a b) p (omega arith) h
  ]);
  some = λ l. elim (dec_lt y x) [
    | yes s ↦
        let (p, a, b, d) = differs_some schedule t start (start + window) y (g.some s) in
        differs_at schedule t 0 (start + window) y p zero-le b d
    | no s ↦
        let e : y ≡ x = omega (arith, g.stop) in
        let (p, a, b, d) = differs_some schedule t 0 start y (ap (differs_in schedule 0 start t) e ∙ f.some (omega arith)) in
        differs_at schedule t 0 (start + window) y p zero-le (omega arith) d
  ];
}

-- ---- the first minute that k records tell of

module _ (schedule : List ℕ) (w : Scope) (until : List ℕ) where
  abbrev by : ℕ → ℕ
  by i = changed_by w until (opening_at schedule i)

  changed_least : (k i : ℕ) → i < k → changed_to schedule w until k ≤ by i
  unfolding changed_to
  changed_least zero i h = absurd (omega arith)
  changed_least (suc n) i h = elim (dec_lt i n) [
    | yes l ↦ omega (arith, changed_least n i l)
    | no l ↦ let e : n ≡ i = omega arith in omega (arith, ap by e)
  ]

  changed_some : (k : ℕ) → changed_to schedule w until k < w.limit → (i : ℕ) × (i < k) × (by i ≡ changed_to schedule w until k)
  unfolding changed_to
  changed_some zero h = absurd (omega arith)
  changed_some (suc n) h = elim (dec_lt (by n) (changed_to schedule w until n)) [
    | yes l ↦ (n, omega arith, omega arith)
    | no l ↦ let (i, b, e) = changed_some n (omega arith) in (i, omega arith, omega arith)
  ]

-- ---- it is the first at which a pair of the window differs, where no record makes its pair last longer

pub differ_same : (a b : Bool) → a ≡ b → differ a b ≡ false
differ_same true b e = ap not (sym e)
differ_same false b e = sym e

module _ {schedule : List ℕ} {w : Scope} {until : List ℕ} (valid : Valid schedule) (before : w.minute < w.limit) (lasts : Lasts schedule w until)
    (rests : Rests schedule w until (record_count schedule)) where
  -- the pair with a place is linked at a minute
  abbrev linked_in : ℕ → ℕ → Bool
  linked_in m k = linked_no schedule m (w.start + k)

  abbrev last : ℕ → ℕ
  last k = get_or until k 0

  abbrev first : ℕ
  first = changed_to schedule w until (record_count schedule)

  -- at its minute a pair is not linked
  unlinked_then : (k : ℕ) → k < window → last k < w.limit → linked_in (last k) k ≡ false
  unlinked_then k h l = unlinked_by schedule (last k) (w.start + k) (λ o.
      let r = opening_at schedule o.at in
      let at = place_at w r k h o.number (omega (arith, o.ends, lasts.begun k h)) (omega (arith, o.begun)) in
      true≢false ((open_moves w until r at h o.begun o.ends).0 ∙ rests o.at o.inside))

  -- that minute is later than t exactly if it is linked at t
  linked_now : (k : ℕ) → k < window → w.minute < last k → linked_in w.minute k ≡ true
  linked_now k h l = lasts.linked k h w.minute (le_refl w.minute) l

  unlinked_now : (k : ℕ) → k < window → last k ≤ w.minute → linked_in w.minute k ≡ false
  unlinked_now k h l =
      let e : last k ≡ w.minute = omega (arith, lasts.begun k h) in
      ap (λ m. linked_in m k) (sym e) ∙ unlinked_then k h (omega arith)

  -- a record of a pair that is not linked at t begins later
  begins_later : (i : ℕ) → i < record_count schedule → Placed w (opening_at schedule i) → last (place_of w (opening_at schedule i)) ≤ w.minute
      → w.minute < (opening_at schedule i).from
  begins_later i h p l = elim (dec_lt w.minute (opening_at schedule i).from) [
    | yes s ↦ s
    | no s ↦
        let now : Opened schedule w.minute (w.start + place_of w (opening_at schedule i)) =
        record { at = i; inside = h; number = p.number; begun = omega arith; ends = p.late } in
        absurd (true≢false (sym (linked_by schedule w.minute _ now) ∙ unlinked_now _ p.inside l))
  ]

  -- the record that tells of the first minute, and its pair
  record Told : Type 0 where
    pub at : ℕ
    pub inside : at < record_count schedule
    pub place : Placed w (opening_at schedule at)
    pub is : changed_by w until (opening_at schedule at) ≡ first

  told : first < w.limit → Told
  told l =
      let (i, h, e) = changed_some schedule w until (record_count schedule) l in
      record { at = i; inside = h; place = changes_placed w until (opening_at schedule i) (omega arith); is = e }

  -- it differs then, and t is earlier
  abbrev Differs : Type 0
  Differs = (w.minute < first) × (k : ℕ) × (k < window) × (differ (linked_in first k) (linked_in w.minute k) ≡ true)

  told_differs : Told → first < w.limit → Differs
  told_differs d l = elim (dec_lt w.minute (last k)) [
    | yes s ↦
        let e : last k ≡ first = linked_changes w until r refl h s ∙ d.is in
        (omega arith, k, h, ap₂ differ (ap (λ m. linked_in m k) (sym e) ∙ unlinked_then k h (omega arith)) (linked_now k h s))
    | no s ↦
        let e : r.from ≡ first = unlinked_changes w until r refl h (omega arith) ∙ d.is in
        let o : Opened schedule first (w.start + k) = record {
          at = d.at;
          inside = d.inside;
          number = d.place.number;
          begun = omega arith;
          ends = omega (arith, (valid.each d.at d.inside).hours);
        } in (
          omega (arith, begins_later d.at d.inside d.place (omega arith)),
          k,
          h,
          ap₂ differ (linked_by schedule first (w.start + k) o) (unlinked_now k h (omega arith)),
        )
  ]
    where
      r : Opening
      r = opening_at schedule d.at

      k : ℕ
      k = place_of w r

      h : k < window
      h = d.place.inside

  -- before it none does: one that is linked at t lasts up to it, and none opens earlier
  same_linked : (k : ℕ) → k < window → linked_in w.minute k ≡ true → (m : ℕ) → w.minute < m → m < first → linked_in m k ≡ true
  same_linked k h e m a b = elim (dec_lt w.minute (last k)) [
    | no s ↦ absurd (true≢false (sym e ∙ unlinked_now k h (omega arith)))
    | yes s ↦
        let o = linked_of schedule w.minute (w.start + k) e in
        let r = opening_at schedule o.at in
        let at = place_at w r k h o.number o.ends (omega (arith, o.begun)) in
        let least = changed_least schedule w until (record_count schedule) o.at o.inside in
        lasts.linked k h m (omega arith) (omega (arith, linked_changes w until r at h s, least))
  ]

  same_unlinked : (k : ℕ) → k < window → linked_in w.minute k ≡ false → (m : ℕ) → w.minute < m → m < first → linked_in m k ≡ false
  same_unlinked k h e m a b = elim (dec_lt w.minute (last k)) [
    | yes s ↦ absurd (true≢false (sym (linked_now k h s) ∙ e))
    | no s ↦ unlinked_by schedule m (w.start + k) (λ o.
        let r = opening_at schedule o.at in
        let most = changed_most schedule w until (record_count schedule) in
        let at = place_at w r k h o.number (omega (arith, o.ends)) (omega (arith, o.begun, most)) in
        let least = changed_least schedule w until (record_count schedule) o.at o.inside in
        omega (arith, unlinked_changes w until r at h (omega arith), o.begun, least))
  ]

  same_before : (k : ℕ) → k < window → (m : ℕ) → w.minute < m → m < first → linked_in m k ≡ linked_in w.minute k
  same_before k h m a b = elim (test (linked_in w.minute k)) [
    | inl e ↦ same_linked k h e m a b ∙ sym e
    | inr e ↦ same_unlinked k h e m a b ∙ sym e
  ]

  first_differs : FirstFrom (differs_in schedule w.start (w.start + window) w.minute) (w.minute + 1) w.limit first
  first_differs = record {
    start = elim (dec_lt first w.limit) [ yes l ↦ omega (arith, (told_differs (told l) l).0) | no l ↦ omega arith ];
    stop = changed_most schedule w until (record_count schedule);
    none = λ m a b. differs_never schedule w.minute w.start (w.start + window) m (λ p l h.
        let e : w.start + (p - w.start) ≡ p = omega arith in
        subst (λ q. differs_no schedule w.minute m q ≡ false) e (differ_same _ _ (same_before (p - w.start) (omega arith) m (omega arith) b)));
    some = λ l.
        let (_, k, h, d) = told_differs (told l) l in
        differs_at schedule w.minute w.start (w.start + window) first (w.start + k) (omega arith) (omega arith) d;
  }

  pub change_first : {m : ℕ} → m ≡ changed_to schedule w until (record_count schedule)
      → FirstFrom (differs_in schedule w.start (w.start + window) w.minute) (w.minute + 1) w.limit m
  change_first e = subst (FirstFrom (differs_in schedule w.start (w.start + window) w.minute) (w.minute + 1) w.limit) (sym e) first_differs
