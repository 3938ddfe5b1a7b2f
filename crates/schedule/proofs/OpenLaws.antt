-- When a record is open, and that a pair is linked where one of its records is. Assumes nothing.
use mathlib.Core.Bool.{false, true}
use mathlib.Core.List.{List}
use mathlib.Core.Logic.{inl, inr}
use mathlib.Core.Path.{◌≡◌}
use Prim.Native.Nat.{◌*◌, ◌+◌, ◌<◌, ℕ, ◌≤◌}
use borrow.Author.Tests.{eq-eqb, eqb-true, le-leb, le-ltb, leb-true, lt-leb, lt-ltb, ltb-true}
use lib.Dec.{eqb, leb, ltb}
use Rattle.arith.proofs.Sums.{any_to_here, some_of}
use Rattle.arith.proofs.Tests.{and-false, and-true, test}
use Rattle.packed.proofs.RunLaws.{run_lt}
use Rattle.packed.specs.Bits.{bit_at}
use Rattle.schedule.specs.Change.{minutes}
use Rattle.schedule.specs.Schedule.{open_at, opening_at, record_bytes, record_count}
use Rattle.schedule.specs.declared.records.Opening.{Opening}
use Rattle.schedule.specs.Inside.Numbers.{linked_no, number_of, open_to}

module _ (r : Opening) (m : ℕ) where
  pub open_of : open_at r m ≡ true → (r.from ≤ m) × (m < r.to)
  unfolding open_at
  open_of e =
      let b = and-true (leb r.from m) (ltb m r.to) e in
      (leb-true r.from m b.0, ltb-true m r.to b.1)

  pub open_by : r.from ≤ m → m < r.to → open_at r m ≡ true
  unfolding open_at
  open_by h l = rw (le-leb r.from m h, lt-ltb m r.to l)

  pub shut_before : m < r.from → open_at r m ≡ false
  unfolding open_at
  shut_before h = rw (lt-leb r.from m h)

  pub shut_after : r.to ≤ m → open_at r m ≡ false
  unfolding open_at
  shut_after h = rw (le-ltb m r.to h) (and-false (leb r.from m))

-- its `to` is a minute
pub to_lt : (schedule : List ℕ) (i : ℕ) → (opening_at schedule i).to < minutes
unfolding opening_at
to_lt schedule i = run_lt (bit_at schedule) (8 * (1 + record_bytes * i) + 32) 16

-- ---- a pair is linked at a minute where some record of the pair is open

pub record Opened (schedule : List ℕ) (m p : ℕ) : Type 0 where
  pub at : ℕ
  pub inside : at < record_count schedule
  pub number : number_of (opening_at schedule at) ≡ p
  pub begun : (opening_at schedule at).from ≤ m
  pub ends : m < (opening_at schedule at).to

pub linked_of : (schedule : List ℕ) (m p : ℕ) → linked_no schedule m p ≡ true → Opened schedule m p
unfolding open_to
linked_of schedule m p e =
    let s = some_of _ (record_count schedule) e in
    let r = opening_at schedule s.at in
    let b = and-true (eqb (number_of r) p) (open_at r m) s.passes in
    let o = open_of r m b.1 in
    record { at = s.at; inside = s.inside; number = eqb-true (number_of r) p b.0; begun = o.0; ends = o.1 }

pub linked_by : (schedule : List ℕ) (m p : ℕ) → Opened schedule m p → linked_no schedule m p ≡ true
unfolding open_to
linked_by schedule m p o =
    let r = opening_at schedule o.at in
    any_to_here _ (record_count schedule) o.at o.inside (rw (eq-eqb (number_of r) p o.number) (open_by r m o.begun o.ends))

pub unlinked_by : (schedule : List ℕ) (m p : ℕ) → (Opened schedule m p → ⊥) → linked_no schedule m p ≡ false
unlinked_by schedule m p h = elim (test (linked_no schedule m p)) [ inl e ↦ absurd (h (linked_of schedule m p e)) | inr e ↦ e ]
