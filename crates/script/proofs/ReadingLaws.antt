-- The reader's cases carry 01's numbers. Assumes nothing.
use mathlib.Core.Bool.{Bool, cond, false, not, true, ◌||◌}
use mathlib.Core.List.{List}
use mathlib.Core.Logic.{inl, inr, ◌⊎◌}
use mathlib.Core.Path.{ap, refl, sym, ◌∙◌, ◌≡◌}
use Prim.Native.Nat.{◌*◌, ◌+◌, ◌-◌, ◌<◌, ◌^◌, suc, zero, ℕ, ◌≤◌}
use native.Mathlib.Decide.{dec_lt}
use native.Mathlib.Omega.{arith}
use borrow.Author.Tests.{eqb-true, le-leb, le-ltb, lt-leb, lt-ltb}
use lib.Dec.{eqb}
use lib.ListN.{length}
use Rattle.arith.proofs.Tests.{and-true, test}
use Rattle.packed.proofs.RunLaws.{run_lt}
use Rattle.packed.specs.Bits.{bit_at}
use Rattle.script.proofs.RecordLaws.{item_few, left_room}
use Rattle.script.specs.Limits.{max_bytes, record_bits}
use Rattle.script.specs.Reading.{Reading, reading_at, reading_of, well_formed}
use Rattle.script.specs.Record.{Item, a_at, a_record, b_at, bits_left, ends_at, item_at, item_of, kind_at, malformed, past_item, read_at, the_end}
use Rattle.script.specs.declared.step.Step.{Step}
use Rattle.script.specs.declared.step.Record.TheVariants.{Add, ListFirst, Remove}
use Rattle.std.proofs.Common.{Some, None, Ok, Err}

-- where an end ends the script, its numbers are 0
ends_zero : (script : List ℕ) (at : ℕ) → ends_at script at ≡ true → (a_at script at ≡ 0) × (b_at script at ≡ 0)
unfolding ends_at
ends_zero script at e =
    let r = and-true _ _ e in
    (eqb-true _ _ r.0, eqb-true _ _ (and-true _ _ r.1).0)

-- the numbers of what is yielded at a position
abbrev numbers_at : Item → ℕ → Reading
numbers_at item at = reading_of item (past_item item at)

-- by the four kinds of a record
kinds : (kind a b at : ℕ) (ends : Bool) → kind < 4 → (ends ≡ true → (a ≡ 0) × (b ≡ 0)) → numbers_at (item_of kind a b ends) at
    ≡ cond (cond (eqb kind 0) ends (not (eqb kind 3) || eqb b 0))
    (record { refusal = 0; kind = kind; a = a; b = b; position = cond (eqb kind 0) at (at + 18) })
    (record { refusal = 9; kind = 0; a = 0; b = 0; position = at })
unfolding reading_of
kinds zero a b at true h e = rw ((e refl).0, (e refl).1)
kinds zero a b at false h e = refl
kinds (suc zero) a b at ends h e = refl
kinds (suc (suc zero)) a b at ends h e = refl
kinds (suc (suc (suc zero))) a b at ends h e = elim (test (eqb b 0)) [
  | inl t ↦ let m : a + 1 - 1 ≡ a = omega arith in rw (t, eqb-true b 0 t, m)
  | inr t ↦ rw t
]
kinds (suc (suc (suc (suc k)))) a b at ends h e = absurd (omega arith)

reading_is : (script : List ℕ) (at : ℕ) → numbers_at (item_at script at) at ≡ reading_at script at
unfolding item_at reading_at reading_of well_formed
reading_is script at = elim (dec_lt (bits_left script at) record_bits) [
  | yes h ↦ rw (lt-ltb (bits_left script at) record_bits h, lt-leb record_bits (bits_left script at) h)
  | no h ↦ let l : record_bits ≤ bits_left script at = omega arith in
      rw (le-ltb (bits_left script at) record_bits l, le-leb record_bits (bits_left script at) l)
      (kinds (kind_at script at) (a_at script at) (b_at script at) at (ends_at script at) (run_lt (bit_at script) at 2) (ends_zero script at))
]

-- a step from its parts
pub step_made : (script : List ℕ) (at : ℕ) {item : Item} {next : ℕ} → item ≡ item_at script at → next ≡ past_item item at
    → record { item = item; at = next } ≡ read_at script at
unfolding read_at
step_made script at {item} e p = ap (λ (x : ℕ). record { item = item; at = x }) p ∙ ap (λ (x : Item). record { item = x; at = past_item x at }) e

-- both promises of the reader from the first
pub answered : (script : List ℕ) (at : ℕ) {step : Step} → step ≡ read_at script at
    → (step ≡ read_at script at) × (reading_of step.item step.at ≡ reading_at script at)
unfolding read_at
answered script at e = (e, ap (λ (s : Step). reading_of s.item s.at) e ∙ reading_is script at)

-- ---- what a caller knows of a step

-- no more than a record is passed
past_bounds : (item : Item) (at : ℕ) → (at ≤ past_item item at) × (past_item item at ≤ at + record_bits)
past_bounds (Ok (Some r)) at = (omega arith, omega arith)
past_bounds (Ok None) at = (omega arith, omega arith)
past_bounds (Err e) at = (omega arith, omega arith)

module _ (script : List ℕ) (at : ℕ) where
  -- a record that is passed lies within the script
  past_room : (past_item (item_at script at) at ≡ at) ⊎ ((past_item (item_at script at) at ≤ 8 * length script) × (length script ≤ max_bytes))
  past_room = elim (dec_lt (bits_left script at) record_bits) [
    | yes h ↦ inl (ap (λ (x : Item). past_item x at) (sym (item_few script at (bits_left script at) refl h)))
    | no h ↦
        let l : record_bits ≤ bits_left script at = omega arith in
        let r = left_room script at (bits_left script at) refl l in
        inr (omega (arith, (past_bounds (item_at script at) at).1, r.1), r.0)
  ]

  pub past_fits : at < 2 ^ 64 → past_item (item_at script at) at < 2 ^ 64
  past_fits h = elim past_room [
    | inl e ↦ omega (arith, e)
    | inr r ↦ omega (arith, r.0, r.1)
  ]

  -- from within the script the reader comes to within the script, and not back
  pub step_within : {step : Step} → step ≡ read_at script at → at ≤ 8 * length script → (at ≤ step.at) × (step.at ≤ 8 * length script)
  unfolding read_at
  step_within e h =
      let p = ap (λ (x : Step). x.at) e in (
        omega (arith, p, (past_bounds (item_at script at) at).0),
        elim past_room [
          | inl z ↦ omega (arith, p, z)
          | inr r ↦ omega (arith, p, r.0)
        ],
      )

  reading_a : (reading_at script at).a < 256
  unfolding reading_at
  reading_a = elim (test (well_formed script at)) [
    | inl t ↦ rw t (run_lt (bit_at script) (at + 2) 8)
    | inr t ↦ rw t (omega arith)
  ]

  pub list_small : {step : Step} {k : ℕ} → step ≡ read_at script at → a_record (ListFirst k) ≡ step.item → k ≤ 256
  unfolding reading_of
  list_small {step} {k} e l =
      let m : k - 1 ≡ (reading_at script at).a = ap (λ (x : Item). (reading_of x step.at).a) l ∙ ap (λ (x : Reading). x.a) (answered script at e).1 in
      omega (arith, m, reading_a)
