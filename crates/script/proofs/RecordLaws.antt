-- What the reader's tests show of what stands at a position. Assumes nothing.
use mathlib.Core.Bool.{Bool, and-false, cond, false}
use mathlib.Core.List.{List}
use mathlib.Core.Path.{ap, sym, ◌≡◌}
use Prim.Native.Nat.{◌*◌, ◌+◌, ◌-◌, ◌<◌, ◌^◌, ℕ, ◌≤◌}
use native.Mathlib.Decide.{dec_lt}
use native.Mathlib.Omega.{arith}
use borrow.Author.Tests.{le-ltb, lt-ltb, ne_eqb}
use lib.Dec.{eqb}
use lib.ListN.{length}
use Rattle.packed.proofs.RunLaws.{run_cat_zero, run_none_set}
use Rattle.packed.specs.Bits.{bit_at, run_of}
use Rattle.script.specs.Limits.{max_bytes, record_bits}
use Rattle.script.specs.Record.{Item, a_at, a_record, b_at, bits_left, ends_at, item_at, item_of, kind_at, malformed, past_item, the_end}
use Rattle.script.specs.declared.step.Record.TheVariants.{Add, ListFirst, Remove}

-- what the reader has read at a position: enough bits are left, and the record's three numbers
pub record RecordRead (script : List ℕ) (at left kind a b : ℕ) : Type 0 where
  pub bits : left ≡ bits_left script at
  pub enough : record_bits ≤ left
  pub kinds : kind ≡ kind_at script at
  pub first : a ≡ a_at script at
  pub second : b ≡ b_at script at

-- ---- the bits that are left

module _ (script : List ℕ) (at : ℕ) where
  pub left_long : max_bytes < length script → bits_left script at ≡ 0
  unfolding bits_left
  left_long h = rw (lt-ltb _ _ h)

  pub left_is : length script ≤ max_bytes → bits_left script at ≡ 8 * length script - at
  unfolding bits_left
  left_is h = rw (le-ltb _ _ h)

  -- where a record's bits are left, the script is not too long, and they are up to its end
  pub left_room : (left : ℕ) → left ≡ bits_left script at → record_bits ≤ left → (length script ≤ max_bytes) × (at + left ≡ 8 * length script)
  left_room left e h = elim (dec_lt max_bytes (length script)) [
    | yes l ↦ absurd (omega (arith, left_long l))
    | no l ↦ let s : length script ≤ max_bytes = omega arith in (s, omega (arith, left_is s))
  ]

  -- ---- the end

  pub ends_more : {left : ℕ} → left ≡ bits_left script at → 8 ≤ left - record_bits → false ≡ ends_at script at
  unfolding ends_at
  ends_more {left} e h = rw (← e, le-ltb (left - record_bits) 8 h, and-false, and-false)

  -- a, b and what follows are one run
  pub ends_run : {left : ℕ} (run : ℕ) → left ≡ bits_left script at → record_bits ≤ left → left - record_bits < 8 → run ≡ run_of script (at + 2) (left - 2)
      → eqb run 0 ≡ ends_at script at
  unfolding ends_at
  ends_run {left} run e h l q =
      let rest : ℕ = left - record_bits in
      let all : left - 2 ≡ 8 + (8 + rest) = omega arith in
      let b-at : at + 2 + 8 ≡ at + 10 = omega arith in
      let rest_at : at + 10 + 8 ≡ at + record_bits = omega arith in
      rw (← e, lt-ltb rest 8 l, q, all, run_cat_zero (bit_at script) (at + 2) 8 (8 + rest), b-at, run_cat_zero (bit_at script) (at + 10) 8 rest, rest_at)
      (rw (run_none_set (bit_at script) (at + record_bits) rest))

  -- ---- the records

  pub item_few : (left : ℕ) → left ≡ bits_left script at → left < record_bits → malformed ≡ item_at script at
  unfolding item_at
  item_few left e h = rw (← e, lt-ltb left record_bits h)

  module _ {left kind a b : ℕ} (f : RecordRead script at left kind a b) where
    -- what is found, by its kind and whether it ends the script
    by_kind : item_of kind a b (ends_at script at) ≡ item_at script at
    unfolding item_at
    by_kind = rw (← f.bits, ← f.kinds, ← f.first, ← f.second, le-ltb left record_bits f.enough)

    pub item_add : kind ≡ 1 → a_record (Add a b) ≡ item_at script at
    item_add k = rw k at by_kind

    pub item_remove : kind ≡ 2 → a_record (Remove a b) ≡ item_at script at
    item_remove k = rw k at by_kind

    pub item_list : kind ≡ 3 → b ≡ 0 → a_record (ListFirst (a + 1)) ≡ item_at script at
    item_list k zb = rw (k, zb) at by_kind

    pub item_list_b : kind ≡ 3 → (b ≡ 0 → ⊥) → malformed ≡ item_at script at
    item_list_b k db = rw (k, ne_eqb b 0 db) at by_kind

    pub item_other : (kind ≡ 1 → ⊥) → (kind ≡ 2 → ⊥) → (kind ≡ 3 → ⊥) → {ends : Bool} → ends_at script at ≡ ends → cond ends the_end malformed ≡ item_at script at
    item_other d1 d2 d3 e = rw (ne_eqb kind 1 d1, ne_eqb kind 2 d2, ne_eqb kind 3 d3, e) at by_kind
