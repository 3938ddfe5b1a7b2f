-- `script::step::item_at` meets its contract. `found` says what was read of a record, from its bits as one run. Assumes nothing.
use mathlib.Core.List.{List}
use mathlib.Core.Path.{sym, ◌∙◌, ◌≡◌}
use Prim.Native.Nat.{ℕ, ◌%◌, ◌/◌, ◌^◌, ◌≤◌}
use native.Mathlib.Nat.{add-zero}
use native.Mathlib.Omega.{arith}
use Rattle.packed.proofs.RunLaws.{run_field}
use Rattle.packed.specs.Bits.{run_of}
use Rattle.script.proofs.RecordLaws.{RecordRead, item_add, item_few, item_list, item_list_b, item_other, item_remove, left_room}
use Rattle.script.specs.Limits.{record_bits}
use Rattle.script.specs.Record.{bits_left}
use Rattle.script.proofs.step.item_at.Goals as goal

-- where enough bits are left, the three numbers of a record are parts of its run
found : (script : List ℕ) (at : ℕ) {left run kind a b : ℕ} → left ≡ bits_left script at → record_bits ≤ left → run ≡ run_of script at record_bits
    → kind ≡ run / 2 ^ 16 % 2 ^ 2 → a ≡ run / 2 ^ 8 % 2 ^ 8 → b ≡ run / 2 ^ 0 % 2 ^ 8 → RecordRead script at left kind a b
found script at l e read k f s = record {
  bits = l;
  enough = e;
  kinds = rw (add-zero at) at (run_field script at 0 2 16 read k);
  first = run_field script at 2 8 8 read f;
  second = run_field script at 10 8 0 read s;
}

pub returns-then-left-lt-RECORD_BITS : goal.returns-then-left-lt-RECORD_BITS
returns-then-left-lt-RECORD_BITS c = item_few _ _ _ c.bits_left-left.ensures c.if-left-lt-RECORD_BITS.true

pub run_of-record-requires : goal.run_of-record-requires
run_of-record-requires c =
    let r = left_room c.args.script.now c.args.at c.bits_left-left.result c.bits_left-left.ensures c.if-left-lt-RECORD_BITS.false in
    (omega arith, omega arith, omega (arith, r.1, c.if-left-lt-RECORD_BITS.false))

pub returns-in-1 : goal.returns-in-1
returns-in-1 c = item_add _ _
    (found _ _ c.bits_left-left.ensures c.if-left-lt-RECORD_BITS.false c.run_of-record.ensures c.field.ensures c.field-a.ensures c.field-b.ensures)
    c.in-1.is

pub returns-in-2 : goal.returns-in-2
returns-in-2 c = item_remove _ _
    (found _ _ c.bits_left-left.ensures c.if-left-lt-RECORD_BITS.false c.run_of-record.ensures c.field.ensures c.field-a.ensures c.field-b.ensures)
    c.in-2.is

pub returns-in-3 : goal.returns-in-3
returns-in-3 c = item_list _ _
    (found _ _ c.bits_left-left.ensures c.if-left-lt-RECORD_BITS.false c.run_of-record.ensures c.field.ensures c.field-a.ensures c.field-b.ensures)
    c.in-3.is c.if-b-eq0.true

pub returns-in-0 : goal.returns-in-0
returns-in-0 c = item_other _ _
    (found _ _ c.bits_left-left.ensures c.if-left-lt-RECORD_BITS.false c.run_of-record.ensures c.field.ensures c.field-a.ensures c.field-b.ensures)
    (λ e. omega (arith, c.in-0.is, e)) (λ e. omega (arith, c.in-0.is, e)) (λ e. omega (arith, c.in-0.is, e)) (sym c.ends_script.ensures ∙ c.if-ends_script.true)

-- of kind 3, and of kind 0
pub returns-in_default : goal.returns-in_default
returns-in_default c = item_list_b _ _
    (found _ _ c.bits_left-left.ensures c.if-left-lt-RECORD_BITS.false c.run_of-record.ensures c.field.ensures c.field-a.ensures c.field-b.ensures)
    c.in-3.is c.if-b-eq0.false

pub returns-in_default-2 : goal.returns-in_default-2
returns-in_default-2 c = item_other _ _
    (found _ _ c.bits_left-left.ensures c.if-left-lt-RECORD_BITS.false c.run_of-record.ensures c.field.ensures c.field-a.ensures c.field-b.ensures)
    (λ e. omega (arith, c.in-0.is, e)) (λ e. omega (arith, c.in-0.is, e)) (λ e. omega (arith, c.in-0.is, e)) (sym c.ends_script.ensures ∙ c.if-ends_script.false)
