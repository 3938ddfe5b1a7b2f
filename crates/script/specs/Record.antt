-- What stands at a bit's position of a script, as 01's "Scripts" says. Positions count the bits of the whole script, its first byte included.
-- Assumes nothing.
use Rattle.std.specs.Prelude.{Bool, cond, not, ◌&&◌, List, ℕ, ◌+◌, ◌*◌, ◌-◌, eqb, ltb, length, Option, Some, None, Result, Ok, Err}
use Rattle.arith.specs.Sums.{any_to}
use Rattle.packed.specs.Bits.{bit_at, run_of}
use Rattle.script.specs.Limits.{max_bytes, record_bits}
use Rattle.script.specs.declared.step.Malformed.{Malformed}
use Rattle.script.specs.declared.step.Record.{Record}
use Rattle.script.specs.declared.step.Record.TheVariants.{Add, Remove, ListFirst}
use Rattle.script.specs.declared.step.Step.{Step}

-- what the reader yields: a record, the end, or that what stands there is malformed
abbrev pub Item : Type 0
Item = Result (Option Record) Malformed

abbrev pub a_record : Record → Item
a_record r = Ok (Some r)

abbrev pub the_end : Item
the_end = Ok None

abbrev pub malformed : Item
malformed = Err (record {})

-- records of 18 bits, packed, most significant first: kind (2 bits), a (8), b (8)
abbrev pub kind_at : List ℕ → ℕ → ℕ
kind_at script at = run_of script at 2

abbrev pub a_at : List ℕ → ℕ → ℕ
a_at script at = run_of script (at + 2) 8

abbrev pub b_at : List ℕ → ℕ → ℕ
b_at script at = run_of script (at + 10) 8

-- the bits from a position to the end of input; what is longer than a script has none to read
unfoldable pub bits_left : List ℕ → ℕ → ℕ
bits_left script at = cond (ltb max_bytes (length script)) 0 (8 * length script - at)

-- 0 ends, with a = b = 0 and then fewer than 8 bits, all 0, to the end of input
unfoldable pub ends_at : List ℕ → ℕ → Bool
ends_at script at =
    let rest : ℕ = bits_left script at - record_bits in
    eqb (a_at script at) 0 && (eqb (b_at script at) 0 && (ltb rest 8 && not (any_to (λ i. bit_at script (at + record_bits + i)) rest)))

-- Kind 1 adds the link a, b; 2 removes it; 3 lists k = a + 1 with b = 0; 0, the one kind that is left of 2 bits, ends where it may.
abbrev pub item_of : ℕ → ℕ → ℕ → Bool → Item
item_of kind a b ends =
    cond (eqb kind 1) (a_record (Add a b))
    (cond (eqb kind 2) (a_record (Remove a b))
    (cond (eqb kind 3) (cond (eqb b 0) (a_record (ListFirst (a + 1))) malformed)
    (cond ends the_end malformed)))

-- with too few bits left, malformed
unfoldable pub item_at : List ℕ → ℕ → Item
item_at script at =
    cond (ltb (bits_left script at) record_bits) malformed (item_of (kind_at script at) (a_at script at) (b_at script at) (ends_at script at))

-- the reader moves past a record, or keeps its position with the end or malformed
abbrev pub past_item : Item → ℕ → ℕ
past_item (Ok (Some r)) at = at + record_bits
past_item (Ok None) at = at
past_item (Err e) at = at

-- what a reader at a position yields, and the position that it is left at
unfoldable pub read_at : List ℕ → ℕ → Step
read_at script at = record { item = item_at script at; at = past_item (item_at script at) at }
