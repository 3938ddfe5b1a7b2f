-- What stands at a position in 01's numbers, with nothing of the reader's own type, and those numbers for each case of that type. Assumes nothing.
use Rattle.std.specs.Prelude.{Bool, cond, not, ◌&&◌, ◌||◌, List, ℕ, ◌+◌, ◌-◌, eqb, leb, Some, None, Ok, Err}
use Rattle.script.specs.Limits.{record_bits}
use Rattle.script.specs.Record.{Item, a_at, b_at, bits_left, ends_at, kind_at}
use Rattle.script.specs.declared.step.Record.TheVariants.{Add, Remove, ListFirst}

-- the refusal number, the record's kind, a and b, and the position that the reader is left at
pub record Reading : Type 0 where
  pub refusal : ℕ
  pub kind : ℕ
  pub a : ℕ
  pub b : ℕ
  pub position : ℕ

-- enough bits are left, an end is one, and a list has b = 0
unfoldable pub well_formed : List ℕ → ℕ → Bool
well_formed script at =
    let kind : ℕ = kind_at script at in
    leb record_bits (bits_left script at) && cond (eqb kind 0) (ends_at script at) (not (eqb kind 3) || eqb (b_at script at) 0)

-- a record and the position past it, but the end keeps the position; or malformed, refusal 9, which keeps it too
unfoldable pub reading_at : List ℕ → ℕ → Reading
reading_at script at =
    let kind : ℕ = kind_at script at in
    cond (well_formed script at)
    (record { refusal = 0; kind = kind; a = a_at script at; b = b_at script at; position = cond (eqb kind 0) at (at + record_bits) })
    (record { refusal = 9; kind = 0; a = 0; b = 0; position = at })

-- the numbers of each case, with the position that the reader is left at
unfoldable pub reading_of : Item → ℕ → Reading
reading_of (Ok (Some (Add a b))) at = record { refusal = 0; kind = 1; a = a; b = b; position = at }
reading_of (Ok (Some (Remove a b))) at = record { refusal = 0; kind = 2; a = a; b = b; position = at }
reading_of (Ok (Some (ListFirst k))) at = record { refusal = 0; kind = 3; a = k - 1; b = 0; position = at }
reading_of (Ok None) at = record { refusal = 0; kind = 0; a = 0; b = 0; position = at }
reading_of (Err e) at = record { refusal = 9; kind = 0; a = 0; b = 0; position = at }
