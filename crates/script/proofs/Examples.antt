-- 01's listing, read record by record. Assumes nothing.
use mathlib.Core.List.{List, [], ◌∷◌}
use mathlib.Core.Path.{ap, refl, ◌≡◌}
use Prim.Native.Nat.{suc, zero, ℕ}
use denote.Ref.{Bor}
use Rattle.arith.specs.Digits.{bit_of, digit}
use Rattle.arith.specs.Sums.{any_to}
use Rattle.packed.specs.Bits.{bit_at, word_of}
use Rattle.script.specs.Moves.{reader_after, start_of, yields}
use Rattle.script.specs.Record.{Item, a_record, bits_left, ends_at, item_at, malformed, read_at, the_end}
use Rattle.script.specs.declared.reader.Reader.{Reader}
use Rattle.script.specs.declared.step.Record.TheVariants.{Add, ListFirst}
use Rattle.script.specs.declared.step.Step.{Step}

-- 03 40 00 50 00 24 00 0F 01 00 00 00 00, in hexadecimal
abbrev listing_bytes : List ℕ
listing_bytes = 3 ∷ 64 ∷ 0 ∷ 80 ∷ 0 ∷ 36 ∷ 0 ∷ 15 ∷ 1 ∷ 0 ∷ 0 ∷ 0 ∷ 0 ∷ []

-- the steps at the positions where the reader comes by, and after the end
abbrev listing_steps : List Step
listing_steps = read_at listing_bytes 8 ∷ read_at listing_bytes 26 ∷ read_at listing_bytes 44 ∷ read_at listing_bytes 62 ∷ read_at listing_bytes 80 ∷ read_at listing_bytes 98 ∷ []

-- a step by what is yielded and the position that the reader is left at
abbrev yields_at : Item → ℕ → Step
yields_at item at = record { item = item; at = at }

pub listing_steps_lem : listing_steps
    ≡ (yields_at (a_record (Add 0 1)) 26 ∷ yields_at (a_record (Add 0 2)) 44 ∷ yields_at (a_record (Add 0 3)) 62 ∷ yields_at (a_record (ListFirst 2)) 80 ∷ yields_at the_end 80 ∷ yields_at malformed 98 ∷ [])
unfolding any_to bit_at bit_of bits_left digit ends_at item_at read_at word_of
listing_steps_lem = refl

-- what a reader yields, time after time
abbrev run : ℕ → Reader → List Item
run zero r = []
run (suc k) r = yields r ∷ run k (reader_after r)

-- a reader over the listing, from its start; at the end it stays
pub listing_read : (lent : Bor (List ℕ)) → lent.now ≡ listing_bytes → run 6 (start_of lent) ≡ (a_record (Add 0 1) ∷ a_record (Add 0 2) ∷ a_record (Add 0 3) ∷ a_record (ListFirst 2) ∷ the_end ∷ the_end ∷ [])
unfolding any_to bit_at bit_of bits_left digit ends_at item_at read_at word_of
listing_read lent e = ap (λ (s : List ℕ). run 6 (start_of (record { ref_ptr = lent.ref_ptr; now = s }))) e
