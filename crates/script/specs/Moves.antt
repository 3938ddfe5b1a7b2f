-- The script reader as a record over the lent script: where it starts, what it yields and what it is after that. Assumes nothing.
use Rattle.std.specs.Prelude.{List, ℕ}
use Rattle.std.specs.Borrow.{Bor}
use Rattle.script.specs.Limits.{first_record}
use Rattle.script.specs.Record.{Item, read_at}
use Rattle.script.specs.declared.reader.Reader.{Reader}

-- over the lent script, at its first record
abbrev pub start_of : Bor (List ℕ) → Reader
start_of script = record { script = script; at = first_record }

-- what stands at the next bit's position
abbrev pub yields : Reader → Item
yields r = (read_at r.script.now r.at).item

-- over the same script, past a record, or where it was at the end or malformed
abbrev pub reader_after : Reader → Reader
reader_after r = record { script = r.script; at = (read_at r.script.now r.at).at }
