-- The sizes of the script format. Assumes nothing.
use Rattle.std.specs.Prelude.{ℕ}

-- a script has at most 65,536 bytes
abbrev pub max_bytes : ℕ
max_bytes = 65536

-- a record has 18 bits
abbrev pub record_bits : ℕ
record_bits = 18

-- the first byte is n - 1; then the records
abbrev pub first_record : ℕ
first_record = 8
