-- The sizes of a line of output. Assumes nothing.
use Rattle.std.specs.Prelude.{ℕ}

-- a line is built in 80 bytes
abbrev pub line_bytes : ℕ
line_bytes = 80

-- its word has at most 8
abbrev pub max_word : ℕ
max_word = 8

-- a number of 64 bits has at most 20 digits
abbrev pub max_digits : ℕ
max_digits = 20
