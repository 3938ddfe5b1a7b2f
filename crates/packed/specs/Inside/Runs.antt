-- Runs of bits in code. Assumes nothing.
use Rattle.std.specs.Prelude.{ℕ}

-- the most bits that a run may have
abbrev pub max_run : ℕ
max_run = 56
