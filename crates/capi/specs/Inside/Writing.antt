-- Figures that are written as bytes. Assumes nothing.
use Rattle.std.specs.Prelude.{List, ℕ, ◌/◌, length}

-- how many figures bytes have
abbrev pub figure_count : List ℕ → ℕ
figure_count bytes = length bytes / 8
