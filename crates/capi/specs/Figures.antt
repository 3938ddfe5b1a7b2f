-- Figures as C lends them: 8 bytes a figure, least significant byte first. Assumes nothing.
use Rattle.std.specs.Prelude.{List, ℕ, ◌+◌, ◌*◌, ◌/◌, ◌%◌, ◌^◌, get_or, length}
use Rattle.arith.specs.Sums.{sum_to, tabulate}

-- the figure of node p: byte 8p + i counts 256 ^ i
unfoldable pub figure_at : List ℕ → ℕ → ℕ
figure_at bytes p = sum_to (λ i. get_or bytes (8 * p + i) 0 * 256 ^ i) 8

-- n figures of bytes
unfoldable pub decoded : ℕ → List ℕ → List ℕ
decoded n bytes = tabulate (figure_at bytes) n

-- byte i of a number
unfoldable pub byte_of : ℕ → ℕ → ℕ
byte_of x i = x / 256 ^ i % 256

-- byte k of figures: byte k % 8 of figure k / 8
unfoldable pub byte_at : List ℕ → ℕ → ℕ
byte_at figures k = byte_of (get_or figures (k / 8) 0) (k % 8)

-- figures as bytes
unfoldable pub encoded : List ℕ → List ℕ
encoded figures = tabulate (byte_at figures) (8 * length figures)
