-- The bytes of a line of output. Assumes nothing.
use Rattle.std.specs.Prelude.{List, ℕ, [], ◌++◌, ◌∷◌}
use Rattle.std.specs.Fmt.{decimal}

-- a space and a number in decimal
abbrev pub field : ℕ → List ℕ
field x = 32 ∷ decimal x

-- and the line end
abbrev pub ended : List ℕ → List ℕ
ended bs = bs ++ 10 ∷ []
