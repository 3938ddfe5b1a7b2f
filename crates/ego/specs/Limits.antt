-- The limits of a score. src/limits.rt has the same, once each. Assumes nothing.
use Rattle.std.specs.Prelude.{ℕ}

-- the most edges that a node may have
abbrev pub limit : ℕ
limit = 40

-- 01's grains: so many make 1
abbrev pub unit : ℕ
unit = 5342931457063200
