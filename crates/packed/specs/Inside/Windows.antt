-- Windows of pairs by their numbers. Assumes nothing.
use Rattle.std.specs.Prelude.{cond, ◌&&◌, Option, Some, None, ℕ, ◌+◌, ◌-◌, leb, ltb}

-- how many pairs a window has
abbrev pub window : ℕ
window = 8192

-- the place of the pair of number p in the window that begins with the number `start`, and `window` where the pair is in another
unfoldable pub place_in : ℕ → ℕ → ℕ
place_in start p = cond (leb start p && ltb p (start + window)) (p - start) window

-- that place, if the pair is in the window
unfoldable pub placed : ℕ → ℕ → Option ℕ
placed start p = cond (leb start p && ltb p (start + window)) (Some (p - start)) None
