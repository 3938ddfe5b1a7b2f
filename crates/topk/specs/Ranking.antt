-- All nodes by score, and the stale nodes that a list works out. Assumes nothing.
use Rattle.std.specs.Prelude.{◌&&◌, Bool, not, [], List, suc, zero, ℕ, get_or}
use Rattle.state.specs.Marks.{stale}
use Rattle.topk.specs.Entries.{Entry, entry, ranks_before, insert, last_entry}

-- The nodes below n by score, larger first, then lower number.
unfoldable pub ranking : (ℕ → ℕ) → ℕ → List Entry
ranking truth zero = []
ranking truth (suc i) = insert (entry i (truth i)) (ranking truth i)

-- Node p is stale beforehand, and its stored figure, then number, ranks at or before the last listed score and its number.
unfoldable pub works_out : List ℕ → List ℕ → List Entry → ℕ → Bool
works_out figures marks xs p = stale marks p && not (ranks_before (last_entry xs) (entry p (get_or figures p 0)))
