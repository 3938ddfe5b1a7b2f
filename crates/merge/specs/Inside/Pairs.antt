-- A step of the walk over the pairs that theirs has changed. Assumes nothing.
use Rattle.std.specs.Prelude.{Option, Some, None, ◌≡◌, ℕ, ◌+◌}
use Rattle.packed.specs.Pairs.{pair_count}
use Rattle.merge.specs.Inside.Walk.{FirstChanged, NextPair}
use Rattle.merge.specs.declared.brought.Changes.{Changes}
use Rattle.merge.specs.declared.changed.Pair.{Pair}
use Rattle.merge.specs.declared.changed.ChangedPairs.{ChangedPairs}

-- it walks over the changes of n nodes
pub record WalksOn (changes : Changes) (n : ℕ) (s : ChangedPairs) : Type 0 where
  pub same : s.changes ≡ changes
  pub nodes : s.n ≡ n

-- it gave that pair, and stands after it
pub record Gave (s : ChangedPairs) (r : Pair) (t : ChangedPairs) : Type 0 where
  pub next : NextPair s.changes.theirs.now s.changes.base.now s.n s.a s.b r
  pub same : WalksOn s.changes s.n t
  pub at : (t.a ≡ r.a + 1) × (t.b ≡ r.b)

-- the next pair, or none where theirs has changed none that is left
abbrev pub Walks : ChangedPairs → Option Pair → ChangedPairs → Type 0
Walks s (Some r) t = Gave s r t
Walks s None t = FirstChanged s.changes.theirs.now s.changes.base.now s.n s.a s.b (pair_count s.n)
