-- The kept entries, best first. Assumes nothing.
use Rattle.std.specs.Prelude.{Bool, cond, ◌&&◌, List, [], ◌∷◌, ◌++◌, ℕ, zero, suc, eqb, length, get_or, take, drop}
use Rattle.arith.specs.Rank.{before}
-- the struct of src/entries: a node and its figure
pub use Rattle.topk.specs.declared.entries.Entry.{Entry}

abbrev pub entry : ℕ → ℕ → Entry
entry node figure = record { node = node; figure = figure }

-- x ranks before y: its figure is larger, or equal and its number lower
unfoldable pub ranks_before : Entry → Entry → Bool
ranks_before x y = before x.figure x.node y.figure y.node

-- e put before the first entry that it ranks before
unfoldable pub insert : Entry → List Entry → List Entry
insert e [] = e ∷ []
insert e (x ∷ xs) = cond (ranks_before e x) (e ∷ x ∷ xs) (x ∷ insert e xs)

-- the best k with e among them
unfoldable pub keep : ℕ → Entry → List Entry → List Entry
keep k e xs = take k (insert e xs)

-- the last entry, or d
abbrev pub last_or : Entry → List Entry → Entry
last_or d [] = d
last_or d (x ∷ xs) = last_or x xs

abbrev pub last_entry : List Entry → Entry
last_entry xs = last_or (entry 0 0) xs

-- k are kept, and e ranks after the last of them
unfoldable pub stops : ℕ → Entry → List Entry → Bool
stops k e xs = eqb (length xs) k && ranks_before (last_entry xs) e

-- entries laid out in a row: entry i has its node at 2i and its figure at 2i + 1
abbrev pub flat : List Entry → List ℕ
flat [] = []
flat (x ∷ xs) = x.node ∷ x.figure ∷ flat xs

-- the entries over a buffer, which keeps what lies past them
abbrev pub over : List Entry → List ℕ → List ℕ
over xs buffer = flat xs ++ drop (length (flat xs)) buffer

-- the first m entries of a buffer that has them in a row
unfoldable pub entries_of : ℕ → List ℕ → List Entry
entries_of zero buffer = []
entries_of (suc m) buffer = entry (get_or buffer 0 0) (get_or buffer 1 0) ∷ entries_of m (drop 2 buffer)
